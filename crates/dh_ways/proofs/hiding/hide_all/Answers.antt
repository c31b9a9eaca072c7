use Rattle.std.proofs.Common.{ℕ, ◌+◌, ◌<◌, ◌≤◌, ◌++◌, ap, sym, ◌∙◌, subst, map, add-one}
use Rattle.std.proofs.lemmas.List.{get_or-map, length-map}
use Rattle.dh_tree.specs.Seen.{term_seen}
use Rattle.dh_ways.specs.Stands.{hidden_at}
use Rattle.dh_ways.proofs.StandsFound.{hidden_end, hidden_first, hidden_kind, hidden_more}
use Rattle.dh_ways.proofs.hiding.hide_all.Goals as goal

pub loop-i-init : goal.loop-i-init
loop-i-init c = ap (λ l. l ++ hidden_at (c.args.first + 0) c.args.depth c.args.copies (map term_seen c.args.offsets.now)) c.in_ok-hidden.ensures ∙ hidden_first (map term_seen c.args.offsets.now) c.args.first c.args.depth c.args.copies

pub loop-i-preserved : goal.loop-i-preserved
loop-i-preserved c = rw (add-one c.loop-i.i)
    (hidden_more (map term_seen c.args.offsets.now) c.args.first c.loop-i.i c.args.depth c.args.copies c.entity_behind-entity.result c.loop-i.hidden c.push.new.self (term_seen c.index-offsets-i.result)
    (subst (λ (n : ℕ). c.loop-i.i < n) (sym (length-map c.args.offsets.now term_seen)) c.loop-i-test.true)
    (ap term_seen c.index-offsets-i.is ∙ sym (get_or-map term_seen c.args.offsets.now c.loop-i.i c.index-offsets-i.result (term_seen c.index-offsets-i.result) c.loop-i-test.true))
    c.entity_behind-entity.ensures (c.in_ok-push.ensures ∙ hidden_kind c.loop-i.hidden c.entity_behind-entity.result c.args.depth c.args.copies c.kind_of-kind.result (term_seen c.index-offsets-i.result) c.kind_of-kind.ensures) c.loop-i.invariant)

pub returns : goal.returns
returns c = hidden_end (map term_seen c.args.offsets.now) c.args.first c.loop-i.i c.args.depth c.args.copies c.loop-i.hidden (subst (λ (n : ℕ). n ≤ c.loop-i.i) (sym (length-map c.args.offsets.now term_seen)) c.loop-i-test.false) c.loop-i.invariant
