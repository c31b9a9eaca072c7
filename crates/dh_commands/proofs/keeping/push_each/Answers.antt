use Rattle.std.proofs.Common.{ℕ, ◌<◌, ◌≤◌, ap, sym, ◌∙◌, subst, add-one, map}
use Rattle.std.proofs.lemmas.List.{get_or-map, length-map}
use Rattle.dh_tree.specs.Seen.{term_seen}
use Rattle.dh_commands.proofs.KeptWords.{made_last, words_first, words_last, words_on}
use Rattle.dh_commands.proofs.keeping.push_each.Goals as goal

pub loop-offset-init : goal.loop-offset-init
loop-offset-init c = words_first c.args.scene.now c.args.lane.now c.args.current.now c.args.draft.now c.args.accesses.now c.args.first (map term_seen c.args.offsets.now) c.new-values.result.items c.new-values.ensures.items

pub loop-offset-preserved : goal.loop-offset-preserved
loop-offset-preserved c = rw (add-one c.loop-offset.offset-index)
    (words_on c.args.scene.now c.args.lane.now c.args.current.now c.args.draft.now c.args.accesses.now c.args.first (map term_seen c.args.offsets.now) c.loop-offset.offset-index c.loop-offset.draft c.push_term.new.draft c.loop-offset.accesses c.push_term.new.accesses
    c.loop-offset.values.items c.push.new.self.items c.loop-offset.next (term_seen c.offset-item.result) c.in_ok-valued.valued
    (subst (λ (n : ℕ). c.loop-offset.offset-index < n) (sym (length-map c.args.offsets.now (term_seen))) c.loop-offset-test.true)
    (ap (term_seen) c.offset-item.is ∙ sym (get_or-map (term_seen) c.args.offsets.now c.loop-offset.offset-index c.offset-item.result (term_seen c.offset-item.result) c.loop-offset-test.true))
    c.in_ok-push.ensures.items c.in_ok-valued.ensures.means c.in_ok-valued.ensures.made c.loop-offset.invariant)

pub returns-clause-means : goal.returns-clause-means
returns-clause-means c =
    words_last c.args.scene.now c.args.lane.now c.args.current.now c.args.draft.now c.loop-offset.draft c.args.accesses.now c.loop-offset.accesses c.args.first (map term_seen c.args.offsets.now) c.loop-offset.offset-index c.loop-offset.values.items c.loop-offset.next
    (subst (λ (n : ℕ). n ≤ c.loop-offset.offset-index) (sym (length-map c.args.offsets.now (term_seen))) c.loop-offset-test.false) c.loop-offset.invariant

pub returns-clause-made : goal.returns-clause-made
returns-clause-made c =
    made_last c.args.scene.now c.args.lane.now c.args.current.now c.args.draft.now c.loop-offset.draft c.args.accesses.now c.loop-offset.accesses c.args.first (map term_seen c.args.offsets.now) c.loop-offset.offset-index c.loop-offset.values.items c.loop-offset.next
    (subst (λ (n : ℕ). n ≤ c.loop-offset.offset-index) (sym (length-map c.args.offsets.now (term_seen))) c.loop-offset-test.false) c.loop-offset.invariant
