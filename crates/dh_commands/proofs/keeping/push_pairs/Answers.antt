use Rattle.std.proofs.Common.{ℕ, ◌<◌, ◌≤◌, ap, sym, ◌∙◌, subst, add-one}
use Rattle.std.proofs.lemmas.List.{get_or-map, length-map}
use Rattle.dh_tree.specs.declared.trees.expressions.Expr.{Expr}
use Rattle.dh_tree.specs.Seen.{term_seen}
use Rattle.dh_commands.specs.Keeping.{paired}
use Rattle.dh_commands.proofs.KeptWords.{made_last, words_first, words_last, words_on}
use Rattle.dh_commands.proofs.keeping.push_pairs.Goals as goal

pub loop-pair-init : goal.loop-pair-init
loop-pair-init c = words_first c.args.scene.now c.args.lane.now c.args.current.now c.args.draft.now c.args.accesses.now c.args.first (paired c.args.by.now) c.new-values.result.items c.new-values.ensures.items

pub loop-pair-preserved : goal.loop-pair-preserved
loop-pair-preserved c = rw (add-one c.loop-pair.pair-index)
    (words_on c.args.scene.now c.args.lane.now c.args.current.now c.args.draft.now c.args.accesses.now c.args.first (paired c.args.by.now) c.loop-pair.pair-index c.loop-pair.draft c.push_term.new.draft c.loop-pair.accesses c.push_term.new.accesses
    c.loop-pair.values.items c.push.new.self.items c.loop-pair.next (term_seen c.pair-item.result.1) c.in_ok-valued.valued
    (subst (λ (n : ℕ). c.loop-pair.pair-index < n) (sym (length-map c.args.by.now (λ (p : ℕ × Expr). term_seen p.1))) c.loop-pair-test.true)
    (ap (λ (p : ℕ × Expr). term_seen p.1) c.pair-item.is ∙ sym (get_or-map (λ (p : ℕ × Expr). term_seen p.1) c.args.by.now c.loop-pair.pair-index c.pair-item.result (term_seen c.pair-item.result.1) c.loop-pair-test.true))
    c.in_ok-push.ensures.items c.in_ok-valued.ensures.means c.in_ok-valued.ensures.made c.loop-pair.invariant)

pub returns-clause-means : goal.returns-clause-means
returns-clause-means c =
    words_last c.args.scene.now c.args.lane.now c.args.current.now c.args.draft.now c.loop-pair.draft c.args.accesses.now c.loop-pair.accesses c.args.first (paired c.args.by.now) c.loop-pair.pair-index c.loop-pair.values.items c.loop-pair.next
    (subst (λ (n : ℕ). n ≤ c.loop-pair.pair-index) (sym (length-map c.args.by.now (λ (p : ℕ × Expr). term_seen p.1))) c.loop-pair-test.false) c.loop-pair.invariant

pub returns-clause-made : goal.returns-clause-made
returns-clause-made c =
    made_last c.args.scene.now c.args.lane.now c.args.current.now c.args.draft.now c.loop-pair.draft c.args.accesses.now c.loop-pair.accesses c.args.first (paired c.args.by.now) c.loop-pair.pair-index c.loop-pair.values.items c.loop-pair.next
    (subst (λ (n : ℕ). n ≤ c.loop-pair.pair-index) (sym (length-map c.args.by.now (λ (p : ℕ × Expr). term_seen p.1))) c.loop-pair-test.false) c.loop-pair.invariant
