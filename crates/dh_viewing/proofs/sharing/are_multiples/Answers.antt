use Rattle.std.proofs.Common.{ℕ, ◌<◌, ◌≤◌, ap, sym, ◌∙◌, subst, add-one}
use Rattle.std.proofs.lemmas.List.{get_or-map, length-map}
use Rattle.dh_tree.specs.declared.trees.expressions.Expr.{Expr}
use Rattle.dh_viewing.specs.Finding.{factors_paired}
use Rattle.dh_viewing.proofs.PairedFactors.{paired_factors}
use Rattle.dh_viewing.proofs.SharedMaps.{same_end, same_next}
use Rattle.dh_viewing.proofs.sharing.are_multiples.Goals as goal

pub loop-i-preserved : goal.loop-i-preserved
loop-i-preserved c = rw (add-one c.loop-i.i)
    (same_next c.args.numbers.now (factors_paired c.args.by.now) c.loop-i.i
    (subst (λ (n : ℕ). c.loop-i.i < n) (sym c.if-numbers-by.false) c.loop-i-test.true)
    (subst (λ (n : ℕ). c.loop-i.i < n) (sym (length-map c.args.by.now (λ (p : ℕ × Expr). p.0))) c.loop-i-test.true)
    (c.if-numbers-i.false ∙ (ap (λ (p : ℕ × Expr). p.0) c.index-by-i.is ∙ sym (get_or-map (λ (p : ℕ × Expr). p.0) c.args.by.now c.loop-i.i c.index-by-i.result 0 c.loop-i-test.true)))
    c.loop-i.invariant)

pub returns : goal.returns
returns c t =
    same_end c.args.numbers.now (factors_paired c.args.by.now) c.loop-i.i
    (subst (λ (n : ℕ). n ≤ c.loop-i.i) (sym c.if-numbers-by.false) c.loop-i-test.false)
    (subst (λ (n : ℕ). n ≤ c.loop-i.i) (sym (length-map c.args.by.now (λ (p : ℕ × Expr). p.0))) c.loop-i-test.false)
    c.loop-i.invariant
    ∙ paired_factors c.args.by.now
