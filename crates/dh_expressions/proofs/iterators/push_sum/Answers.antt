use Rattle.std.proofs.Common.{ℕ, refl, sym, subst}
use Rattle.std.specs.Prelude.{Option}
use Rattle.std.proofs.lemmas.Result.{IfOk-weaker}
use Rattle.dh_expressions.specs.MadeValues.{MadeSum}
use Rattle.dh_expressions.proofs.Multiplying.{sum_none, sum_some}
use Rattle.dh_expressions.proofs.iterators.push_sum.Goals as goal

pub returns-in-Some-clause-means : goal.returns-in-Some-clause-means
returns-in-Some-clause-means c = IfOk-weaker c.push_compute.result _ _ (λ n p. sum_some c.args.draft.now c.push_compute.new.draft c.args.sum c.in-Some.sum c.args.value n c.in-Some.is p) c.push_compute.ensures.means

pub returns-in-None-clause-means : goal.returns-in-None-clause-means
returns-in-None-clause-means c = sum_none c.args.draft.now c.args.sum c.args.value c.in-None.is

pub returns-in-Some-clause-made : goal.returns-in-Some-clause-made
returns-in-Some-clause-made c =
    IfOk-weaker c.push_compute.result _ _ (λ n p. subst (λ (o : Option ℕ). MadeSum o c.args.value c.args.draft.now c.push_compute.new.draft n) (sym c.in-Some.is) p) c.push_compute.ensures.made

pub returns-in-None-clause-made : goal.returns-in-None-clause-made
returns-in-None-clause-made c = subst (λ (o : Option ℕ). MadeSum o c.args.value c.args.draft.now c.args.draft.now c.args.value) (sym c.in-None.is) (refl, refl)
