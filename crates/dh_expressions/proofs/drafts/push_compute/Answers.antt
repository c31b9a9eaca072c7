use Rattle.std.proofs.Common.{refl}
use Rattle.std.proofs.lemmas.Result.{IfOk-weaker}
use Rattle.dh_plan.specs.declared.operations.OperationForm.TheVariants.{Compute}
use Rattle.dh_expressions.proofs.Pushing.{computes}
use Rattle.dh_expressions.proofs.drafts.push_compute.Goals as goal

pub returns-clause-means : goal.returns-clause-means
returns-clause-means c = IfOk-weaker c.push.result _ _ (λ v p. computes c.args.draft.now c.push.new.draft v (Compute c.args.op c.args.left c.args.right) p (λ s first ws. refl)) c.push.ensures

pub returns-clause-made : goal.returns-clause-made
returns-clause-made c = c.push.ensures
