use Rattle.std.proofs.Common.{ℕ, List, subst, sym}
use Rattle.std.specs.Prelude.{Option}
use Rattle.std.proofs.lemmas.Result.{IfOk-weaker}
use Rattle.dh_tree.specs.Seen.{form_seen}
use Rattle.dh_plan.specs.declared.operations.OperationForm.TheVariants.{Read}
use Rattle.dh_plan.specs.declared.operations.Reach.{Reach}
use Rattle.dh_expressions.specs.Drafted.{Pushes}
use Rattle.dh_expressions.specs.Reaching.{Finds, reach_told}
use Rattle.dh_expressions.proofs.elements.find_or_read.Goals as goal

pub returns-in_ok-access-in-None : goal.returns-in_ok-access-in-None
returns-in_ok-access-in-None c =
    IfOk-weaker c.push.result _ _ (λ n p.
    subst (λ (o : Option ℕ). Finds c.args.scene.now (form_seen c.args.read.now.form) c.args.draft.now c.push.new.draft c.args.memory c.args.aim.now c.args.copy o n) (sym c.in-None.is)
    (subst (λ (bs : List (ℕ × ℕ)). Pushes c.args.draft.now c.push.new.draft n c.args.copy.guard (Read (reach_told c.args.memory c.args.aim.now bs))) c.in_ok-banks-in-None.ensures
    (subst (λ (r : Reach). Pushes c.args.draft.now c.push.new.draft n c.args.copy.guard (Read r)) c.in_ok-access-in-None.ensures p))) c.push.ensures
