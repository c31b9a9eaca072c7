use Rattle.std.proofs.Common.{None, subst}
use Rattle.std.proofs.lemmas.Result.{IfOk-weaker}
use Rattle.dh_commands.proofs.ArmGuards.{not_made}
use Rattle.dh_value.specs.declared.words.Word.{Word}
use Rattle.dh_plan.specs.declared.operations.OperationForm.TheVariants.{Constant}
use Rattle.dh_expressions.specs.Drafted.{Pushes}
use Rattle.dh_commands.proofs.guarding.push_not.Goals as goal

pub returns-clause-means : goal.returns-clause-means
returns-clause-means c =
    IfOk-weaker c.push_select.result _ _
    (λ n h. not_made c.args.draft.now c.push_constant.new.draft c.push_constant-2.new.draft c.push_select.new.draft c.in_ok-no.no c.in_ok-yes.yes c.args.test n c.truth.result c.truth-2.result c.truth.ensures c.truth-2.ensures
    c.in_ok-no.ensures.means c.in_ok-yes.ensures.means h)
    c.push_select.ensures.means

pub returns-clause-made : goal.returns-clause-made
returns-clause-made c = IfOk-weaker c.push_select.result _ _ (λ n p. record {
  first = c.push_constant.new.draft;
  second = c.push_constant-2.new.draft;
  no_value = c.in_ok-no.no;
  yes_value = c.in_ok-yes.yes;
  no_made = subst (λ (w : Word). Pushes c.args.draft.now c.push_constant.new.draft c.in_ok-no.no None (Constant w)) c.truth.ensures c.in_ok-no.ensures.made;
  yes_made = subst (λ (w : Word). Pushes c.push_constant.new.draft c.push_constant-2.new.draft c.in_ok-yes.yes None (Constant w)) c.truth-2.ensures c.in_ok-yes.ensures.made;
  pushes = p;
}) c.push_select.ensures.made
