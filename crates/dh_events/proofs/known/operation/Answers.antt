use Rattle.std.proofs.Common.{ℕ, subst, max}
use Rattle.std.specs.Prelude.{Option}
use Rattle.std.proofs.lemmas.Result.{IfOk-weaker}
use Rattle.dh_events.specs.declared.structures.Form.{Form}
use Rattle.dh_events.specs.Elements.{MakesFrom}
use Rattle.dh_events.proofs.KnownFacts.{operation_made}
use Rattle.dh_events.proofs.known.operation.Goals as goal

pub returns : goal.returns
returns c =
    IfOk-weaker c.made.result _ _
    (λ k m. operation_made c.args.structures.now c.made.new.structures c.args.sort c.args.op c.args.left c.args.right k
    (subst (λ (f : Option Form). MakesFrom c.args.structures.now c.made.new.structures c.args.sort f (max c.args.left.newest c.args.right.newest) k) c.operation_form.ensures
    (subst (λ (n : ℕ). MakesFrom c.args.structures.now c.made.new.structures c.args.sort c.operation_form.result n k) c.max-newest.ensures m)))
    c.made.ensures
