use Rattle.std.proofs.Common.{subst}
use Rattle.std.specs.Prelude.{Option}
use Rattle.std.proofs.lemmas.Result.{IfOk-weaker}
use Rattle.dh_events.specs.declared.structures.Form.{Form}
use Rattle.dh_events.specs.Elements.{MakesFrom}
use Rattle.dh_events.proofs.KnownFacts.{cast_made}
use Rattle.dh_events.proofs.known.cast.Goals as goal

pub returns : goal.returns
returns c =
    IfOk-weaker c.made.result _ _
    (λ k m. cast_made c.args.structures.now c.made.new.structures c.args.sort c.args.to c.args.inner k (subst (λ (f : Option Form). MakesFrom c.args.structures.now c.made.new.structures c.args.sort f c.args.inner.newest k) c.cast_form.ensures m))
    c.made.ensures
