use Rattle.std.proofs.Common.{subst}
use Rattle.std.specs.Prelude.{Option}
use Rattle.std.proofs.lemmas.Result.{IfOk-weaker}
use Rattle.dh_events.specs.declared.structures.Form.{Form}
use Rattle.dh_events.specs.Elements.{MakesFrom}
use Rattle.dh_events.proofs.KnownFacts.{read_made}
use Rattle.dh_events.proofs.known.reading.Goals as goal

pub returns : goal.returns
returns c =
    IfOk-weaker c.made.result _ _
    (λ k m. read_made c.args.structures.now c.made.new.structures c.args.sort c.args.entity c.args.element k (subst (λ (f : Option Form). MakesFrom c.args.structures.now c.made.new.structures c.args.sort f c.args.element.newest k) c.read_form.ensures m))
    c.made.ensures
