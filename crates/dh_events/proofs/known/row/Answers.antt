use Rattle.std.proofs.Common.{subst}
use Rattle.std.specs.Prelude.{Option}
use Rattle.std.proofs.lemmas.Result.{IfOk-weaker}
use Rattle.dh_events.specs.declared.structures.Form.{Form}
use Rattle.dh_events.specs.declared.structures.MaybeKind.TheVariants as sort
use Rattle.dh_events.specs.Elements.{MakesFrom}
use Rattle.dh_events.proofs.KnownFacts.{row_made}
use Rattle.dh_events.proofs.known.row.Goals as goal

pub returns : goal.returns
returns c =
    IfOk-weaker c.made.result _ _
    (λ k m. row_made c.args.structures.now c.made.new.structures c.args.bank c.args.row k (subst (λ (f : Option Form). MakesFrom c.args.structures.now c.made.new.structures sort.Unknown f c.args.row.newest k) c.row_form.ensures m))
    c.made.ensures
