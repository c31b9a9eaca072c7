use Rattle.std.proofs.lemmas.Result.{IfOk-weaker}
use Rattle.dh_cells.proofs.WiresMade.{zero_made}
use Rattle.dh_cells.proofs.choices.push_extended.Goals as goal

pub returns-in-Bool : goal.returns-in-Bool
returns-in-Bool c =
    IfOk-weaker c.push-in-Bool.result _ _
    (λ new h. zero_made c.args.from c.args.to _ _ new c.args.wire _ c.width-in-Bool.ensures c.in-Bool.is c.requires.wider c.requires.there h)
    c.push-in-Bool.ensures.shows
