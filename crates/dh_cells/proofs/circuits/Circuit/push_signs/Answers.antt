use Rattle.std.proofs.lemmas.Result.{IfOk-weaker}
use Rattle.dh_cells.proofs.ShiftsMade.{amount_next, signs_next, signs_made}
use Rattle.dh_cells.proofs.circuits.Circuit.push_signs.Goals as goal

pub push-requires : goal.push-requires
push-requires c = amount_next _ c.args.a c.args.width c.requires

pub push-requires-2 : goal.push-requires-2
push-requires-2 c = signs_next _ _ c.args.a c.in_ok-b.b c.args.width _ c.requires c.in_ok-b.ensures.shows c.in_ok-b.ensures.made

pub returns : goal.returns
returns c =
    IfOk-weaker c.push-2.result _ _ (λ wire h. signs_made _ _ _ wire c.args.width c.args.a c.in_ok-b.b c.in_ok-b.ensures.shows h) c.push-2.ensures.shows
