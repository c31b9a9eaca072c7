use Rattle.std.proofs.lemmas.Result.{IfOk-weaker}
use Rattle.dh_cells.proofs.CellsAppended.{wire_stays}
use Rattle.dh_control.proofs.DriversMade.{pick_some}
use Rattle.dh_control.proofs.driving.push_pick.Goals as goal

pub push_both-requires-clause-left : goal.push_both-requires-clause-left
push_both-requires-clause-left c = wire_stays _ _ c.args.test 1 c.in_ok-picked-in-Some.ensures.grows c.requires.test

pub returns-in_ok-picked-in-Some : goal.returns-in_ok-picked-in-Some
returns-in_ok-picked-in-Some c =
    IfOk-weaker c.push_both.result _ _
    (λ wire h. pick_some _ _ _ c.args.kinds.now c.args.wires.now c.args.test c.args.select c.in-Some.value c.args.bank c.in_ok-picked-in-Some.picked wire c.in-Some.is c.in_ok-picked-in-Some.ensures h)
    c.push_both.ensures
