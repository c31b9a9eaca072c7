use Rattle.std.proofs.Common.{suc, ◌≡◌, ◌+◌, arith}
use Rattle.dh_cells.proofs.CellsAppended.{wire_stays}
use Rattle.dh_control.proofs.ChecksTested.{check_wire, check_added}
use Rattle.dh_control.proofs.checking.push_check.Goals as goal

pub push_not-requires : goal.push_not-requires
push_not-requires c = check_wire _ _ c.args.wires.now c.args.operation.now c.in-Check.ok c.in-Check.fault c.in_ok-asked-in-Check.ensures.grows c.in-Check.is c.requires.suits

pub push_both-requires-clause-left : goal.push_both-requires-clause-left
push_both-requires-clause-left c = wire_stays _ _ c.in_ok-asked-in-Check.asked 1 c.in_ok-wrong-in-Check.ensures.grows c.in_ok-asked-in-Check.ensures.shows.there

pub returns-in_ok-push-in-Check : goal.returns-in_ok-push-in-Check
returns-in_ok-push-in-Check c =
    check_added _ _ _ _ _ c.args.active c.args.wires.now c.args.operation.now c.in-Check.ok c.in-Check.fault (c.in-Check.fault + 1) c.in_ok-asked-in-Check.asked c.in_ok-wrong-in-Check.wrong c.in_ok-test-in-Check.test
    c.in_ok-value-in-Check.value c.args.tests.now c.push.new.self c.in-Check.is c.requires.suits (let same : c.in-Check.fault + 1 ≡ suc c.in-Check.fault = omega arith in same) c.in_ok-asked-in-Check.ensures
    c.in_ok-wrong-in-Check.ensures c.in_ok-test-in-Check.ensures c.in_ok-value-in-Check.ensures c.in_ok-push-in-Check.ensures
