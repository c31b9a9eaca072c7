use Rattle.dh_cells.proofs.CellsAppended.{grows_then, wire_stays, wires_stay}
use Rattle.dh_control.proofs.ControlPut.{checks_tests, outcome_made}
use Rattle.dh_control.proofs.controlling.push_outcome.Goals as goal

pub push_pace-requires-clause-clock : goal.push_pace-requires-clause-clock
push_pace-requires-clause-clock c = wire_stays _ _ c.args.clock c.args.width c.in_ok-push_all_checks.ensures.grows c.requires.clock

pub push_pace-requires-clause-active : goal.push_pace-requires-clause-active
push_pace-requires-clause-active c = wires_stay _ _ c.args.active.now 1 c.in_ok-push_all_checks.ensures.grows c.requires.active

pub push_verdict-requires-clause-tests : goal.push_verdict-requires-clause-tests
push_verdict-requires-clause-tests c =
    checks_tests _ _ _ c.args.active.now c.args.wires.now c.args.blocks.now _ _ c.as_slice.result.now c.new-tests.ensures c.in_ok-push_all_checks.ensures c.in_ok-pace.ensures.grows c.as_slice.ensures

pub push_each-requires-clause-wires : goal.push_each-requires-clause-wires
push_each-requires-clause-wires c =
    wires_stay _ _ c.args.active.now 1 (grows_then _ _ _ (grows_then _ _ _ c.in_ok-push_all_checks.ensures.grows c.in_ok-pace.ensures.grows) c.in_ok-verdict.ensures.grows) c.requires.active

pub returns : goal.returns
returns c =
    outcome_made _ _ _ _ _ c.args.clock c.args.active.now c.args.lengths.now c.args.wires.now c.args.blocks.now _ _ c.as_slice.result.now c.in_ok-pace.pace c.in_ok-verdict.verdict c.in_ok-commits.commits
    c.new-tests.ensures c.in_ok-push_all_checks.ensures c.in_ok-pace.ensures c.as_slice.ensures c.in_ok-verdict.ensures c.in_ok-commits.ensures
