use Rattle.std.proofs.Common.{List, ℕ, map, subst}
use Rattle.dh_cells.proofs.CellsAppended.{grows_then, wire_stays}
use Rattle.dh_control.specs.ControlsMade.{ResultsMade}
use Rattle.dh_control.proofs.BlocksAdded.{checks_stay, sets_stay}
use Rattle.dh_control.proofs.ControlPut.{stands_listed}
use Rattle.dh_control.proofs.ControlWhole.{control_made}
use Rattle.dh_control.proofs.MovedLists.{sized_stay}
use Rattle.dh_control.proofs.controlling.push_control.Goals as goal

pub push_outcome-requires-clause-clock : goal.push_outcome-requires-clause-clock
push_outcome-requires-clause-clock c = wire_stays _ _ c.args.own.clock c.args.own.clock_width c.in_ok-activity.ensures.grows c.requires.own.clock_wire

pub push_outcome-requires-clause-suit : goal.push_outcome-requires-clause-suit
push_outcome-requires-clause-suit c = checks_stay _ _ c.args.wires.now c.args.blocks.now c.in_ok-activity.ensures.grows c.requires.checks

pub push_after-requires-clause-registers : goal.push_after-requires-clause-registers
push_after-requires-clause-registers c = sized_stay _ _ c.args.widths.now c.args.registers.now (grows_then _ _ _ c.in_ok-activity.ensures.grows c.in_ok-outcome.ensures.grows) c.requires.registers

pub push_after-requires-clause-suit : goal.push_after-requires-clause-suit
push_after-requires-clause-suit c = sets_stay _ _ c.args.widths.now c.args.wires.now c.args.blocks.now (grows_then _ _ _ c.in_ok-activity.ensures.grows c.in_ok-outcome.ensures.grows) c.requires.sets

pub push_results-requires-clause-state : goal.push_results-requires-clause-state
push_results-requires-clause-state c =
    wire_stays _ _ c.args.own.state c.args.own.state_width (grows_then _ _ _ (grows_then _ _ _ c.in_ok-activity.ensures.grows c.in_ok-outcome.ensures.grows) c.in_ok-after.ensures.grows) c.requires.own.state_wire

pub push_results-requires-clause-commit : goal.push_results-requires-clause-commit
push_results-requires-clause-commit c = wire_stays _ _ _ 1 c.in_ok-after.ensures.grows c.in_ok-outcome.ensures.commit

pub push_results-requires-clause-faulted : goal.push_results-requires-clause-faulted
push_results-requires-clause-faulted c = wire_stays _ _ _ 1 c.in_ok-after.ensures.grows c.in_ok-outcome.ensures.faulted

pub push_results-requires-clause-stands : goal.push_results-requires-clause-stands
push_results-requires-clause-stands c =
    stands_listed _ _ c.args.own.state (map (λ s. s.block) c.args.states.now) _ c.as_slice-3.result.now (grows_then _ _ _ c.in_ok-outcome.ensures.grows c.in_ok-after.ensures.grows)
    c.in_ok-activity.ensures.stands_are c.as_slice-3.ensures

pub push_nexts-requires-clause-clock : goal.push_nexts-requires-clause-clock
push_nexts-requires-clause-clock c =
    wire_stays _ _ c.args.own.clock c.args.own.clock_width
    (grows_then _ _ _ (grows_then _ _ _ (grows_then _ _ _ c.in_ok-activity.ensures.grows c.in_ok-outcome.ensures.grows) c.in_ok-after.ensures.grows) c.in_ok-results.ensures.grows) c.requires.own.clock_wire

pub push_nexts-requires-clause-fault : goal.push_nexts-requires-clause-fault
push_nexts-requires-clause-fault c =
    wire_stays _ _ c.args.own.fault 32
    (grows_then _ _ _ (grows_then _ _ _ (grows_then _ _ _ c.in_ok-activity.ensures.grows c.in_ok-outcome.ensures.grows) c.in_ok-after.ensures.grows) c.in_ok-results.ensures.grows) c.requires.own.fault_wire

pub push_nexts-requires-clause-going : goal.push_nexts-requires-clause-going
push_nexts-requires-clause-going c = wire_stays _ _ _ 1 (grows_then _ _ _ c.in_ok-after.ensures.grows c.in_ok-results.ensures.grows) c.in_ok-outcome.ensures.going

pub push_nexts-requires-clause-waiting : goal.push_nexts-requires-clause-waiting
push_nexts-requires-clause-waiting c = wire_stays _ _ _ 1 (grows_then _ _ _ c.in_ok-after.ensures.grows c.in_ok-results.ensures.grows) c.in_ok-outcome.ensures.waiting

pub push_nexts-requires-clause-last : goal.push_nexts-requires-clause-last
push_nexts-requires-clause-last c = wire_stays _ _ _ 1 (grows_then _ _ _ c.in_ok-after.ensures.grows c.in_ok-results.ensures.grows) c.in_ok-outcome.ensures.last

pub push_nexts-requires-clause-failed : goal.push_nexts-requires-clause-failed
push_nexts-requires-clause-failed c = wire_stays _ _ _ 32 (grows_then _ _ _ c.in_ok-after.ensures.grows c.in_ok-results.ensures.grows) c.in_ok-outcome.ensures.failed

pub returns : goal.returns
returns c =
    control_made _ _ _ _ _ _ c.args.own c.args.widths.now c.args.registers.now c.args.wires.now c.args.blocks.now c.args.states.now c.args.lengths.now
    c.in_ok-activity.activity c.in_ok-outcome.outcome c.in_ok-after.after c.in_ok-results.results c.in_ok-nexts.nexts c.as_slice.result.now c.as_slice-commits.result.now c.requires.each
    c.as_slice.ensures c.as_slice-commits.ensures c.in_ok-activity.ensures c.in_ok-outcome.ensures c.in_ok-after.ensures
    (subst (λ (l : List ℕ). ResultsMade c.push_after.new.circuit c.push_results.new.circuit c.args.widths.now l c.args.own.state_width c.args.own.state c.in_ok-outcome.outcome.verdict c.args.states.now c.in_ok-results.results)
    c.as_slice-2.ensures c.in_ok-results.ensures)
    c.in_ok-nexts.ensures
