use Rattle.dh_cells.proofs.CellsAppended.{grows_then, wire_stays, wires_stay}
use Rattle.dh_control.specs.StateWires.{wait_of}
use Rattle.dh_control.proofs.StepsPaced.{listed_wires, pace_made}
use Rattle.dh_control.proofs.stepping.push_pace.Goals as goal

pub push_any-requires : goal.push_any-requires
push_any-requires c = listed_wires _ _ (wait_of c.args.clock c.args.active.now c.args.lengths.now) _ c.in_ok-waits.waits c.as_slice.result.now c.in_ok-waits.ensures c.as_slice.ensures

pub push_any-requires-2 : goal.push_any-requires-2
push_any-requires-2 c =
    wires_stay _ _ c.args.active.now 1 (grows_then _ _ _ (grows_then _ _ _ c.in_ok-waits.ensures.grows c.in_ok-waiting.ensures.grows) c.in_ok-done.ensures.grows) c.requires.active

pub push_both-requires-clause-right : goal.push_both-requires-clause-right
push_both-requires-clause-right c = wire_stays _ _ c.in_ok-done.done 1 c.in_ok-going.ensures.grows c.in_ok-done.ensures.shows.there

pub returns : goal.returns
returns c =
    pace_made _ _ _ _ _ _ c.args.clock c.args.active.now c.args.lengths.now c.in_ok-waits.waits c.as_slice.result.now c.in_ok-waiting.waiting c.in_ok-done.done c.in_ok-going.going c.in_ok-last.last
    c.in_ok-waits.ensures c.as_slice.ensures c.in_ok-waiting.ensures c.in_ok-done.ensures c.in_ok-going.ensures c.in_ok-last.ensures
