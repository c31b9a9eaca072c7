use Rattle.std.proofs.Common.{arith, length, ◌∙◌}
use Rattle.std.proofs.lemmas.List.{length-map}
use Rattle.std.specs.Prelude.{map, get_or}
use Rattle.dh_cells.proofs.CellsAppended.{wire_stays, grows_then}
use Rattle.dh_control.specs.AllBlocks.{state_ways}
use Rattle.dh_control.specs.WayMoves.{way_of_decision}
use Rattle.dh_control.proofs.StatesLead.{stand_at, stands_long, way_of_state, next_way}
use Rattle.dh_control.proofs.WaysMoved.{after_sized}
use Rattle.dh_control.proofs.ending.push_ways.Goals as goal

pub bounds-stands-i : goal.bounds-stands-i
bounds-stands-i c =
    let long = stands_long _ c.args.state 0 (map (λ s. s.block) c.args.states.now) c.args.stands.now c.requires.stands in
    let mapped = length-map c.args.states.now (λ s. s.block) in
    let less = c.loop-i-test.true in
    omega (arith, long, mapped, less)

pub push_both-requires-clause-left : goal.push_both-requires-clause-left
push_both-requires-clause-left c = wire_stays _ _ c.args.commit 1 c.loop-i.invariant.added.grows c.requires.commit

pub push_both-requires-clause-right : goal.push_both-requires-clause-right
push_both-requires-clause-right c =
    let long = stands_long _ c.args.state 0 (map (λ s. s.block) c.args.states.now) c.args.stands.now c.requires.stands in
    let mapped = length-map c.args.states.now (λ s. s.block) in
    let less = c.loop-i-test.true in
    wire_stays _ _ _ 1 c.loop-i.invariant.added.grows
    (stand_at _ c.args.state 0 c.loop-i.i c.loop-i.i (map (λ s. s.block) c.args.states.now) c.args.stands.now _ c.requires.stands (omega (arith, long, mapped, less)) (omega arith)).there

pub push_way-requires-clause-after : goal.push_way-requires-clause-after
push_way-requires-clause-after c =
    after_sized _ _ c.args.widths.now c.loop-i.after.items c.args.after.now.items (grows_then _ _ _ c.loop-i.invariant.added.grows c.in_ok-active.ensures.grows) c.loop-i.invariant.kept c.requires.after

pub loop-i-preserved : goal.loop-i-preserved
loop-i-preserved c =
    let long = stands_long _ c.args.state 0 (map (λ s. s.block) c.args.states.now) c.args.stands.now c.requires.stands in
    let mapped = length-map c.args.states.now (λ s. s.block) in
    let less = c.loop-i-test.true in
    record {
      added =
          next_way _ _ _ _ c.args.widths.now c.args.width (length c.args.states.now) c.args.state c.args.commit c.args.after.now.items c.loop-i.after.items (state_ways c.args.states.now) c.loop-i.i c.in_ok-active.active
          (get_or c.args.stands.now c.loop-i.i (record { key = 0; item = 0 })).item (way_of_decision (get_or c.args.states.now c.loop-i.i c.index-states-i.result).next) _ _ _ _ _ _ c.loop-i.invariant.added c.in_ok-active.ensures
          (stand_at _ c.args.state 0 c.loop-i.i c.loop-i.i (map (λ s. s.block) c.args.states.now) c.args.stands.now (record { key = 0; item = 0 }) c.requires.stands (omega (arith, long, mapped, less)) (omega arith))
          c.loop-i.invariant.kept c.in_ok-push_way.ensures.added (way_of_state c.args.states.now c.loop-i.i c.index-states-i.result c.loop-i-test.true);
      kept = c.in_ok-push_way.ensures.kept ∙ c.loop-i.invariant.kept;
    }
