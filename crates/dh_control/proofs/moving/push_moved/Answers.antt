use Rattle.std.proofs.Common.{ap, ◌∙◌, arith, length}
use Rattle.dh_cells.proofs.CellsAppended.{wire_stays}
use Rattle.dh_control.proofs.GatheredItems.{list_in, list_there}
use Rattle.dh_control.proofs.MovedLists.{moves_stay, picked_tested, all_moved, next_moved}
use Rattle.dh_control.proofs.moving.push_moved.Goals as goal

pub bounds-lists-i : goal.bounds-lists-i
bounds-lists-i c =
    let same = ap (λ l. length l) c.as_slice-lists.ensures.value in
    let there = list_there (length c.args.wires.now) c.in_ok-lists.lists.items c.args.moves.now c.loop-i.i c.loop-i-test.true c.in_ok-lists.ensures.each in
    omega (arith, same, there)

pub push_first-requires-clause-wires : goal.push_first-requires-clause-wires
push_first-requires-clause-wires c =
    picked_tested _ c.args.widths.now c.args.moves.now c.loop-i.i _ (let small = c.loop-i-test.true in let long = c.requires.wires.long in omega (arith, small, long))
    (moves_stay _ _ c.args.widths.now c.args.moves.now c.loop-i.invariant.grows c.requires.moves)
    (c.as_slice.ensures.value
    ∙ list_in (length c.args.wires.now) c.in_ok-lists.lists.items c.as_slice-lists.result.now c.args.moves.now c.loop-i.i c.index-lists-i.result c.loop-i-test.true c.in_ok-lists.ensures.each c.as_slice-lists.ensures.value c.index-lists-i.is)

pub push_first-requires-clause-default : goal.push_first-requires-clause-default
push_first-requires-clause-default c =
    wire_stays _ _ _ _ c.loop-i.invariant.grows (c.requires.wires.each c.loop-i.i (let small = c.loop-i-test.true in let long = c.requires.wires.long in omega (arith, small, long)))

pub loop-i-preserved : goal.loop-i-preserved
loop-i-preserved c =
    next_moved _ _ _ c.args.widths.now c.args.wires.now c.args.moves.now c.loop-i.i _ _ _ _
    (c.as_slice.ensures.value
    ∙ list_in (length c.args.wires.now) c.in_ok-lists.lists.items c.as_slice-lists.result.now c.args.moves.now c.loop-i.i c.index-lists-i.result c.loop-i-test.true c.in_ok-lists.ensures.each c.as_slice-lists.ensures.value c.index-lists-i.is)
    c.loop-i.invariant c.in_ok-wire.ensures c.in_ok-push.ensures

pub returns : goal.returns
returns c =
    all_moved _ _ c.args.widths.now c.args.wires.now c.args.moves.now c.loop-i.news c.loop-i.i c.requires.wires.long c.loop-i.auto.i-end (let end = c.loop-i-test.false in omega (arith, end)) c.loop-i.invariant
