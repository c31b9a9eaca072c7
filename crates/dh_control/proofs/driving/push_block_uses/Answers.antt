use Rattle.std.proofs.Common.{◌<◌, [], length, ◌∙◌, arith}
use Rattle.dh_cells.proofs.CellsAppended.{wire_stays}
use Rattle.dh_control.specs.BlockUses.{times_at}
use Rattle.dh_control.proofs.BlocksDriven.{next_use}
use Rattle.dh_control.proofs.ListFacts.{at_index}
use Rattle.dh_control.proofs.StandsTell.{wires_at}
use Rattle.dh_control.proofs.UsesMade.{use_suits_stay, same_item, item_at}
use Rattle.dh_control.proofs.driving.push_block_uses.Goals as goal

pub push_use-requires-clause-times : goal.push_use-requires-clause-times
push_use-requires-clause-times c = record {
  active = wire_stays _ _ c.args.active 1 c.loop-i.invariant.grows c.requires.active;
  own =
      wire_stays _ _ _ 1 c.loop-i.invariant.grows
      (wires_at _ c.args.at.now 1 _ c.requires.at (at_index (λ n. n < length c.args.at.now) c.args.clocks.now c.loop-i.i 0 c.requires.early (let less = c.loop-i-test.true in let same = c.requires.clocks in omega (arith, less, same))));
  commit = wire_stays _ _ c.args.commit 1 c.loop-i.invariant.grows c.requires.commit;
}

pub push_use-requires-clause-suits : goal.push_use-requires-clause-suits
push_use-requires-clause-suits c =
    use_suits_stay _ _ c.args.kinds.now c.args.wires.now c.args.memories.now _ c.as_slice-list.result.now c.index-operations-i.result c.loop-i.invariant.grows
    (c.as_slice-list.ensures ∙ (c.index-pairs-i.is ∙ same_item c.args.pairs.now c.loop-i.i c.index-pairs-i.result [] (let less = c.loop-i-test.true in let same = c.requires.pairs in omega (arith, less, same))))
    (c.requires.suits c.loop-i.i c.index-operations-i.result (item_at c.args.operations.now c.loop-i.i c.index-operations-i.result c.loop-i-test.true c.index-operations-i.is))

pub loop-i-preserved : goal.loop-i-preserved
loop-i-preserved c =
    next_use c.args.kinds.now c.args.wires.now (times_at c.args.active c.args.commit c.args.at.now c.args.clocks.now) c.args.memories.now c.args.pairs.now _ _ _ c.loop-i.i c.index-operations-i.result c.args.operations.now
    c.as_slice-list.result.now _ _ _ c.loop-i-test.true c.index-operations-i.is
    (c.as_slice-list.ensures ∙ (c.index-pairs-i.is ∙ same_item c.args.pairs.now c.loop-i.i c.index-pairs-i.result [] (let less = c.loop-i-test.true in let same = c.requires.pairs in omega (arith, less, same))))
    c.loop-i.invariant c.in_ok-push_use.ensures
