-- The sets of the blocks from the index on are there.
use Rattle.std.proofs.Common.{drop}
use Rattle.dh_control.specs.AllBlocks.{AllSetsAdded}
use Rattle.dh_control.proofs.ending.push_all_sets.Given as goal

abbrev pub invariant-loop-i : goal.invariant-loop-i
invariant-loop-i l = AllSetsAdded l.fn.circuit l.circuit l.widths l.commits l.wires l.i (drop l.i l.blocks) l.fn.moves l.moves
