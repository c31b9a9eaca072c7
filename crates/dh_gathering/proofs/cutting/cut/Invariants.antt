-- From here on the blocks are cut off.
use Rattle.dh_gathering.proofs.BlocksCut.{CutAt}
use Rattle.dh_gathering.proofs.cutting.cut.Given as goal

abbrev pub invariant-loop-i : goal.invariant-loop-i
invariant-loop-i l = CutAt l.fn.operations.items l.starts l.i l.operations.items l.blocks.items
