-- Whatever blocks the operations are of: those up to this one are left, and those from it on are cut off.
use Rattle.std.specs.Prelude.{◌≡◌, List, length}
use Rattle.dh_plan.specs.declared.operations.PlanBlock.{PlanBlock}
use Rattle.dh_address.specs.Images.{operations_until}
use Rattle.dh_address.specs.Cuts.{AreStarts}
use Rattle.dh_address.proofs.BlocksAppended.{HasCut}
use Rattle.dh_address.proofs.cutting.cut_blocks.Given as goal

abbrev pub invariant-loop-i : goal.invariant-loop-i
invariant-loop-i l =
    (blocks : List PlanBlock) → AreStarts blocks l.starts → l.fn.operations.items ≡ operations_until blocks (length blocks) → HasCut blocks l.i l.operations.items l.blocks.items
