-- The operations before the index are driven.
use Rattle.std.proofs.Common.{take}
use Rattle.dh_control.specs.BlockUses.{BlockDriven, times_at}
use Rattle.dh_control.proofs.driving.push_block_uses.Given as goal

abbrev pub invariant-loop-i : goal.invariant-loop-i
invariant-loop-i l =
    BlockDriven l.fn.circuit l.circuit l.kinds l.wires (times_at l.active l.commit l.at l.clocks) l.memories l.pairs (take l.i l.operations) l.fn.drivers l.drivers
