-- The registers before the index are listed.
use Rattle.std.proofs.Common.{take}
use Rattle.dh_build.specs.BuiltParts.{AreNetRegisters}
use Rattle.dh_build.proofs.assembling.list_registers.Given as goal

abbrev pub invariant-loop-i : goal.invariant-loop-i
invariant-loop-i l = AreNetRegisters (take l.i l.widths) (take l.i l.initials) (take l.i l.nexts) l.registers
