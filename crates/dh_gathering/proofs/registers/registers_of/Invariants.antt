-- The registers of the entities so far have their kinds.
use Rattle.dh_tree.specs.Seen.{program_seen}
use Rattle.dh_gathering.specs.Registers.{AreSuccessive, HaveKinds}
use Rattle.dh_gathering.proofs.registers.registers_of.Given as goal

abbrev pub invariant-loop-i : goal.invariant-loop-i
invariant-loop-i l = AreSuccessive l.held l.count → HaveKinds (program_seen l.program) l.held l.count l.i l.registers
