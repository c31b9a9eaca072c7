use Rattle.std.proofs.Common.{arith, inl, inr}
use Rattle.dh_ports.proofs.counting.bank_of.Goals as goal

pub overflow_add-bank : goal.overflow_add-bank
overflow_add-bank c = elim c.requires.alone [
  | inl none ↦ omega (arith, none, c.requires.few)
  | inr none ↦ omega (arith, none, c.ranges.own.fits)
]
