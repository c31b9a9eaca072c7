use Rattle.dh_tree.specs.Elements as elements
use Rattle.dh_viewing.specs.ReachedBanks.{can_reach}
use Rattle.dh_viewing.proofs.BitsTold.{Told}
use Rattle.dh_viewing.proofs.bank_sets.banks_of.Given as goal

-- the bits are those of the banks from here on
abbrev pub invariant-loop-parent_bank : goal.invariant-loop-parent_bank
invariant-loop-parent_bank l = Told (can_reach l.v l.bank) (elements.banks_of l.v.parent.dims) l.parent_bank l.bits
