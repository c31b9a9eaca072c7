use Rattle.std.proofs.Common.{◌≡◌, drop}
use Rattle.dh_tree.specs.Elements.{banks_of}
use Rattle.dh_ports.proofs.BankTurns.{bank_at}
use Rattle.dh_ports.proofs.banks.bank_told.Given as goal

abbrev pub invariant-loop-i : goal.invariant-loop-i
invariant-loop-i l =
    (l.count ≡ banks_of (drop l.i l.dims))
    × (l.bank ≡ bank_at l.typed (drop l.i l.dims) (drop l.i l.indices))
