use Rattle.std.proofs.Common.{◌≡◌, drop}
use Rattle.dh_tree.specs.Elements.{banks_of}
use Rattle.dh_meets.specs.Charges.{loop_factors}
use Rattle.dh_ports.specs.Banks.{path_of_number}
use Rattle.dh_size.proofs.IndexTurns.{bank_told_at}
use Rattle.dh_size.proofs.paths.bank_at.Given as goal

abbrev pub invariant-loop-i : goal.invariant-loop-i
invariant-loop-i l =
    (l.count ≡ banks_of (drop l.i l.dims))
    × (l.bank ≡ bank_told_at l.typed l.loops (path_of_number (loop_factors l.loops) l.number) (drop l.i l.dims) (drop l.i l.indices))
