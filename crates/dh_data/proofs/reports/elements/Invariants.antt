use Rattle.std.proofs.Common.{◌≡◌, ◌^◌, ◌-◌, min, drop}
use Rattle.dh_tree.specs.Tables.{elements_of}
use Rattle.dh_data.proofs.reports.elements.Given as goal

abbrev pub invariant-loop-i : goal.invariant-loop-i
invariant-loop-i l = l.product ≡ min (elements_of (drop l.i l.dims)) (2 ^ 64 - 1)
