use Rattle.std.proofs.Common.{ℕ, ◌≡◌, ◌<◌, Some}
use Rattle.std.specs.Prelude.{slice_get}
use Rattle.dh_net.specs.declared.nets.Cell.{Cell}
use Rattle.dh_net.specs.Valid.{IsCell}
use Rattle.dh_net.proofs.validity.are_cells.Given as goal

abbrev pub invariant-loop-i : goal.invariant-loop-i
invariant-loop-i l = (k : ℕ) (c : Cell) → k < l.i → slice_get l.net.cells k ≡ Some c → IsCell l.net.table l.net.registers l.net.cells k c
