use Rattle.std.proofs.Common.{ℕ, ◌≡◌, ◌<◌, Some}
use Rattle.std.specs.Prelude.{slice_get}
use Rattle.dh_net.specs.declared.nets.Driver.{Driver}
use Rattle.dh_net.specs.Valid.{IsDriver}
use Rattle.dh_net.proofs.validity.are_drivers.Given as goal

abbrev pub invariant-loop-driver : goal.invariant-loop-driver
invariant-loop-driver l = (k : ℕ) (d : Driver) → k < l.driver-index → slice_get l.drivers k ≡ Some d → IsDriver l.cells l.port d
