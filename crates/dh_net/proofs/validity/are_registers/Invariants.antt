use Rattle.std.proofs.Common.{ℕ, ◌≡◌, ◌<◌, Some}
use Rattle.std.specs.Prelude.{slice_get}
use Rattle.dh_net.specs.declared.nets.Register.{Register}
use Rattle.dh_net.specs.Valid.{IsRegister}
use Rattle.dh_net.proofs.validity.are_registers.Given as goal

abbrev pub invariant-loop-register : goal.invariant-loop-register
invariant-loop-register l = (k : ℕ) (r : Register) → k < l.register-index → slice_get l.net.registers k ≡ Some r → IsRegister l.net.cells r
