use Rattle.std.proofs.Common.{◌≡◌, drop}
use Rattle.dh_net.specs.Clock.{served}
use Rattle.dh_sim.proofs.ports.first_active.Given as goal

abbrev pub invariant-loop-driver : goal.invariant-loop-driver
invariant-loop-driver l = served l.wires (drop l.driver-index l.drivers) ≡ served l.wires l.drivers
