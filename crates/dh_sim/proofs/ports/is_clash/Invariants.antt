use Rattle.std.proofs.Common.{◌≡◌, drop}
use Rattle.std.specs.Prelude.{◌&&◌, ◌||◌}
use Rattle.dh_net.specs.Clock.{any_active, has_clash}
use Rattle.dh_sim.proofs.ports.is_clash.Given as goal

abbrev pub invariant-loop-driver : goal.invariant-loop-driver
invariant-loop-driver l =
    ((l.active && any_active l.wires (drop l.driver-index l.drivers)) || has_clash l.wires (drop l.driver-index l.drivers)) ≡ has_clash l.wires l.drivers
