use Rattle.std.proofs.Common.{◌≡◌, drop}
use Rattle.dh_net.specs.Clock.{has_clashes}
use Rattle.dh_sim.proofs.ports.is_any_clash.Given as goal

abbrev pub invariant-loop-drivers : goal.invariant-loop-drivers
invariant-loop-drivers l = has_clashes l.wires (drop l.drivers-index l.net.drivers) ≡ has_clashes l.wires l.net.drivers
