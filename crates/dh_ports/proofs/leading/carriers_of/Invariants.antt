-- The first views have their carriers.
use Rattle.std.proofs.Common.{◌≡◌, length}
use Rattle.dh_ports.specs.CarriersMade.{AreMadeCarriers}
use Rattle.dh_ports.proofs.leading.carriers_of.Given as goal

abbrev pub invariant-loop-place : goal.invariant-loop-place
invariant-loop-place l = (length l.each.items ≡ l.place) × AreMadeCarriers l.ways l.each.items
