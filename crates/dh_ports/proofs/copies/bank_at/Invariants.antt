use Rattle.std.proofs.Common.{◌≡◌, ◌+◌, drop}
use Rattle.dh_ports.specs.Copies.{bank_of_lanes}
use Rattle.dh_ports.proofs.copies.bank_at.Given as goal

abbrev pub invariant-loop-lane : goal.invariant-loop-lane
invariant-loop-lane l = l.bank + bank_of_lanes l.levels (drop l.lane-index l.lanes) l.number ≡ bank_of_lanes l.levels l.lanes l.number
