use Rattle.std.proofs.Common.{◌≡◌, map, drop}
use Rattle.std.specs.Prelude.{max}
use Rattle.dh_plan.specs.LegalSchedules.{depth_taken, greatest_number}
use Rattle.dh_sched.proofs.chains.deepest_taken.Given as goal

abbrev pub invariant-loop-number : goal.invariant-loop-number
invariant-loop-number l =
    max l.deepest (greatest_number (map (depth_taken l.first l.clock l.clocks l.depths) (drop l.number-index l.taken)))
    ≡ greatest_number (map (depth_taken l.first l.clock l.clocks l.depths) l.taken)
