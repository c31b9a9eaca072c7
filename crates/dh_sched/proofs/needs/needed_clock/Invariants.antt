use Rattle.std.proofs.Common.{◌≡◌, map, drop}
use Rattle.std.specs.Prelude.{max}
use Rattle.dh_plan.specs.LegalSchedules.{value_clock, greatest_number}
use Rattle.dh_sched.proofs.needs.needed_clock.Given as goal

abbrev pub invariant-loop-number : goal.invariant-loop-number
invariant-loop-number l =
    max l.needed (greatest_number (map (value_clock l.first l.operations l.clocks) (drop l.number-index l.taken)))
    ≡ greatest_number (map (value_clock l.first l.operations l.clocks) l.taken)
