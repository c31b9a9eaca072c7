use Rattle.std.proofs.Common.{◌≡◌, max, drop}
use Rattle.dh_plan.specs.LegalSchedules.{greatest_number}
use Rattle.dh_build.proofs.sizing.greatest.Given as goal

abbrev pub invariant-loop-number : goal.invariant-loop-number
invariant-loop-number l = max l.most (greatest_number (drop l.number-index l.numbers)) ≡ greatest_number l.numbers
