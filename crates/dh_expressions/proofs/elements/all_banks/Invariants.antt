-- The banks so far are listed.
use Rattle.std.proofs.Common.{◌≡◌}
use Rattle.dh_expressions.specs.Named.{banks_below}
use Rattle.dh_expressions.proofs.elements.all_banks.Given as goal

abbrev pub invariant-loop-bank : goal.invariant-loop-bank
invariant-loop-bank l = l.banks ≡ banks_below l.set l.place l.bank
