-- The banks of the memories so far.
use Rattle.std.proofs.Common.{◌≡◌}
use Rattle.dh_code.specs.Banks.{first_bank}
use Rattle.dh_sem.proofs.starting.count_banks.Given as goal

abbrev pub invariant-loop-entry : goal.invariant-loop-entry
invariant-loop-entry l = l.banks ≡ first_bank l.entries l.entry-index
