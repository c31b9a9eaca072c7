-- The first banks of the memories so far, and that of the next.
use Rattle.std.proofs.Common.{◌≡◌}
use Rattle.dh_code.specs.Banks.{first_bank}
use Rattle.dh_code.proofs.BankLists.{FirstsTo}
use Rattle.dh_sem.proofs.starting.first_banks.Given as goal

abbrev pub invariant-loop-entry : goal.invariant-loop-entry
invariant-loop-entry l = (l.banks ≡ first_bank l.entries l.entry-index) × FirstsTo l.entries l.firsts.items l.entry-index
