-- So many banks were made.
use Rattle.std.proofs.Common.{◌≡◌, length}
use Rattle.dh_code.specs.Spent.{AreUsedBy}
use Rattle.dh_code.proofs.spending.unused.Given as goal

abbrev pub invariant-loop : goal.invariant-loop
invariant-loop l = (length l.banks.items ≡ l.counter) × AreUsedBy 0 l.banks.items
