use Rattle.std.proofs.Common.{◌≡◌, length}
use Rattle.dh_events.specs.Tables.{table_at}
use Rattle.dh_events.proofs.tables.grow.Given as goal

abbrev pub invariant-loop : goal.invariant-loop
invariant-loop l = (length l.numbers.items ≡ l.counter) × (table_at l.numbers.items ≡ table_at l.fn.numbers.items)
