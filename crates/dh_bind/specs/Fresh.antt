-- The ledger of a memory of which nothing is spent.
use Rattle.std.specs.Prelude.{replicate}
use Rattle.dh_ledger.specs.Spending.{Spending}
use Rattle.dh_tree.specs.declared.tables.MemEntry.{MemEntry}

abbrev pub fresh : MemEntry → Spending
fresh e = record { ports = e.shape.ports; spent = replicate 64 0 }
