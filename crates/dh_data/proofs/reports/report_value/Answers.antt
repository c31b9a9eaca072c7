use Rattle.std.proofs.Common.{List, sym, subst}
use Rattle.std.specs.List.{AllByRecursion}
use Rattle.dh_tree.specs.declared.tables.MemEntry.{MemEntry}
use Rattle.dh_data.specs.Reading.{HasCountableNumbers}
use Rattle.dh_data.proofs.Fitting.{held}
use Rattle.dh_data.proofs.reports.report_value.Goals as goal

pub memories_value-requires-clause-table : goal.memories_value-requires-clause-table
memories_value-requires-clause-table c = subst (λ (es : List MemEntry). AllByRecursion HasCountableNumbers es) (sym c.as_slice.ensures) (held c.args.table.now c.requires.table)
