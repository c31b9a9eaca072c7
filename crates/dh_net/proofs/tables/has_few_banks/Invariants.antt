use Rattle.std.proofs.Common.{◌≤◌, drop}
use Rattle.dh_tree.specs.Elements.{banks_of}
use Rattle.dh_tree.specs.Shapes.{most_banks}
use Rattle.dh_net.proofs.TableCounts.{Counting}
use Rattle.dh_net.proofs.tables.has_few_banks.Given as goal

-- the count so far times what the rest has is the whole
abbrev pub invariant-loop-dim : goal.invariant-loop-dim
invariant-loop-dim l = record { counts : Counting banks_of l.count l.dims (drop l.dim-index l.dims); within : l.count ≤ most_banks }
