use Rattle.std.proofs.Common.{drop}
use Rattle.dh_tree.specs.Tables.{elements_of}
use Rattle.dh_net.proofs.TableCounts.{Counting}
use Rattle.dh_net.proofs.tables.elements_within.Given as goal

-- the count so far times what the rest has is the whole
abbrev pub invariant-loop-dim : goal.invariant-loop-dim
invariant-loop-dim l = Counting elements_of l.count l.dims (drop l.dim-index l.dims)
