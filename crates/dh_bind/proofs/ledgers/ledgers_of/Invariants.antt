use Rattle.std.proofs.Common.{◌≡◌, map, take, drop}
use Rattle.std.specs.List.{AllByRecursion}
use Rattle.dh_tree.specs.Shapes.{IsMemory}
use Rattle.dh_bind.specs.Fresh.{fresh}
use Rattle.dh_bind.proofs.ledgers.ledgers_of.Given as goal

abbrev pub invariant-loop-entry : goal.invariant-loop-entry
invariant-loop-entry l = record {
  so_far : l.ledgers.items ≡ map fresh (take l.entry-index l.table);
  rest : AllByRecursion IsMemory (drop l.entry-index l.table);
}
