-- What room is left for the rest.
use Rattle.std.proofs.Common.{◌≡◌, ◌+◌, drop}
use Rattle.dh_tree.specs.EntitySorts.{one_memory, counted_by}
use Rattle.dh_tree.proofs.trees.sorts.declare_few_memories.Given as goal

abbrev pub invariant-loop-entity : goal.invariant-loop-entity
invariant-loop-entity l = counted_by one_memory l.entities + l.room ≡ counted_by one_memory (drop l.entity-index l.entities) + l.most
