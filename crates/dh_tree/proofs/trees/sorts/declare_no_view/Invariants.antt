-- Those so far are none.
use Rattle.std.proofs.Common.{◌≡◌, drop}
use Rattle.dh_tree.specs.EntitySorts.{one_view, counted_by}
use Rattle.dh_tree.proofs.trees.sorts.declare_no_view.Given as goal

abbrev pub invariant-loop-entity : goal.invariant-loop-entity
invariant-loop-entity l = counted_by one_view l.entities ≡ counted_by one_view (drop l.entity-index l.entities)
