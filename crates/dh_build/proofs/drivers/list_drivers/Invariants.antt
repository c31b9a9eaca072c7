-- The lists so far are those that were gathered so far.
use Rattle.std.proofs.Common.{◌≡◌}
use Rattle.dh_control.specs.KeyedItems.{vector_items}
use Rattle.dh_build.proofs.drivers.list_drivers.Given as goal

abbrev pub invariant-loop-list : goal.invariant-loop-list
invariant-loop-list l = l.lists ≡ vector_items l.yielded
