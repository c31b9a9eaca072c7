-- So many lists are there, each empty.
use Rattle.std.proofs.Common.{◌≡◌, [], replicate}
use Rattle.dh_control.specs.KeyedItems.{vector_items}
use Rattle.dh_control.proofs.gathering.empty_lists.Given as goal

abbrev pub invariant-loop-i : goal.invariant-loop-i
invariant-loop-i g l = vector_items l.lists.items ≡ replicate l.i []
