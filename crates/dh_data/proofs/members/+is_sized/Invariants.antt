use Rattle.std.proofs.Common.{drop, length}
use Rattle.dh_data.proofs.Elements.{Sizes}
use Rattle.dh_data.proofs.members.+is_sized.Given as goal

abbrev pub decreases-is_sized : goal.decreases-is_sized
decreases-is_sized l = length l.dims.now

abbrev pub invariant-loop-item : goal.invariant-loop-item
invariant-loop-item l = Sizes l.rest (drop l.item-index l.item-items) l.item-items
