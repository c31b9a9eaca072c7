use Rattle.std.proofs.Common.{List, ℕ, Bool, drop, length}
use Rattle.serde_json.specs.View.{items_view}
use Rattle.dh_data.specs.DataFiles.{joined_items, in_order}
use Rattle.dh_data.specs.Reading.{PushesElements}
use Rattle.dh_data.proofs.members.+push_elements.Given as goal

abbrev pub decreases-push_elements : goal.decreases-push_elements
decreases-push_elements l = length l.dims.now

abbrev pub invariant-loop-item : goal.invariant-loop-item
invariant-loop-item l =
    (new : List ℕ) (all : Bool) → PushesElements l.kind (joined_items (in_order l.rest) (items_view (drop l.item-index l.item-items))) l.values.items new all
    → PushesElements l.kind (joined_items (in_order l.rest) (items_view l.item-items)) l.fn.values.items new all
