-- What is put down of a way is plain, and comes behind what is there.
use Rattle.std.proofs.Common.{ℕ, ◌-◌, ◌/◌, Bool, true, false, List, refl, sym, subst}
use Rattle.std.specs.Prelude.{min, Option, Some, None, [], ◌∷◌, ◌++◌, slice_get, map}
use Rattle.dh_value.specs.declared.kinds.Kind.TheVariants as kind
use Rattle.dh_value.specs.Words.{with_bits}
use Rattle.dh_tree.specs.declared.tables.Dim.{Dim}
use Rattle.dh_tree.specs.declared.viewing.ViewMap.{ViewMap}
use Rattle.dh_tree.specs.declared.viewing.ViewSort.{ViewSort}
use Rattle.dh_tree.specs.declared.viewing.ViewSort.TheVariants.{Shrink, Split, Suffix, Shift}
use Rattle.dh_plan.specs.declared.operations.Operation.{Operation}
use Rattle.dh_plan.specs.declared.operations.OperationForm.TheVariants.{Constant}
use Rattle.dh_plan.specs.declared.operations.Reach.{Reach}
use Rattle.dh_plan.specs.declared.operations.ReachStep.{ReachStep}
use Rattle.dh_rows.specs.Readings.{OperationsGrow, GrowsPlain}
use Rattle.dh_rows.specs.MadeOperations.{Made, moved, dealt, moved_width}
use Rattle.dh_rows.proofs.Growing.{plain_grows, plain_self, plain_on, plain_pushed}
use Rattle.dh_rows.proofs.MovedPut.{moved_plain, dealt_plain, spanned_plain}
use Rattle.dh_address.specs.declared.operands.BlockValue.{BlockValue}
use Rattle.dh_address.specs.declared.operands.Ranged.{Ranged}
use Rattle.dh_address.specs.Arounds.{RenumberedBlock}
use Rattle.dh_address.specs.WaysMade.{IndexWay, way, IsIndexWay, operand_of, ranges_by, is_near, bounded_unless, offset_bounded, made_or, moved_literal, moved_operand, moved_one, moved_all, unit_factors, dealt_literal, dealt_operand, dealt_from, view_dealt, passed_by, passed_if, step_passed, steps_passed, way_begun, passed_to, reach_passed}

-- what holds of a way holds of what it was seen as
pub way_as : (P : List Operation → List Ranged → List BlockValue → Type 0) (os : List Operation) (ranges : List Ranged) (indices : List BlockValue) (w : IndexWay)
    → IsIndexWay os ranges indices w → P w.operations w.ranges w.indices → P os ranges indices
way_as P os ranges indices w e h =
    subst (λ (l : List Operation). P l ranges indices) (sym e.0)
    (subst (λ (rs : List Ranged). P w.operations rs indices) (sym e.1.0) (subst (λ (is : List BlockValue). P w.operations w.ranges is) (sym e.1.1) h))

bounded_plain : (near : Bool) (os : List Operation) (e : BlockValue) (bound : ℕ) → GrowsPlain os (bounded_unless near os e bound).operations
bounded_plain false os e bound = spanned_plain os e.kind e.value bound
bounded_plain true os e bound = plain_self os

pub made_or_plain : (l : Option ℕ) (os : List Operation) (width : ℕ) (m : Made) → GrowsPlain os m.operations → GrowsPlain os (made_or os l width m).operations
made_or_plain None os width m g = g
made_or_plain (Some n) os width m g = plain_pushed os (Constant (with_bits (kind.Unsigned width) n)) refl

pub offset_plain : (os : List Operation) (e : BlockValue) (bound : ℕ) → GrowsPlain os (offset_bounded os e bound).operations
offset_plain os e bound = bounded_plain (is_near e.whole bound) os e bound

pub moved_operand_plain : (os : List Operation) (size factor : ℕ) (e i : BlockValue) → GrowsPlain os (moved_operand os size factor e i).operations
moved_operand_plain os size factor e i =
    made_or_plain (moved_literal e.whole i.literal factor size) os (moved_width size) (moved os (moved_width size) (min factor size) e.value i.value)
    (moved_plain os (moved_width size) (min factor size) e.value i.value)

pub moved_one_plain : (size factor : ℕ) (e i : BlockValue) (w : IndexWay) → GrowsPlain w.operations (moved_one size factor e i w).operations
moved_one_plain size factor e i w =
    plain_on w.operations (offset_bounded w.operations e ((size - 1) / factor)).operations _ (offset_plain w.operations e ((size - 1) / factor))
    (moved_operand_plain (offset_bounded w.operations e ((size - 1) / factor)).operations size factor e i)

pub moved_all_plain : (ds : List Dim) (ks : List ℕ) (es is : List BlockValue) (w : IndexWay) → GrowsPlain w.operations (moved_all ds ks es is w).operations
moved_all_plain [] ks es is w = plain_self w.operations
moved_all_plain (d ∷ ds) [] es is w = plain_self w.operations
moved_all_plain (d ∷ ds) (k ∷ ks) [] is w = plain_self w.operations
moved_all_plain (d ∷ ds) (k ∷ ks) (e ∷ es) [] w = plain_self w.operations
moved_all_plain (d ∷ ds) (k ∷ ks) (e ∷ es) (i ∷ is) w =
    plain_on w.operations (moved_one d.size k e i w).operations _ (moved_one_plain d.size k e i w) (moved_all_plain ds ks es is (moved_one d.size k e i w))

dealt_operand_plain : (os : List Operation) (size copies : ℕ) (part : Dim) (a b : BlockValue) → GrowsPlain os (dealt_operand os size copies part a b).operations
dealt_operand_plain os size copies part a b =
    made_or_plain (dealt_literal a.literal b.literal copies part) os (moved_width size) (dealt os (moved_width size) copies part a.value b.value) (dealt_plain os (moved_width size) copies part a.value b.value)

dealt_from_plain : (c part : Dim) (p : Option Dim) (a b : Option BlockValue) (os : List Operation) → GrowsPlain os (dealt_from c part p a b os).operations
dealt_from_plain c part None a b os = plain_self os
dealt_from_plain c part (Some p) None b os = plain_self os
dealt_from_plain c part (Some p) (Some a) None os = plain_self os
dealt_from_plain c part (Some p) (Some a) (Some b) os = dealt_operand_plain os p.size c.size part a b

view_dealt_plain : (c part : Option Dim) (parent : List Dim) (is : List BlockValue) (os : List Operation) → GrowsPlain os (view_dealt c part parent is os).operations
view_dealt_plain None part parent is os = plain_self os
view_dealt_plain (Some c) None parent is os = plain_self os
view_dealt_plain (Some c) (Some part) parent is os = dealt_from_plain c part (slice_get parent 0) (slice_get is 0) (slice_get is 1) os

passed_by_plain : (sort : ViewSort) (v : ViewMap) (es is : List BlockValue) (os : List Operation) (ranges : List Ranged) → GrowsPlain os (passed_by sort v es is os ranges).operations
passed_by_plain Shrink v es is os ranges = plain_self os
passed_by_plain Split v es is os ranges = view_dealt_plain (slice_get v.shape.dims 0) (slice_get v.shape.dims 1) v.parent.dims is os
passed_by_plain Suffix v es is os ranges = moved_all_plain v.parent.dims v.by es is (way os ranges [])
passed_by_plain Shift v es is os ranges = moved_all_plain v.parent.dims (unit_factors v.parent.dims) es is (way os ranges [])

passed_if_plain : (o : Option ViewMap) (es : List BlockValue) (w : IndexWay) → GrowsPlain w.operations (passed_if o es w).operations
passed_if_plain None es w = plain_self w.operations
passed_if_plain (Some v) es w = passed_by_plain v.sort v es w.indices w.operations (w.ranges ++ ranges_by v.shape.dims w.indices)

pub step_plain : (a : RenumberedBlock) (s : ReachStep) (w : IndexWay) → GrowsPlain w.operations (step_passed a s w).operations
step_plain a s w = passed_if_plain (slice_get a.views s.view) (map (operand_of a) s.offsets) w

pub steps_plain : (a : RenumberedBlock) (ss : List ReachStep) (w : IndexWay) → GrowsPlain w.operations (steps_passed a ss w).operations
steps_plain a [] w = plain_self w.operations
steps_plain a (s ∷ ss) w = plain_on w.operations (step_passed a s w).operations _ (step_plain a s w) (steps_plain a ss (step_passed a s w))

to_plain : (a : RenumberedBlock) (r : Reach) (row : Option ℕ) (os : List Operation) → GrowsPlain os (passed_to a r row os).operations
to_plain a r None os = steps_plain a r.steps (way_begun a r os)
to_plain a r (Some row) os = plain_self os

pub reach_plain : (a : RenumberedBlock) (r : Reach) (os : List Operation) → GrowsPlain os (reach_passed a r os).operations
reach_plain a r os = to_plain a r r.row os

-- of what was seen as the way of an access
pub passed_plain : (a : RenumberedBlock) (r : Reach) (old passed : List Operation) (ranges : List Ranged) (indices : List BlockValue) → IsIndexWay passed ranges indices (reach_passed a r old) → GrowsPlain old passed
passed_plain a r old passed ranges indices e = subst (λ (l : List Operation). GrowsPlain old l) (sym e.0) (reach_plain a r old)

pub passed_grows : (a : RenumberedBlock) (r : Reach) (old passed : List Operation) (ranges : List Ranged) (indices : List BlockValue) → IsIndexWay passed ranges indices (reach_passed a r old) → OperationsGrow old passed
passed_grows a r old passed ranges indices e = plain_grows old passed (passed_plain a r old passed ranges indices e)
