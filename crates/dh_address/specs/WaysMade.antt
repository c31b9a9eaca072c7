-- What is put down of an access before its tests: at each view on its way the indices of the parent, and what is to be in
-- range so that they are right. Indices and offsets may be of any integer kind; behind a view an index is a word of two
-- bits more than the size of its dimension takes. Of constants alone it is a constant.
use Rattle.std.specs.Prelude.{◌≡◌, ℕ, ◌+◌, ◌-◌, ◌*◌, ◌/◌, ◌%◌, ◌^◌, nat_le, nat_lt, min, Bool, false, if◌then◌else◌, List, [], ◌∷◌, ◌++◌, map, slice_get, Option, Some, None, ℤ, pos, int_lt, unsigned_abs}
use Rattle.dh_value.specs.declared.kinds.Kind.{Kind}
use Rattle.dh_value.specs.declared.kinds.Kind.TheVariants as kind
use Rattle.dh_tree.specs.declared.tables.Dim.{Dim}
use Rattle.dh_tree.specs.declared.viewing.ViewMap.{ViewMap}
use Rattle.dh_tree.specs.declared.viewing.ViewSort.{ViewSort}
use Rattle.dh_tree.specs.declared.viewing.ViewSort.TheVariants.{Shrink, Split, Suffix, Shift}
use Rattle.dh_tree.specs.Elements.{dims_at, rows_of}
use Rattle.dh_plan.specs.declared.operations.Operation.{Operation}
use Rattle.dh_plan.specs.declared.operations.Reach.{Reach}
use Rattle.dh_plan.specs.declared.operations.ReachStep.{ReachStep}
use Rattle.dh_rows.specs.declared.spanning.Span.{Span}
use Rattle.dh_rows.specs.MadeOperations.{Made, Spanned, constant_made, moved, dealt, spanned, moved_width}
use Rattle.dh_address.specs.declared.operands.BlockValue.{BlockValue}
use Rattle.dh_address.specs.declared.operands.Ranged.{Ranged}
use Rattle.dh_address.specs.Arounds.{RenumberedBlock, new_number, known_kind}
use Rattle.dh_address.specs.LiteralPlaces.{literal_at, whole_at, below_size}

-- Values by which an access names its element.

abbrev pub new_operand : (literal : Option ℕ) → Kind → (value : ℕ) → BlockValue
new_operand literal k value = record { literal = literal; whole = None; kind = k; value = value }

-- a value of the old plan
abbrev pub operand_of : RenumberedBlock → (value : ℕ) → BlockValue
operand_of a v = record { literal = literal_at a.operations (v - a.first); whole = whole_at a.operations (v - a.first); kind = known_kind a v; value = new_number a v }

abbrev pub ranged_operand : BlockValue → (size : ℕ) → Ranged
ranged_operand o size = record { operand = o; size = size }

abbrev pub ranges_by : List Dim → List BlockValue → List Ranged
ranges_by (d ∷ ds) (i ∷ is) = ranged_operand i d.size ∷ ranges_by ds is
ranges_by _ _ = []

-- Offsets.

-- operations, and what is to be in range of an offset; None where each is
pub record Bounded : Type 0 where
  pub operations : List Operation
  pub range : Option Ranged

abbrev pub IsBounded : List Operation → Option Ranged → Bounded → Type 0
IsBounded os range m = (os ≡ m.operations) × (range ≡ m.range)

abbrev pub span_range : Option Span → Option Ranged
span_range None = None
span_range (Some s) = Some (ranged_operand (new_operand None s.kind s.value) s.size)

abbrev pub bounded_span : Spanned → Bounded
bounded_span m = record { operations = m.operations; range = span_range m.span }

-- a constant is no further from 0 than a bound
abbrev pub is_near : Option ℤ → (bound : ℕ) → Bool
is_near None bound = false
is_near (Some z) bound = nat_le (unsigned_abs z) bound

-- of such a constant nothing is to be tested
abbrev pub bounded_unless : (near : Bool) → List Operation → BlockValue → (bound : ℕ) → Bounded
bounded_unless near os e bound = if near then record { operations = os; range = None } else bounded_span (spanned os e.kind e.value bound)

abbrev pub offset_bounded : List Operation → BlockValue → (bound : ℕ) → Bounded
offset_bounded os e bound = bounded_unless (is_near e.whole bound) os e bound

-- Indices behind a view.

pub record PlacedOperand : Type 0 where
  pub operations : List Operation
  pub operand : BlockValue

abbrev pub IsPlacedOperand : List Operation → BlockValue → PlacedOperand → Type 0
IsPlacedOperand os o m = (os ≡ m.operations) × (o ≡ m.operand)

abbrev pub placed_as : (literal : Option ℕ) → (width : ℕ) → Made → PlacedOperand
placed_as literal width m = record { operations = m.operations; operand = new_operand literal (kind.Unsigned width) m.value }

abbrev pub made_or : List Operation → (literal : Option ℕ) → (width : ℕ) → (otherwise : Made) → Made
made_or os None width m = m
made_or os (Some n) width m = constant_made os width n

-- an index that moved by so much, back or on; none is below 0
abbrev pub index_moved : (back : Bool) → (by index : ℕ) → Option ℕ
index_moved back by index = if back then (if nat_le by index then Some (index - by) else None) else Some ((by + index) % 2 ^ 64)

-- how many steps an offset moves an index, in a word of 64 bits
abbrev pub word_steps : ℕ → ℕ
word_steps n = if nat_lt n (2 ^ 64) then n else 0

abbrev pub steps_by : (offset : ℤ) → (factor : ℕ) → ℕ
steps_by e factor = word_steps (unsigned_abs e) * factor % 2 ^ 64

-- a constant that is moved so far that it is in range
abbrev pub moved_literal : (offset : Option ℤ) → (index : Option ℕ) → (factor size : ℕ) → Option ℕ
moved_literal (Some e) (Some i) factor size = below_size (index_moved (int_lt e (pos 0)) (steps_by e factor) i) size
moved_literal _ _ factor size = None

abbrev pub moved_made : List Operation → (literal : Option ℕ) → (width factor offset index : ℕ) → Made
moved_made os literal width factor offset index = made_or os literal width (moved os width factor offset index)

abbrev pub moved_as : (literal : Option ℕ) → List Operation → (width factor offset index : ℕ) → PlacedOperand
moved_as literal os width factor offset index = placed_as literal width (moved_made os literal width factor offset index)

-- a small offset is 0 where the factor is beyond the size: then any multiple will do
abbrev pub moved_operand : List Operation → (size factor : ℕ) → (offset index : BlockValue) → PlacedOperand
moved_operand os size factor offset index = moved_as (moved_literal offset.whole index.literal factor size) os (moved_width size) (min factor size) offset.value index.value

-- the constant of a copy and a place in it, where both are in range
abbrev pub dealt_known : (copy index : Option ℕ) → (copies : ℕ) → Dim → Option ℕ
dealt_known (Some a) (Some b) copies part = Some (((b / part.banks * copies % 2 ^ 64 + a) % 2 ^ 64 * part.banks % 2 ^ 64 + b % part.banks) % 2 ^ 64)
dealt_known _ _ copies part = None

abbrev pub dealt_literal : (copy index : Option ℕ) → (copies : ℕ) → Dim → Option ℕ
dealt_literal copy index copies part = dealt_known (below_size copy copies) (below_size index part.size) copies part

abbrev pub dealt_made : List Operation → (literal : Option ℕ) → (width copies : ℕ) → Dim → (copy index : ℕ) → Made
dealt_made os literal width copies part copy index = made_or os literal width (dealt os width copies part copy index)

abbrev pub dealt_as : (literal : Option ℕ) → List Operation → (width copies : ℕ) → Dim → (copy index : ℕ) → PlacedOperand
dealt_as literal os width copies part copy index = placed_as literal width (dealt_made os literal width copies part copy index)

abbrev pub dealt_operand : List Operation → (size copies : ℕ) → Dim → (copy index : BlockValue) → PlacedOperand
dealt_operand os size copies part copy index = dealt_as (dealt_literal copy.literal index.literal copies part) os (moved_width size) copies part copy.value index.value

-- Ways.

-- operations, what is to be in range, and indices
pub record IndexWay : Type 0 where
  pub operations : List Operation
  pub ranges : List Ranged
  pub indices : List BlockValue

abbrev pub way : List Operation → List Ranged → List BlockValue → IndexWay
way os ranges indices = record { operations = os; ranges = ranges; indices = indices }

abbrev pub IsIndexWay : List Operation → List Ranged → List BlockValue → IndexWay → Type 0
IsIndexWay os ranges indices w = (os ≡ w.operations) × ((ranges ≡ w.ranges) × (indices ≡ w.indices))

abbrev pub maybe_range : Option Ranged → List Ranged
maybe_range None = []
maybe_range (Some r) = r ∷ []

-- Of a view that moves, dimension by dimension.

abbrev pub moved_last : IndexWay → Option Ranged → PlacedOperand → IndexWay
moved_last w range m = way m.operations (w.ranges ++ maybe_range range) (w.indices ++ m.operand ∷ [])

abbrev pub moved_next : (size factor : ℕ) → (offset index : BlockValue) → IndexWay → Bounded → IndexWay
moved_next size factor offset index w b = moved_last w b.range (moved_operand b.operations size factor offset index)

abbrev pub moved_one : (size factor : ℕ) → (offset index : BlockValue) → IndexWay → IndexWay
moved_one size factor offset index w = moved_next size factor offset index w (offset_bounded w.operations offset ((size - 1) / factor))

abbrev pub moved_all : List Dim → (factors : List ℕ) → (offsets indices : List BlockValue) → IndexWay → IndexWay
moved_all (d ∷ ds) (k ∷ ks) (e ∷ es) (i ∷ is) w = moved_all ds ks es is (moved_one d.size k e i w)
moved_all _ _ _ _ w = w

-- a shift has no factors
abbrev pub unit_factors : List Dim → List ℕ
unit_factors dims = map (λ d. 1) dims

-- Of a split.

pub record Dealt : Type 0 where
  pub operations : List Operation
  pub indices : List BlockValue

abbrev pub dealt_one : PlacedOperand → Dealt
dealt_one m = record { operations = m.operations; indices = m.operand ∷ [] }

abbrev pub IsDealt : Dealt → List Operation → List BlockValue → Type 0
IsDealt m os indices = (os ≡ m.operations) × (indices ≡ m.indices)

-- where a dimension or an index lacks
abbrev pub none_dealt : List Operation → Dealt
none_dealt os = record { operations = os; indices = [] }

abbrev pub dealt_from : (copies part : Dim) → (parent : Option Dim) → (copy index : Option BlockValue) → List Operation → Dealt
dealt_from c part (Some p) (Some a) (Some b) os = dealt_one (dealt_operand os p.size c.size part a b)
dealt_from c part _ _ _ os = none_dealt os

abbrev pub share_dealt : (copies part : Dim) → (parent : List Dim) → List BlockValue → List Operation → Dealt
share_dealt c part parent is os = dealt_from c part (slice_get parent 0) (slice_get is 0) (slice_get is 1) os

abbrev pub view_dealt : (copies part : Option Dim) → (parent : List Dim) → List BlockValue → List Operation → Dealt
view_dealt (Some c) (Some part) parent is os = share_dealt c part parent is os
view_dealt _ _ parent is os = none_dealt os

abbrev pub split_made : (view parent : List Dim) → List BlockValue → List Operation → Dealt
split_made view parent is os = view_dealt (slice_get view 0) (slice_get view 1) parent is os

abbrev pub dealt_way : List Ranged → Dealt → IndexWay
dealt_way ranges m = way m.operations ranges m.indices

-- Of any view: behind what is to be in range so far.

abbrev pub passed_by : ViewSort → ViewMap → (offsets indices : List BlockValue) → List Operation → List Ranged → IndexWay
passed_by Shrink v es is os ranges = way os ranges is
passed_by Split v es is os ranges = dealt_way ranges (split_made v.shape.dims v.parent.dims is os)
passed_by Suffix v es is os ranges = moved_all v.parent.dims v.by es is (way os ranges [])
passed_by Shift v es is os ranges = moved_all v.parent.dims (unit_factors v.parent.dims) es is (way os ranges [])

abbrev pub passed_if : Option ViewMap → (offsets : List BlockValue) → IndexWay → IndexWay
passed_if None es w = w
passed_if (Some v) es w = passed_by v.sort v es w.indices w.operations (w.ranges ++ ranges_by v.shape.dims w.indices)

abbrev pub step_passed : RenumberedBlock → ReachStep → IndexWay → IndexWay
step_passed a s w = passed_if (slice_get a.views s.view) (map (operand_of a) s.offsets) w

abbrev pub steps_passed : RenumberedBlock → List ReachStep → IndexWay → IndexWay
steps_passed a [] w = w
steps_passed a (s ∷ ss) w = steps_passed a ss (step_passed a s w)

-- in the end the indices of the memory are to be in range
abbrev pub with_ranges : List Dim → IndexWay → IndexWay
with_ranges dims w = way w.operations (w.ranges ++ ranges_by dims w.indices) w.indices

abbrev pub way_begun : RenumberedBlock → Reach → List Operation → IndexWay
way_begun a r os = way os [] (map (operand_of a) r.indices)

abbrev pub passed_to : RenumberedBlock → Reach → (row : Option ℕ) → List Operation → IndexWay
passed_to a r None os = with_ranges (dims_at a.table r.memory) (steps_passed a r.steps (way_begun a r os))
passed_to a r (Some row) os = way os (ranged_operand (operand_of a row) (rows_of (dims_at a.table r.memory) % 2 ^ 64) ∷ []) []

-- of an access
abbrev pub reach_passed : RenumberedBlock → Reach → List Operation → IndexWay
reach_passed a r os = passed_to a r r.row os
