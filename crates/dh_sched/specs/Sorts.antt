-- What functions of this crate promise one another.
use Rattle.std.specs.Prelude.{◌≡◌, ◌↔◌, ℕ, suc, ◌+◌, ◌<◌, ◌≤◌, ◌^◌, ◌==◌, ◌&&◌, max, Bool, true, false, IsTrue, if◌then◌else◌, List, map, slice_get, slice_index, Option, Some, None, unwrap_or, Result, IfOk}
use Rattle.std.specs.List.{AllByRecursion}
use Rattle.std.specs.BTreeMap.{BTreeMap, get}
use Rattle.std.specs.Ordering.{nat_cmp}
use Rattle.dh_base.specs.declared.lists.NoMemory.{NoMemory}
use Rattle.dh_value.specs.declared.operators.Op.{Op}
use Rattle.dh_value.specs.declared.operators.Op.TheVariants as op
use Rattle.dh_plan.specs.declared.operations.Operation.{Operation}
use Rattle.dh_plan.specs.declared.schedules.Limits.{Limits}
use Rattle.dh_plan.specs.LegalSchedules.{needed_clock, there_at, value_clock, greatest_number, is_product, products_at, depths_in, IsWithin, IsLegalBlock}

-- an operator multiplies
abbrev pub is_times : Op → Bool
is_times op.Mul = true
is_times _ = false

-- the clock from which on all of these values are there
abbrev pub all_there_at : (first : ℕ) → List Operation → (clocks taken : List ℕ) → ℕ
all_there_at first os clocks taken = greatest_number (map (value_clock first os clocks) taken)

-- no clock has more multiplications than the limit allows
abbrev pub KeepsProducts : (limit : ℕ) → List Operation → (clocks : List ℕ) → Type 0
KeepsProducts limit os clocks = (clock : ℕ) → IsWithin limit (products_at clock os clocks)

-- no more operators follow one another in a clock than the limit allows
abbrev pub KeepsChains : (limit first : ℕ) → List Operation → (clocks : List ℕ) → Type 0
KeepsChains limit first os clocks = AllByRecursion (IsWithin limit) (depths_in first os clocks)

-- whether a block of these operations, clocks and length is legal is decided
abbrev pub DecidesBlock : Limits → (first : ℕ) → List Operation → (clocks : List ℕ) → (block_length : ℕ) → Result Bool NoMemory → Type 0
DecidesBlock limits first os clocks block_length result = IfOk result (λ legal. IsTrue legal ↔ IsLegalBlock limits first os clocks block_length)

-- clocks that leave room for two more
abbrev pub AreSmallClocks : (clocks : List ℕ) → Type 0
AreSmallClocks clocks = (k : ℕ) → slice_index clocks k + 2 < 2 ^ 128

-- depths that leave room for one more
abbrev pub AreShallow : (depths : List ℕ) → Type 0
AreShallow depths = (k : ℕ) → slice_index depths k < 2 ^ 32

-- the greatest clock so far with that of one more value; none where the value is there at the length or later
abbrev pub IsLater : Operation → (clock clocks_long last : ℕ) → Option ℕ → Type 0
IsLater o clock clocks_long last None = clocks_long ≤ there_at o.form clock
IsLater o clock clocks_long last (Some greatest) = (there_at o.form clock < clocks_long) × (greatest ≡ max last (there_at o.form clock))

-- one more is counted at a clock, or it has so many that the limit allows no more
abbrev pub CountsWithinLimit : (before after : ℕ → ℕ) → (clock limit : ℕ) → Bool → Type 0
CountsWithinLimit before after clock limit true = (before clock < limit) × ((other : ℕ) → after other ≡ (if other == clock then suc (before other) else before other))
CountsWithinLimit before after clock limit false = limit ≤ before clock

-- an operation is counted at its clock, if it is a multiplication
abbrev pub CountsProduct : Operation → (before after : ℕ → ℕ) → (clock limit : ℕ) → Bool → Type 0
CountsProduct o before after clock limit true =
    ((other : ℕ) → before other ≤ limit → after other ≤ limit)
    × ((other : ℕ) → after other ≡ (if is_product o.form && (clock == other) then suc (before other) else before other))
CountsProduct o before after clock limit false = IsTrue (is_product o.form) × (limit ≤ before clock)

-- how many are counted at a clock
abbrev pub count_in : BTreeMap ℕ ℕ → (clock : ℕ) → ℕ
count_in counts clock = unwrap_or (get nat_cmp counts clock) 0

-- an operation is counted so in a map of counts
abbrev pub MapCountsProduct : Operation → (before after : BTreeMap ℕ ℕ) → (clock limit : ℕ) → Bool → Type 0
MapCountsProduct o before after clock limit kept = CountsProduct o (count_in before) (count_in after) clock limit kept
