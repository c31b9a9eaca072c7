-- Schedules: at which clock of its step each operation stands, and how long each block is. What an operation needs
-- is there at its clock; a read's value is there one clock later, any other in its operation's own clock. (List
-- scheduling is a common notion of high-level synthesis; the limits are this project's.)
use Rattle.std.specs.Prelude.{◌≡◌, ℕ, zero, suc, ◌-◌, ◌<◌, ◌≤◌, ◌==◌, ◌&&◌, max, Bool, true, false, if◌then◌else◌, List, [], ◌∷◌, ◌++◌, length, map, take, drop, slice_get, slice_index, Option, Some, None}
use Rattle.std.specs.List.{AllByRecursion}
use Rattle.dh_value.specs.declared.operators.Op.TheVariants as op
use Rattle.dh_plan.specs.declared.operations.Operation.{Operation}
use Rattle.dh_plan.specs.declared.operations.OperationForm.{OperationForm}
use Rattle.dh_plan.specs.declared.operations.OperationForm.TheVariants.{Constant, Old, Compute, Convert, Select, Check, Probe, Read, Write, Set}
use Rattle.dh_plan.specs.declared.schedules.Limits.{Limits}
use Rattle.dh_plan.specs.PlainPlans.{PlainPlan, first_in, operations_in, operation_count}
use Rattle.dh_plan.specs.Ordered.{operation_takes}

-- a clock for each operation of the plan, and a length for each block
pub record Timing : Type 0 where
  pub clocks : List ℕ
  pub lengths : List ℕ

abbrev pub is_read : OperationForm → Bool
is_read (Constant word) = false
is_read (Old register) = false
is_read (Compute o left right) = false
is_read (Convert inner to) = false
is_read (Select test a b) = false
is_read (Check ok fault) = false
is_read (Probe r fault) = false
is_read (Read r) = true
is_read (Write r value) = false
is_read (Set register value) = false

-- the clock at which a value is there whose operation stands at this one
abbrev pub there_at : OperationForm → (clock : ℕ) → ℕ
there_at form clock = if is_read form then suc clock else clock

abbrev pub there_from : Option Operation → (clock : ℕ) → ℕ
there_from None clock = clock
there_from (Some o) clock = there_at o.form clock

-- when the value of this number is there, in a block with these operations and these clocks, in order
abbrev pub value_clock : (first : ℕ) → List Operation → (clocks : List ℕ) → (number : ℕ) → ℕ
value_clock first os clocks number = there_from (slice_get os (number - first)) (slice_index clocks (number - first))

-- the greatest of numbers, 0 of none
abbrev pub greatest_number : List ℕ → ℕ
greatest_number [] = 0
greatest_number (n ∷ ns) = max n (greatest_number ns)

-- the clock from which on all is there that an operation takes
abbrev pub needed_clock : (first : ℕ) → List Operation → (clocks : List ℕ) → Operation → ℕ
needed_clock first os clocks o = greatest_number (map (value_clock first os clocks) (operation_takes o))

-- each operation of a block stands where all is there that it takes
abbrev pub NeedsAreMet : (first : ℕ) → List Operation → (clocks : List ℕ) → Type 0
NeedsAreMet first os clocks = (i : ℕ) (o : Operation) → slice_get os i ≡ Some o → needed_clock first os clocks o ≤ slice_index clocks i

-- when the last value of a block is there
abbrev pub last_clock : List Operation → (clocks : List ℕ) → ℕ
last_clock [] clocks = 0
last_clock (o ∷ os) [] = 0
last_clock (o ∷ os) (c ∷ cs) = max (there_at o.form c) (last_clock os cs)

-- Limits.

abbrev pub is_product : OperationForm → Bool
is_product (Compute op.Mul left right) = true
is_product _ = false

abbrev pub is_operator : OperationForm → Bool
is_operator (Compute o left right) = true
is_operator (Select test a b) = true
is_operator _ = false

-- how many multiplications stand at a clock
abbrev pub products_at : (clock : ℕ) → List Operation → (clocks : List ℕ) → ℕ
products_at clock [] clocks = 0
products_at clock (o ∷ os) [] = 0
products_at clock (o ∷ os) (c ∷ cs) = if is_product o.form && (c == clock) then suc (products_at clock os cs) else products_at clock os cs

-- the depth of a value that an operation at a clock takes: 0 where it is of an earlier clock
abbrev pub depth_taken : (first clock : ℕ) → (clocks depths : List ℕ) → (number : ℕ) → ℕ
depth_taken first clock clocks depths number = if slice_index clocks (number - first) == clock then slice_index depths (number - first) else 0

-- how many operators follow one another, in the clock of an operation and up to it
abbrev pub depth_at : (first clock : ℕ) → (clocks depths : List ℕ) → Operation → ℕ
depth_at first clock clocks depths o =
    if is_operator o.form then suc (greatest_number (map (depth_taken first clock clocks depths) (operation_takes o)))
    else greatest_number (map (depth_taken first clock clocks depths) (operation_takes o))

-- the depths of operations behind those with these depths
abbrev pub depths_behind : (first : ℕ) → (clocks depths : List ℕ) → List Operation → List ℕ
depths_behind first clocks depths [] = depths
depths_behind first clocks depths (o ∷ os) = depths_behind first clocks (depths ++ depth_at first (slice_index clocks (length depths)) clocks depths o ∷ []) os

abbrev pub depths_in : (first : ℕ) → List Operation → (clocks : List ℕ) → List ℕ
depths_in first os clocks = depths_behind first clocks [] os

-- at most so many, where the limit is one
abbrev pub IsWithin : (limit n : ℕ) → Type 0
IsWithin zero n = Unit {0}
IsWithin (suc limit) n = n ≤ suc limit

-- the clocks of a block's operations
abbrev pub clocks_in : PlainPlan → Timing → (block : ℕ) → List ℕ
clocks_in plan t block = take (length (operations_in plan block)) (drop (first_in plan block) t.clocks)

-- A block's clocks and length are legal.
pub record IsLegalBlock (limits : Limits) (first : ℕ) (os : List Operation) (clocks : List ℕ) (clocks_long : ℕ) : Type 0 where
  -- each operation stands where all is there that it takes
  pub needs : (i : ℕ) (o : Operation) → slice_get os i ≡ Some o → needed_clock first os clocks o ≤ slice_index clocks i
  pub products : (clock : ℕ) → IsWithin limits.multipliers (products_at clock os clocks)
  pub chains : AllByRecursion (IsWithin limits.chain) (depths_in first os clocks)
  -- it ends with the clock in which its last value is there
  pub ends : clocks_long ≡ suc (last_clock os clocks)

-- a schedule is legal under limits
pub record IsLegal (plan : PlainPlan) (limits : Limits) (t : Timing) : Type 0 where
  pub all_clocks : length t.clocks ≡ operation_count plan
  pub all_lengths : length t.lengths ≡ length plan.blocks
  pub blocks : (block : ℕ) → block < length plan.blocks
      → IsLegalBlock limits (first_in plan block) (operations_in plan block) (clocks_in plan t block) (slice_index t.lengths block)

-- A clock is one at which an operation may stand, by what it takes, the limits, and the operations before it.
pub record MayStandAt (limits : Limits) (first : ℕ) (before : List Operation) (clocks : List ℕ) (o : Operation) (clock : ℕ) : Type 0 where
  pub needs : needed_clock first before clocks o ≤ clock
  pub products : IsWithin limits.multipliers (products_at clock (before ++ o ∷ []) (clocks ++ clock ∷ []))
  pub chain : IsWithin limits.chain (depth_at first clock clocks (depths_in first before clocks) o)

-- each operation of a block stands at the least such clock
abbrev pub AreLeast : Limits → (first : ℕ) → (before : List Operation) → (clocks : List ℕ) → (rest : List Operation) → (rest_clocks : List ℕ) → Type 0
AreLeast limits first before clocks [] cs = Unit {0}
AreLeast limits first before clocks (o ∷ os) [] = ⊥
AreLeast limits first before clocks (o ∷ os) (c ∷ cs) =
    (MayStandAt limits first before clocks o c × ((earlier : ℕ) → MayStandAt limits first before clocks o earlier → c ≤ earlier))
    × AreLeast limits first (before ++ o ∷ []) (clocks ++ c ∷ []) os cs

pub record IsLeastSchedule (plan : PlainPlan) (limits : Limits) (t : Timing) : Type 0 where
  pub legal : IsLegal plan limits t
  pub least : (block : ℕ) → block < length plan.blocks → AreLeast limits (first_in plan block) [] [] (operations_in plan block) (clocks_in plan t block)

-- Without limits each operation stands at the clock from which on all is there that it takes: the clocks of
-- operations behind those with these clocks, and the length of a block.
abbrev pub least_clocks : (first : ℕ) → (before : List Operation) → (clocks : List ℕ) → (rest : List Operation) → List ℕ
least_clocks first before clocks [] = clocks
least_clocks first before clocks (o ∷ os) = least_clocks first (before ++ o ∷ []) (clocks ++ needed_clock first before clocks o ∷ []) os

abbrev pub least_length : (first : ℕ) → List Operation → ℕ
least_length first os = suc (last_clock os (least_clocks first [] [] os))

-- the length of a block of a plan without limits
abbrev pub block_clocks : PlainPlan → (block : ℕ) → ℕ
block_clocks plan block = least_length (first_in plan block) (operations_in plan block)
