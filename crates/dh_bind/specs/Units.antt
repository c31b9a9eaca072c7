-- The numbers of multipliers: of each multiplication how many stand before it in its block, in its clock.
use Rattle.std.specs.Prelude.{◌≡◌, ℕ, ◌+◌, ◌<◌, ◌==◌, ◌&&◌, if◌then◌else◌, true, List, ◌++◌, length, take, slice_get, slice_index, unwrap_or, Some}
use Rattle.std.specs.Ordering.{nat_cmp}
use Rattle.std.specs.BTreeMap as tree
use Rattle.std.specs.BTreeMap.{BTreeMap}
use Rattle.dh_plan.specs.declared.operations.Operation.{Operation}
use Rattle.dh_plan.specs.declared.operations.OperationForm.{OperationForm}
use Rattle.dh_plan.specs.LegalSchedules.{Timing, is_product, products_at, clocks_in}
use Rattle.dh_plan.specs.PlainPlans.{PlainPlan, first_in, operations_in, operations_before}

-- how many are counted at a clock
abbrev pub counted_at : BTreeMap ℕ ℕ → (clock : ℕ) → ℕ
counted_at counts clock = unwrap_or (tree.get nat_cmp counts clock) 0

-- 1 where a multiplication at a clock stands at this one
abbrev pub more_at : OperationForm → (clock q : ℕ) → ℕ
more_at form clock q = if is_product form && (clock == q) then 1 else 0

-- an operation of this form is counted at its clock, if it is a multiplication, and nothing else is
abbrev pub CountsUnit : (old new : BTreeMap ℕ ℕ) → OperationForm → (clock : ℕ) → Type 0
CountsUnit old new form clock = (q : ℕ) → counted_at new q ≡ counted_at old q + more_at form clock q

-- these are behind the numbers that were there: for each multiplication how many stand before it in its clock
pub record BlockUnits (os : List Operation) (clocks : List ℕ) (upto : ℕ) (old new : List ℕ) : Type 0 where
  pub units : List ℕ
  pub behind : new ≡ old ++ units
  pub long : length units ≡ upto
  pub each : (i : ℕ) (o : Operation) → i < upto → slice_get os i ≡ Some o → is_product o.form ≡ true
      → slice_index units i ≡ products_at (slice_index clocks i) (take i os) (take i clocks)

-- so of the first blocks of a plan
pub record AreUnitNumbers (plan : PlainPlan) (t : Timing) (upto : ℕ) (units : List ℕ) : Type 0 where
  pub long : length units ≡ operations_before plan.blocks upto
  pub each : (b i : ℕ) (o : Operation) → b < upto → slice_get (operations_in plan b) i ≡ Some o → is_product o.form ≡ true
      → slice_index units (first_in plan b + i) ≡ products_at (slice_index (clocks_in plan t b) i) (take i (operations_in plan b)) (take i (clocks_in plan t b))
