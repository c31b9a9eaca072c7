-- What an operation takes, and blocks in which each operation takes values of earlier ones alone.
use Rattle.std.specs.Prelude.{◌≡◌, ℕ, ◌+◌, ◌<◌, ◌≤◌, List, [], ◌∷◌, ◌++◌, slice_get, Option, Some, None}
use Rattle.std.specs.List.{AllByRecursion}
use Rattle.dh_plan.specs.declared.operations.Operation.{Operation}
use Rattle.dh_plan.specs.declared.operations.OperationForm.{OperationForm}
use Rattle.dh_plan.specs.declared.operations.OperationForm.TheVariants.{Constant, Old, Compute, Convert, Select, Check, Probe, Read, Write, Set}
use Rattle.dh_plan.specs.declared.operations.Reach.{Reach}
use Rattle.dh_plan.specs.declared.operations.ReachStep.{ReachStep}
use Rattle.dh_plan.specs.PlainPlans.{PlainPlan, first_in, operations_in}

abbrev pub one_or_none : Option ℕ → List ℕ
one_or_none None = []
one_or_none (Some v) = v ∷ []

abbrev pub offsets_taken : List ReachStep → List ℕ
offsets_taken [] = []
offsets_taken (s ∷ ss) = s.offsets ++ offsets_taken ss

-- the values that say which element an access names
abbrev pub reach_takes : Reach → List ℕ
reach_takes r = r.indices ++ (offsets_taken r.steps ++ (one_or_none r.select ++ one_or_none r.row))

-- the values that a form takes
abbrev pub form_takes : OperationForm → List ℕ
form_takes (Constant word) = []
form_takes (Old register) = []
form_takes (Compute op left right) = left ∷ right ∷ []
form_takes (Convert inner to) = inner ∷ []
form_takes (Select test a b) = test ∷ a ∷ b ∷ []
form_takes (Check ok fault) = ok ∷ []
form_takes (Probe r fault) = reach_takes r
form_takes (Read r) = reach_takes r
form_takes (Write r value) = value ∷ reach_takes r
form_takes (Set register value) = value ∷ []

-- those of an operation: its guard is one
abbrev pub operation_takes : Operation → List ℕ
operation_takes o = one_or_none o.guard ++ form_takes o.form

-- from a first number on, and below an end
abbrev pub IsBetween : (first end number : ℕ) → Type 0
IsBetween first end number = (first ≤ number) × (number < end)

-- an operation takes values of this block, earlier than its own
abbrev pub TakesEarlier : (first own : ℕ) → Operation → Type 0
TakesEarlier first own o = AllByRecursion (IsBetween first own) (operation_takes o)

-- each operation of a block does, where the first one has this number
pub record IsOrdered (first : ℕ) (os : List Operation) : Type 0 where
  pub each : (i : ℕ) (o : Operation) → slice_get os i ≡ Some o → TakesEarlier first (first + i) o

-- each block of a plan is so
abbrev pub AreOrdered : PlainPlan → Type 0
AreOrdered plan = (block : ℕ) → IsOrdered (first_in plan block) (operations_in plan block)
