-- The accesses of a program that may meet, and those of a plan that was made of it: they say the same, none stands twice,
-- and they stand in the order of their numbers, which are all those of the program's accesses.
use Rattle.std.specs.Prelude.{◌≡◌, ℕ, ◌+◌, ◌<◌, ◌≤◌, ◌^◌, Bool}
use Rattle.dh_tree.specs.Meets.{Meets, In, Distinct, Before}
use Rattle.dh_tree.specs.PlainTrees.{Action, Program}
use Rattle.dh_meaning.specs.AccessNumbers.{accesses_of}
use Rattle.dh_meets.specs.MayMeet.{meets}
use Rattle.dh_plan.specs.declared.plans.Meets.{Meets as Tree}
use Rattle.dh_plan.specs.DoneProgram.{MeetsAs}
use Rattle.dh_plan.specs.PlainPlans.{PlainPlan}
use Rattle.dh_plan.specs.SeenPlans.{meets_seen}
use Rattle.dh_accesses.specs.Met.{MeetsBody}

-- the accesses of these numbers, from a first one on, so many, each once and in their order
pub record StandInRange (t : Meets) (first count : ℕ) : Type 0 where
  pub within : (a : ℕ) → In a t → (first ≤ a) × (a < first + count)
  pub there : (a : ℕ) → first ≤ a → a < first + count → In a t
  pub distinct : Distinct t
  pub order : (a b : ℕ) → In a t → In b t → a < b → Before t a b

abbrev pub CommandsMeetInRange : Type 0
CommandsMeetInRange = (unrolled : Bool) (first : ℕ) (a : Action) → StandInRange (meets unrolled first a) first (accesses_of a)

-- what a plan is to state of its accesses, where these are what was made of a program's body
pub record PlanMeets (p : Program) (plan : PlainPlan) : Type 0 where
  pub as_program : MeetsAs p plan
  pub range : StandInRange plan.meets 0 (accesses_of p.body)

abbrev pub PlansMeet : Type 0
PlansMeet = (p : Program) (t : Tree) (plan : PlainPlan) → accesses_of p.body < 2 ^ 32 → MeetsBody p.body t → plan.meets ≡ meets_seen t → PlanMeets p plan
