-- What each public call of the compiler's passes states of its result. A pass takes the plan of the pass before it,
-- and its contract is `IfOk result (..)` of one of these; want of memory is free.
--   inline: KeepsMeaning          unroll: IsPlanOf              addresses: IsAddressingOf
--   flow: IsGraphOf               schedule: IsLeastSchedule     legal: DecidesLegal
--   bind: IsBinding               build: PlaysPlan              compile: PlaysItsProgram, IsTooLarge
--   plan_size: size_reported
use Rattle.std.specs.Prelude.{◌≡◌, ◌↔◌, ℕ, ◌+◌, ◌<◌, ◌≤◌, Bool, IsTrue, Some}
use Rattle.dh_tree.specs.PlainTrees.{Program}
use Rattle.dh_tree.specs.Memories.{table_of}
use Rattle.dh_tree.specs.Ready.{IsReady}
use Rattle.dh_meaning.specs.CoreOf.{core_of}
use Rattle.dh_meets.specs.Ports.{KeepsPortRules}
use Rattle.dh_plan.specs.declared.schedules.Limits.{Limits}
use Rattle.dh_plan.specs.declared.schedules.Schedule.{Schedule}
use Rattle.dh_plan.specs.declared.schedules.Binding.{Binding}
use Rattle.dh_plan.specs.declared.graphs.Graph.{Graph}
use Rattle.dh_plan.specs.declared.operations.Reach.{Reach}
use Rattle.dh_plan.specs.PlainPlans.{PlainPlan}
use Rattle.dh_plan.specs.BoundPorts.{Uses, IsBinding, port_used}
use Rattle.dh_plan.specs.LegalSchedules.{Timing, IsLegal}
use Rattle.dh_plan.specs.PlanSizes.{plan_size_of, size_reported, most_plan}
use Rattle.dh_plan.specs.SeenGraphs.{IsGraphOf}
use Rattle.dh_plan.specs.SoundPlans.{IsSound, IsAddressed, KeepsItsPorts, HasUse, IsListed}

-- `inline`: the program means the same, its accesses numbered alike. Calls are not built: the tree is the same.
abbrev pub KeepsMeaning : (before after : Program) → Type 0
KeepsMeaning before after = (core_of after ≡ core_of before) × (table_of after ≡ table_of before)

-- what `unroll` asks of a program
pub record IsToCompile (p : Program) : Type 0 where
  pub ready : IsReady p
  pub ports : KeepsPortRules p
  pub small : plan_size_of p ≤ most_plan

-- what contracts see of a schedule and of a binding of the code
abbrev pub timing_seen : Schedule → Timing
timing_seen s = record { clocks = s.clock_of; lengths = s.length }

abbrev pub uses_seen : Binding → Uses
uses_seen b = record { ports = b.ports; units = b.unit }

-- `legal` is true exactly where the schedule is
abbrev pub DecidesLegal : PlainPlan → Limits → Schedule → Bool → Type 0
DecidesLegal plan limits s answer = IsTrue answer ↔ IsLegal plan limits (timing_seen s)

-- `bind` asks that the plan is sound and keeps its ports, and that there is a clock for each operation
pub record MayBind (plan : PlainPlan) : Type 0 where
  pub sound : IsSound plan
  pub ports : KeepsItsPorts plan

-- A token of ports of one bank drives the operations of an access that can reach it: each gets the port that its
-- place there says, from the token's first one on, and all else stays.
pub record Drives (plan : PlainPlan) (access memory bank first : ℕ) (before after : Uses) : Type 0 where
  pub driven : (b i place : ℕ) (r : Reach) → HasUse plan b i r → r.access ≡ access → r.memory ≡ memory → IsListed bank place r.banks
      → port_used plan after b i bank ≡ Some (first + place)
  pub other_banks : (b i other : ℕ) → (other ≡ bank → ⊥) → port_used plan after b i other ≡ port_used plan before b i other
  pub other_accesses : (b i : ℕ) (r : Reach) → HasUse plan b i r → (r.access ≡ access → ⊥) → port_used plan after b i bank ≡ port_used plan before b i bank
  pub units : after.units ≡ before.units

-- what `build` asks of its four arguments
pub record MayBuild (plan : PlainPlan) (g : Graph) (limits : Limits) (t : Timing) (u : Uses) : Type 0 where
  pub sound : IsSound plan
  pub addressed : IsAddressed plan
  pub graph : IsGraphOf plan g
  pub legal : IsLegal plan limits t
  pub bound : IsBinding plan t u

-- `compile` is too large exactly where the plan is, and then tells its size
abbrev pub IsTooLarge : Program → (size : ℕ) → Type 0
IsTooLarge p size = (most_plan < plan_size_of p) × (size ≡ size_reported p)
