-- What the net of a plan is built of, and what is promised of it.
use Rattle.std.specs.Prelude.{◌≡◌, ℕ, ◌<◌, ◌^◌, List, length}
use Rattle.std.specs.List.{AllByRecursion}
use Rattle.dh_value.specs.Words.{IsKind}
use Rattle.dh_net.specs.declared.nets.Net.{Net}
use Rattle.dh_plan.specs.declared.graphs.Graph.{Graph}
use Rattle.dh_plan.specs.declared.schedules.Limits.{Limits}
use Rattle.dh_plan.specs.BoundPorts.{Uses}
use Rattle.dh_plan.specs.LegalSchedules.{Timing, IsLegal}
use Rattle.dh_plan.specs.Passes.{MayBuild}
use Rattle.dh_plan.specs.PlainPlans.{PlainPlan}
use Rattle.dh_plan.specs.PlayedPlans.{PlaysPlan}
use Rattle.dh_cells.specs.NarrowShifts.{HasNarrowShifts}
use Rattle.dh_build.specs.declared.building.Sizes.{Sizes}
use Rattle.dh_build.specs.BuiltParts.{AreSizes}

-- a schedule of numbers
abbrev pub timing_of : (clocks lengths : List ℕ) → Timing
timing_of clocks lengths = record { clocks = clocks; lengths = lengths }

-- the schedule is legal under some limits
pub record IsScheduled (plan : PlainPlan) (t : Timing) : Type 0 where
  pub limits : Limits
  pub legal : IsLegal plan limits t

-- sizes of a plan with so many states, by a schedule
pub record AreSizesOf (plan : PlainPlan) (states : ℕ) (t : Timing) (s : Sizes) : Type 0 where
  pub are : AreSizes plan states s
  pub clocks_are : s.clocks ≡ t.clocks
  pub lengths_are : s.lengths ≡ t.lengths

-- What a net of one thread is built of: all that the passes before state, under some limits; registers have from 1 to
-- 64 bits, and the number of a fault, from 1, has 32.
pub record CanBuild (plan : PlainPlan) (g : Graph) (t : Timing) (u : Uses) : Type 0 where
  pub limits : Limits
  pub may : MayBuild plan g limits t u
  pub kinds : AllByRecursion IsKind plan.registers
  pub few_faults : length plan.faults < 2 ^ 32
  -- the program's own group is the only one
  pub alone : length g.groups.items ≡ 1

-- What is promised of the net: it plays the plan, and no cell shifts by a constant of at least its width.
pub record IsBuiltNet (plan : PlainPlan) (lengths : List ℕ) (net : Net) : Type 0 where
  pub plays : PlaysPlan plan lengths net
  pub shifts : HasNarrowShifts net.cells
