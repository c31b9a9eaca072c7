-- What the netlist of a plan is made of: what the passes behind `unroll` make of it, and what they promise together.
use Rattle.std.specs.Prelude.{◌≡◌, ◌≤◌}
use Rattle.std.specs.List.{AllByRecursion}
use Rattle.dh_tree.specs.PlainTrees.{Program}
use Rattle.dh_net.specs.declared.nets.Net.{Net}
use Rattle.dh_plan.specs.BoundPorts.{IsBinding}
use Rattle.dh_plan.specs.DoneProgram.{IsPlanOf, IsAddressingOf}
use Rattle.dh_plan.specs.LegalSchedules.{Timing, IsLeastSchedule}
use Rattle.dh_plan.specs.Passes.{IsToCompile, MayBuild, uses_seen}
use Rattle.dh_plan.specs.PlainPlans.{PlainPlan}
use Rattle.dh_plan.specs.PlayedPlans.{PlaysPlan, PlaysItsProgram}
use Rattle.dh_plan.specs.ScheduleLaws.{without_limits}
use Rattle.dh_plan.specs.SeenGraphs.{IsGraphOf}
use Rattle.dh_plan.specs.SeenPlans.{plan_seen}
use Rattle.dh_flow.specs.StraightGraphs.{IsOneThread, NeverForks, StaysOneThread}
use Rattle.dh_backend.specs.OneThread.{GoesWithin}
use Rattle.dh_backend.specs.SuitedPlans.{FitsNets, AreWordSized}
use Rattle.dh_backend.specs.declared.parts.NetParts.{NetParts}
use Rattle.dh_backend.specs.declared.parts.Passed.{Passed}
use Rattle.dh_backend.specs.declared.times.BlockTimes.{BlockTimes}

abbrev pub times_seen : BlockTimes → Timing
times_seen t = record { clocks = t.clocks; lengths = t.lengths }

-- they are those of a schedule, in words
pub record AreTimesOf (timing : Timing) (t : BlockTimes) : Type 0 where
  pub same : times_seen t ≡ timing
  pub clocks : AreWordSized t.clocks
  pub lengths : AreWordSized t.lengths

-- the graph, the schedule without limits and the binding of a plan
pub record ArePassed (plan : PlainPlan) (m : Passed) : Type 0 where
  pub graph : IsGraphOf plan m.graph
  pub least : IsLeastSchedule plan without_limits (times_seen m.times)
  pub bound : IsBinding plan (times_seen m.times) (uses_seen m.binding)
  -- in words of 64 bits; no block takes no clock
  pub clocks : AreWordSized m.times.clocks
  pub lengths : AreWordSized m.times.lengths
  pub some : AllByRecursion (λ n. 1 ≤ n) m.times.lengths
  -- of a plan of one thread no way forks
  pub thread : StaysOneThread plan m.graph

-- all that a netlist is made of, with all that is asked of it
pub record ArePartsOf (plan : PlainPlan) (parts : NetParts) : Type 0 where
  pub addressed : IsAddressingOf plan (plan_seen parts.plan)
  pub passed : ArePassed (plan_seen parts.plan) parts.passed
  pub may_build : MayBuild (plan_seen parts.plan) parts.passed.graph without_limits (times_seen parts.passed.times) (uses_seen parts.passed.binding)
  -- beside that, of a net with registers of 64 bits and of one thread
  pub fits : FitsNets (plan_seen parts.plan)
  pub one_thread : IsOneThread (plan_seen parts.plan).body
  pub never_forks : NeverForks parts.passed.graph
  pub goes_within : GoesWithin (plan_seen parts.plan) parts.passed.graph

-- a net that plays the parts of a program's plan plays the program
abbrev pub PartsPlayPrograms : Program → Type 0
PartsPlayPrograms p =
    (plan : PlainPlan) (parts : NetParts) (net : Net) → IsToCompile p → IsPlanOf p plan → ArePartsOf plan parts
    → PlaysPlan (plan_seen parts.plan) parts.passed.times.lengths net → PlaysItsProgram p net
