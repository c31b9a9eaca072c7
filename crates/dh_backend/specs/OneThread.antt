-- Graphs of one thread, as a net takes them: each way leads to states and registers that are there, and does not fork.
use Rattle.std.specs.Prelude.{◌<◌, length}
use Rattle.std.specs.List.{AllByRecursion}
use Rattle.dh_tree.specs.PlainTrees.{Program}
use Rattle.dh_plan.specs.declared.graphs.Graph.{Graph}
use Rattle.dh_plan.specs.declared.graphs.Group.{Group}
use Rattle.dh_plan.specs.declared.graphs.State.{State}
use Rattle.dh_plan.specs.DoneProgram.{IsPlanOf}
use Rattle.dh_plan.specs.PlainPlans.{PlainPlan}
use Rattle.dh_plan.specs.SeenGraphs.{FitsThread}
use Rattle.dh_flow.specs.StraightGraphs.{IsOneThread}

-- the plan of a program has one thread
abbrev pub PlansAreOneThread : Program → Type 0
PlansAreOneThread p = (plan : PlainPlan) → IsPlanOf p plan → IsOneThread plan.body

-- each state of a graph does a block that is there and has such a way; and so the thread begins
pub record GoesWithin (plan : PlainPlan) (g : Graph) : Type 0 where
  pub blocks : AllByRecursion (λ (s : State). s.block < length plan.blocks) g.states.items
  pub states : AllByRecursion (λ (s : State). FitsThread (length g.states.items) (length plan.registers) s.next) g.states.items
  pub first : AllByRecursion (λ (h : Group). FitsThread (length g.states.items) (length plan.registers) h.first) g.groups.items
