-- A graph of one group, and the flow of one thread that it stands for.
use Rattle.std.specs.Prelude.{◌≡◌, [], ◌∷◌, length, map}
use Rattle.std.specs.List.{AllByRecursion}
use Rattle.dh_plan.specs.declared.graphs.Decision.{Decision}
use Rattle.dh_plan.specs.declared.graphs.Graph.{Graph}
use Rattle.dh_plan.specs.declared.graphs.Group.{Group}
use Rattle.dh_plan.specs.PlainPlans.{PlainPlan}
use Rattle.dh_plan.specs.SeenGraphs.{IsGraphOf, FitsThread}
use Rattle.dh_plan.specs.Ways.{Flow, FlowsAs}
use Rattle.dh_control.specs.AllBlocks.{state_ways}
use Rattle.dh_control.specs.WayMoves.{way_of_decision}
use Rattle.dh_build.specs.BuiltNets.{IsOfOneThread}

-- the states of a graph, and the decision by which its thread begins, are those of a flow of one thread that does the plan
pub record IsGraphOfThread (plan : PlainPlan) (g : Graph) (flow : Flow) (first : Decision) : Type 0 where
  pub does : FlowsAs flow plan
  pub one_thread : IsOfOneThread plan flow
  pub first_is : way_of_decision first ≡ flow.first
  pub count : length g.states.items ≡ length flow.states
  pub blocks_are : map (λ s. s.block) g.states.items ≡ map (λ s. s.block) flow.states
  pub ways_are : state_ways g.states.items ≡ map (λ s. s.way) flow.states
  pub fits : AllByRecursion (λ st. FitsThread (length g.states.items) (length plan.registers) st.next) g.states.items

-- so is each graph of a plan that has one group alone
abbrev pub OneGroupIsOneThread : Type 0
OneGroupIsOneThread = (plan : PlainPlan) (g : Graph) (group : Group) → (graph : IsGraphOf plan g) → g.groups.items ≡ group ∷ [] → IsGraphOfThread plan g graph.flow group.first
