-- Plans of one thread, and graphs of which no way forks.
use Rattle.std.specs.List.{AllByRecursion}
use Rattle.std.specs.Prelude.{◌≡◌, length}
use Rattle.dh_plan.specs.declared.graphs.Decision.{Decision}
use Rattle.dh_plan.specs.declared.graphs.Decision.TheVariants.{Go, Test', Count', Fork, Rest}
use Rattle.dh_plan.specs.declared.graphs.Graph.{Graph}
use Rattle.dh_plan.specs.declared.graphs.Group.{Group}
use Rattle.dh_plan.specs.declared.graphs.State.{State}
use Rattle.dh_plan.specs.PlainPlans.{Node, block_node, turns_node, loop_node, choice_node, threads_node, Nodes, no_nodes, node_then, PlainPlan}

abbrev mutual
  -- no node has lists of nodes side by side
  pub IsOneThread : Nodes → Type 0
  IsOneThread no_nodes = Unit {0}
  IsOneThread (node_then n ns) = NodeIsOneThread n × IsOneThread ns

  pub NodeIsOneThread : Node → Type 0
  NodeIsOneThread (block_node block) = Unit {0}
  NodeIsOneThread (turns_node counter turns body) = IsOneThread body
  NodeIsOneThread (loop_node test flag body) = IsOneThread body
  NodeIsOneThread (choice_node test flag chosen other) = IsOneThread chosen × IsOneThread other
  NodeIsOneThread (threads_node lists) = ⊥

-- a way of the code does not fork
unfoldable pub DoesNotFork : Decision → Type 0
DoesNotFork (Go state) = Unit {0}
DoesNotFork (Test' flag at a at' b) = DoesNotFork a × DoesNotFork b
DoesNotFork (Count' counter last at a at' b) = DoesNotFork a × DoesNotFork b
DoesNotFork (Fork groups) = ⊥
DoesNotFork Rest = Unit {0}

-- none of a graph does: its only group is the program's own
pub record NeverForks (g : Graph) : Type 0 where
  pub states : AllByRecursion (λ (s : State). DoesNotFork s.next) g.states.items
  pub groups : AllByRecursion (λ (h : Group). DoesNotFork h.first) g.groups.items
  pub alone : length g.groups.items ≡ 1

-- so it is of the graph of a plan of one thread
abbrev pub StaysOneThread : PlainPlan → Graph → Type 0
StaysOneThread plan g = IsOneThread plan.body → NeverForks g
