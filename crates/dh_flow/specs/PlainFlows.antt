-- The graph of a plan, as plain data: the states of its nodes in text order, each with its way and with what is still
-- to come behind it, and the groups of its threads. `a` and `g` are the numbers at which states and groups of the
-- nodes begin, `o` is the number of their own group, `way` is the way behind them, and `k` what comes behind them.
-- Of threads `o` is the number of the first one's group.
use Rattle.std.specs.Prelude.{ℕ, ◌+◌, ◌-◌, ◌==◌, if◌then◌else◌, List, [], ◌∷◌, ◌++◌, map, Option, Some, None}
use Rattle.dh_plan.specs.PlainPlans.{Node, block_node, turns_node, loop_node, choice_node, threads_node, Nodes, no_nodes, node_then, NodeLists, no_lists, list_then}
use Rattle.dh_plan.specs.PlanRuns.{PlanTodo, over, nodes_then, turn_then, test_then, again_then, pick_then}
use Rattle.dh_plan.specs.Ways.{GraphWay, to_state, by_flag, by_count, to_fork, to_end, AllWays, no_ways, way_then, GraphStop, Flow}
use Rattle.dh_flow.specs.declared.measuring.Entry.{Entry}
use Rattle.dh_flow.specs.declared.measuring.Entry.TheVariants.{Nothing, State, Threads}
use Rattle.dh_flow.specs.Footprints.{states_in, states_of, groups_in, node_groups, list_groups, node_entry, lists_entry}

-- where nodes begin, or another way where they do no block
abbrev pub way_or : Entry → (begins past : GraphWay) → GraphWay
way_or Nothing begins past = past
way_or State begins past = begins
way_or (Threads nested count) begins past = begins

abbrev mutual
  -- the way into nodes, or past them
  pub way_in_nodes : Nodes → (a g : ℕ) → (past : GraphWay) → GraphWay
  way_in_nodes no_nodes a g past = past
  way_in_nodes (node_then n ns) a g past = way_or (node_entry n) (way_in_node n a g) (way_in_nodes ns a g past)

  pub way_in_node : Node → (a g : ℕ) → GraphWay
  way_in_node (block_node block) a g = to_state a
  way_in_node (turns_node counter turns body) a g = way_in_nodes body a g to_end
  way_in_node (loop_node test flag body) a g = to_state a
  way_in_node (choice_node test flag chosen other) a g = to_state a
  way_in_node (threads_node lists) a g = to_fork (g + list_groups lists) (ways_in lists a g)

  -- how threads begin
  pub ways_in : NodeLists → (a g : ℕ) → AllWays
  ways_in no_lists a g = no_ways
  ways_in (list_then ns lists) a g = way_then (way_in_nodes ns a g to_end) (ways_in lists (a + states_in ns) (g + groups_in ns))

-- a state: its block, its group, its way, and what is still to come behind it
pub record PlacedState : Type 0 where
  pub block : ℕ
  pub home : ℕ
  pub way : GraphWay
  pub behind : PlanTodo

abbrev pub placed_state : ℕ → (home : ℕ) → GraphWay → PlanTodo → PlacedState
placed_state block home way behind = record { block = block; home = home; way = way; behind = behind }

-- a group: its parent, how it begins, and, of the first of a fork, where that goes on and what comes behind it
pub record Forked : Type 0 where
  pub parent : Option ℕ
  pub first : GraphWay
  pub join : Option GraphWay
  pub after : PlanTodo

abbrev pub forked : (parent : Option ℕ) → GraphWay → Option GraphWay → PlanTodo → Forked
forked parent first join after = record { parent = parent; first = first; join = join; after = after }

-- the way behind the test of a loop, and of two arms
abbrev pub loop_way : (flag : ℕ) → Nodes → (a g : ℕ) → GraphWay → GraphWay
loop_way flag body a g way = by_flag flag (way_in_nodes body (a + 1) g (to_state a)) way

abbrev pub choice_way : (flag : ℕ) → (chosen other : Nodes) → (a g : ℕ) → GraphWay → GraphWay
choice_way flag chosen other a g way = by_flag flag (way_in_nodes chosen (a + 1) g way) (way_in_nodes other (a + 1 + states_in chosen) (g + groups_in chosen) way)

-- the way behind a turn
abbrev pub turn_way : (counter turns : ℕ) → Nodes → (a g : ℕ) → GraphWay → GraphWay
turn_way counter turns body a g way = by_count counter (turns - 1) (way_in_nodes body a g to_end) way

abbrev mutual
  -- the states of nodes
  pub states : Nodes → (a g o : ℕ) → GraphWay → PlanTodo → List PlacedState
  states no_nodes a g o way k = []
  states (node_then n ns) a g o way k =
      node_placed n a g o (way_in_nodes ns (a + states_of n) (g + node_groups n) way) (nodes_then ns k) ++ states ns (a + states_of n) (g + node_groups n) o way k

  pub node_placed : Node → (a g o : ℕ) → GraphWay → PlanTodo → List PlacedState
  node_placed (block_node block) a g o way k = placed_state block o way k ∷ []
  node_placed (turns_node counter turns body) a g o way k =
      if turns == 0 then [] else states body a g o (turn_way counter turns body a g way) (turn_then counter turns body k)
  node_placed (loop_node test flag body) a g o way k =
      placed_state test o (loop_way flag body a g way) (test_then test flag body k) ∷ states body (a + 1) g o (to_state a) (again_then test flag body k)
  node_placed (choice_node test flag chosen other) a g o way k =
      placed_state test o (choice_way flag chosen other a g way) (pick_then flag chosen other k)
      ∷ (states chosen (a + 1) g o way k ++ states other (a + 1 + states_in chosen) (g + groups_in chosen) o way k)
  node_placed (threads_node lists) a g o way k = list_placed lists a g (g + list_groups lists)

  pub list_placed : NodeLists → (a g o : ℕ) → List PlacedState
  list_placed no_lists a g o = []
  list_placed (list_then ns lists) a g o = states ns a g o to_end over ++ list_placed lists (a + states_in ns) (g + groups_in ns) (o + 1)

-- the groups of threads that this group begins, where one of them does a block
abbrev pub begun_groups : NodeLists → (a g o : ℕ) → (join : Option GraphWay) → (after : PlanTodo) → List Forked
begun_groups no_lists a g o join after = []
begun_groups (list_then ns lists) a g o join after = forked (Some o) (way_in_nodes ns a g to_end) join after ∷ begun_groups lists (a + states_in ns) (g + groups_in ns) o None over

abbrev pub begun_if : Entry → NodeLists → (a g o : ℕ) → (join : Option GraphWay) → (after : PlanTodo) → List Forked
begun_if Nothing lists a g o join after = []
begun_if State lists a g o join after = begun_groups lists a g o join after
begun_if (Threads nested count) lists a g o join after = begun_groups lists a g o join after

abbrev mutual
  -- the groups of nodes; those nested in threads stand before the threads' own
  pub nodes_forked : Nodes → (a g o : ℕ) → GraphWay → PlanTodo → List Forked
  nodes_forked no_nodes a g o way k = []
  nodes_forked (node_then n ns) a g o way k =
      node_forked n a g o (way_in_nodes ns (a + states_of n) (g + node_groups n) way) (nodes_then ns k) ++ nodes_forked ns (a + states_of n) (g + node_groups n) o way k

  pub node_forked : Node → (a g o : ℕ) → GraphWay → PlanTodo → List Forked
  node_forked (block_node block) a g o way k = []
  node_forked (turns_node counter turns body) a g o way k =
      if turns == 0 then [] else nodes_forked body a g o (turn_way counter turns body a g way) (turn_then counter turns body k)
  node_forked (loop_node test flag body) a g o way k = nodes_forked body (a + 1) g o (to_state a) (again_then test flag body k)
  node_forked (choice_node test flag chosen other) a g o way k =
      nodes_forked chosen (a + 1) g o way k ++ nodes_forked other (a + 1 + states_in chosen) (g + groups_in chosen) o way k
  node_forked (threads_node lists) a g o way k = list_forked lists a g (g + list_groups lists) ++ begun_if (lists_entry lists) lists a g o (Some way) k

  pub list_forked : NodeLists → (a g o : ℕ) → List Forked
  list_forked no_lists a g o = []
  list_forked (list_then ns lists) a g o = nodes_forked ns a g o to_end over ++ list_forked lists (a + states_in ns) (g + groups_in ns) (o + 1)

-- The graph: group 0 is the program's own.

abbrev pub plan_states : Nodes → List PlacedState
plan_states body = states body 0 1 0 to_end over

abbrev pub own_group : Nodes → Forked
own_group body = forked None (way_in_nodes body 0 1 to_end) None over

abbrev pub plan_groups : Nodes → List Forked
plan_groups body = own_group body ∷ nodes_forked body 0 1 0 to_end over

abbrev pub stop_of : PlacedState → GraphStop
stop_of p = record { block = p.block; way = p.way }

abbrev pub flow_of : Nodes → Flow
flow_of body = record { states = map stop_of (plan_states body); first = way_in_nodes body 0 1 to_end; joins = map (λ f. f.join) (plan_groups body) }
