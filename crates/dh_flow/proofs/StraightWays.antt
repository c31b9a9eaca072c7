-- Of a plan of one thread no way forks, and there is no group but the program's own. By recursion on nodes: the way into
-- them does not, where the way past them does not; and what is told of the code's ways is told of these.
use Rattle.std.proofs.Common.{◌≡◌, ℕ, ◌+◌, ◌==◌, Bool, true, false, if◌then◌else◌, List, [], ◌∷◌, ◌++◌, length, map, refl, sym, ap, ◌∙◌, subst}
use Rattle.std.specs.List.{AllByRecursion}
use Rattle.std.proofs.lemmas.List.{length-map}
use Rattle.dh_plan.specs.declared.graphs.Decision.{Decision}
use Rattle.dh_plan.specs.declared.graphs.Decision.TheVariants.{Go, Test', Count', Fork, Rest}
use Rattle.dh_plan.specs.declared.graphs.Graph.{Graph}
use Rattle.dh_plan.specs.declared.graphs.Group.{Group}
use Rattle.dh_plan.specs.declared.graphs.State.{State}
use Rattle.dh_plan.specs.PlainPlans.{Node, block_node, turns_node, loop_node, choice_node, threads_node, Nodes, no_nodes, node_then, PlainPlan}
use Rattle.dh_plan.specs.PlanRuns.{PlanTodo, over, nodes_then, turn_then, again_then}
use Rattle.dh_plan.specs.Ways.{GraphWay, to_state, by_flag, by_count, to_fork, to_end}
use Rattle.dh_flow.specs.declared.measuring.Entry.{Entry}
use Rattle.dh_flow.specs.declared.measuring.Entry.TheVariants.{Nothing, State as at_state, Threads}
use Rattle.dh_flow.specs.Footprints.{states_in, states_of, groups_in, node_groups, node_entry}
use Rattle.dh_flow.specs.PlainFlows.{way_or, way_in_nodes, way_in_node, PlacedState, Forked, turn_way, states, node_placed, nodes_forked, node_forked, plan_states, own_group, plan_groups}
use Rattle.dh_flow.specs.StraightGraphs.{IsOneThread, NodeIsOneThread, DoesNotFork, NeverForks}
use Rattle.dh_flow.specs.ToldWays.{ToldWay, told_go, told_test, told_count, told_fork, told_rest, decision_told, graph_way_told, group_told, states_told, groups_told, placed_told, forked_told}

-- Plain ways.

abbrev pub GoesStraight : GraphWay → Type 0
GoesStraight (to_state state) = Unit {0}
GoesStraight (by_flag flag w v) = GoesStraight w × GoesStraight v
GoesStraight (by_count counter last w v) = GoesStraight w × GoesStraight v
GoesStraight (to_fork fork ws) = ⊥
GoesStraight to_end = Unit {0}

either_straight : (e : Entry) (x y : GraphWay) → GoesStraight x → GoesStraight y → GoesStraight (way_or e x y)
either_straight Nothing x y h k = k
either_straight at_state x y h k = h
either_straight (Threads nested count) x y h k = h

mutual
  into_straight : (ns : Nodes) (a g : ℕ) (w : GraphWay) → IsOneThread ns → GoesStraight w → GoesStraight (way_in_nodes ns a g w)
  into_straight no_nodes a g w h k = k
  into_straight (node_then n ns) a g w h k =
      either_straight (node_entry n) (way_in_node n a g) (way_in_nodes ns a g w) (into_node n a g h.0) (into_straight ns a g w h.1 k)

  into_node : (n : Node) (a g : ℕ) → NodeIsOneThread n → GoesStraight (way_in_node n a g)
  into_node (block_node block) a g h = tt
  into_node (turns_node counter turns body) a g h = into_straight body a g to_end h tt
  into_node (loop_node test flag body) a g h = tt
  into_node (choice_node test flag chosen other) a g h = tt
  into_node (threads_node lists) a g h = absurd h

abbrev AreStraight : List PlacedState → Type 0
AreStraight ps = AllByRecursion (λ (p : PlacedState). GoesStraight p.way) ps

both_straight : (ps qs : List PlacedState) → AreStraight ps → AreStraight qs → AreStraight (ps ++ qs)
both_straight [] qs h k = k
both_straight (p ∷ ps) qs h k = (h.0, both_straight ps qs h.1 k)

unless_straight : (b : Bool) (ps : List PlacedState) → AreStraight ps → AreStraight (if b then [] else ps)
unless_straight true ps h = tt
unless_straight false ps h = h

mutual
  states_straight : (ns : Nodes) (a g o : ℕ) (w : GraphWay) (k : PlanTodo) → IsOneThread ns → GoesStraight w → AreStraight (states ns a g o w k)
  states_straight no_nodes a g o w k h f = tt
  states_straight (node_then n ns) a g o w k h f =
      let a' = a + states_of n in
      let g' = g + node_groups n in
      both_straight (node_placed n a g o (way_in_nodes ns a' g' w) (nodes_then ns k)) (states ns a' g' o w k)
      (node_straight n a g o (way_in_nodes ns a' g' w) (nodes_then ns k) h.0 (into_straight ns a' g' w h.1 f)) (states_straight ns a' g' o w k h.1 f)

  node_straight : (n : Node) (a g o : ℕ) (w : GraphWay) (k : PlanTodo) → NodeIsOneThread n → GoesStraight w → AreStraight (node_placed n a g o w k)
  node_straight (block_node block) a g o w k h f = (f, tt)
  node_straight (turns_node counter turns body) a g o w k h f =
      unless_straight (turns == 0) (states body a g o (turn_way counter turns body a g w) (turn_then counter turns body k))
      (states_straight body a g o (turn_way counter turns body a g w) (turn_then counter turns body k) h (into_straight body a g to_end h tt, f))
  node_straight (loop_node test flag body) a g o w k h f =
      ((into_straight body (a + 1) g (to_state a) h tt, f), states_straight body (a + 1) g o (to_state a) (again_then test flag body k) h tt)
  node_straight (choice_node test flag chosen other) a g o w k h f =
      let b = a + 1 + states_in chosen in
      let g' = g + groups_in chosen in (
        (into_straight chosen (a + 1) g w h.0 f, into_straight other b g' w h.1 f),
        both_straight (states chosen (a + 1) g o w k) (states other b g' o w k) (states_straight chosen (a + 1) g o w k h.0 f) (states_straight other b g' o w k h.1 f),
      )
  node_straight (threads_node lists) a g o w k h f = absurd h

-- there is no other group
unless_none : (b : Bool) (fs : List Forked) → fs ≡ [] → (if b then [] else fs) ≡ []
unless_none true fs e = refl
unless_none false fs e = e

both_none : (fs gs : List Forked) → fs ≡ [] → gs ≡ [] → fs ++ gs ≡ []
both_none fs gs e f = ap (λ xs. xs ++ gs) e ∙ f

mutual
  no_groups : (ns : Nodes) (a g o : ℕ) (w : GraphWay) (k : PlanTodo) → IsOneThread ns → nodes_forked ns a g o w k ≡ []
  no_groups no_nodes a g o w k h = refl
  no_groups (node_then n ns) a g o w k h =
      let a' = a + states_of n in
      let g' = g + node_groups n in
      both_none (node_forked n a g o (way_in_nodes ns a' g' w) (nodes_then ns k)) (nodes_forked ns a' g' o w k) (node_no_groups n a g o (way_in_nodes ns a' g' w) (nodes_then ns k) h.0) (no_groups ns a' g' o w k h.1)

  node_no_groups : (n : Node) (a g o : ℕ) (w : GraphWay) (k : PlanTodo) → NodeIsOneThread n → node_forked n a g o w k ≡ []
  node_no_groups (block_node block) a g o w k h = refl
  node_no_groups (turns_node counter turns body) a g o w k h =
      unless_none (turns == 0) (nodes_forked body a g o (turn_way counter turns body a g w) (turn_then counter turns body k))
      (no_groups body a g o (turn_way counter turns body a g w) (turn_then counter turns body k) h)
  node_no_groups (loop_node test flag body) a g o w k h = no_groups body (a + 1) g o (to_state a) (again_then test flag body k) h
  node_no_groups (choice_node test flag chosen other) a g o w k h =
      let b = a + 1 + states_in chosen in
      let g' = g + groups_in chosen in
      both_none (nodes_forked chosen (a + 1) g o w k) (nodes_forked other b g' o w k) (no_groups chosen (a + 1) g o w k h.0) (no_groups other b g' o w k h.1)
  node_no_groups (threads_node lists) a g o w k h = absurd h

-- What is told of ways.

abbrev TellsStraight : ToldWay → Type 0
TellsStraight (told_go state) = Unit {0}
TellsStraight (told_test flag s t) = TellsStraight s × TellsStraight t
TellsStraight (told_count counter last s t) = TellsStraight s × TellsStraight t
TellsStraight (told_fork nodes_forked) = ⊥
TellsStraight told_rest = Unit {0}

told_straight : (w : GraphWay) → GoesStraight w → TellsStraight (graph_way_told w)
told_straight (to_state state) h = tt
told_straight (by_flag flag w v) h = (told_straight w h.0, told_straight v h.1)
told_straight (by_count counter last w v) h = (told_straight w h.0, told_straight v h.1)
told_straight (to_fork fork ws) h = absurd h
told_straight to_end h = tt

decision_straight : (d : Decision) → TellsStraight (decision_told d) → DoesNotFork d
unfolding decision_told DoesNotFork
decision_straight (Go state) h = tt
decision_straight (Test' flag at a at' b) h = (decision_straight a h.0, decision_straight b h.1)
decision_straight (Count' counter last at a at' b) h = (decision_straight a h.0, decision_straight b h.1)
decision_straight (Fork forked) h = absurd h
decision_straight Rest h = tt

told_states : (ps : List PlacedState) → AreStraight ps → AllByRecursion (λ t. TellsStraight t.way) (map placed_told ps)
told_states [] h = tt
told_states (p ∷ ps) h = (told_straight p.way h.0, told_states ps h.1)

code_states : (ss : List State) → AllByRecursion (λ t. TellsStraight t.way) (states_told ss) → AllByRecursion (λ (s : State). DoesNotFork s.next) ss
code_states [] h = tt
code_states (s ∷ ss) h = (decision_straight s.next h.0, code_states ss h.1)

code_groups : (gs : List Group) → AllByRecursion (λ t. TellsStraight t.first) (groups_told gs) → AllByRecursion (λ (s : Group). DoesNotFork s.first) gs
code_groups [] h = tt
code_groups (g ∷ gs) h = (decision_straight g.first h.0, code_groups gs h.1)

pub never_forks : (plan : PlainPlan) (g : Graph) → states_told g.states.items ≡ map placed_told (plan_states plan.body) → groups_told g.groups.items ≡ map forked_told (plan_groups plan.body)
    → IsOneThread plan.body → NeverForks g
never_forks plan g states_are groups_are one =
    let ns = plan.body in
    let own : groups_told g.groups.items ≡ forked_told (own_group ns) ∷ [] = groups_are ∙ ap (λ fs. forked_told (own_group ns) ∷ map forked_told fs) (no_groups ns 0 1 0 to_end over one) in
    record {
      states = code_states g.states.items (subst (λ ts. AllByRecursion (λ t. TellsStraight t.way) ts) (sym states_are) (told_states (plan_states ns) (states_straight ns 0 1 0 to_end over one tt)));
      groups = code_groups g.groups.items (subst (λ ts. AllByRecursion (λ t. TellsStraight t.first) ts) (sym own) (told_straight (way_in_nodes ns 0 1 to_end) (into_straight ns 0 1 to_end one tt), tt));
      alone = sym (length-map g.groups.items group_told) ∙ ap (λ ts. length ts) own;
    }
