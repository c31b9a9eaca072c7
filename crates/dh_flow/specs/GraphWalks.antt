-- What the walk that makes the states does. It takes up the marks of nodes, the last that was left first, and puts
-- the states and groups of their graph behind those that are there, where there is room for their numbers. `own` is
-- the group of the nodes, and of threads the group of the first.
use Rattle.std.specs.Prelude.{◌≡◌, ℕ, ◌+◌, ◌<◌, ◌^◌, ◌-◌, min, List, [], ◌∷◌, ◌++◌, length, map, Option, Some, None, option_map, Vec}
use Rattle.std.specs.Global.{Global}
use Rattle.dh_plan.specs.declared.graphs.Decision.{Decision}
use Rattle.dh_plan.specs.declared.graphs.Graph.{Graph}
use Rattle.dh_plan.specs.declared.graphs.Group.{Group}
use Rattle.dh_plan.specs.declared.plans.Node as code
use Rattle.dh_plan.specs.PlainPlans.{Node, Nodes, node_then, NodeLists}
use Rattle.dh_plan.specs.PlanRuns.{PlanTodo, nodes_then}
use Rattle.dh_plan.specs.SeenPlans.{node_seen, nodes_seen}
use Rattle.dh_plan.specs.Ways.{GraphWay}
use Rattle.dh_flow.specs.declared.measuring.Entry.{Entry}
use Rattle.dh_flow.specs.declared.measuring.Entry.TheVariants.{Nothing, State, Threads}
use Rattle.dh_flow.specs.declared.measuring.NodeMark.{NodeMark}
use Rattle.dh_flow.specs.Footprints.{states_in, states_of, list_states, list_count, lists_entry, groups_in, node_groups, list_groups, node_mark, told_behind, marks_of, inner_marks, lists_marks}
use Rattle.dh_flow.specs.Measured.{all_lists_seen}
use Rattle.dh_flow.specs.PlainFlows.{PlacedState, Forked, way_in_nodes, states, node_placed, list_placed, begun_groups, nodes_forked, node_forked, list_forked}
use Rattle.dh_flow.specs.ToldWays.{ToldWay, decision_told, graph_way_told, told_go, told_test, told_count, told_rest, told_entry, told_state, told_group, states_told, groups_told, placed_told, forked_told}

-- the mark that was left last is taken up
pub record TakesUp (old new : List NodeMark) (m : NodeMark) : Type 0 where
  pub so : (below : List NodeMark) (x : NodeMark) → old ≡ below ++ x ∷ [] → (m ≡ x) × (new ≡ below)

abbrev pub states_at : Graph → ℕ
states_at g = length g.states.items

abbrev pub groups_at : Graph → ℕ
groups_at g = length g.groups.items

-- there is room for so many more states and groups
abbrev pub Room : Graph → (more_states more_groups : ℕ) → Type 0
Room g more_states more_groups = (states_at g + more_states < 2 ^ 64) × (groups_at g + more_groups < 2 ^ 64)

-- these states and groups stand behind those that were there
pub record GraphGrows (ps : List PlacedState) (fs : List Forked) (old new : Graph) : Type 0 where
  pub states : states_told new.states.items ≡ states_told old.states.items ++ map placed_told ps
  pub groups : groups_told new.groups.items ≡ groups_told old.groups.items ++ map forked_told fs

-- what functions tell of ways, of the code's sums
abbrev pub cut_sum : ℕ → ℕ → ℕ
cut_sum m n = min (m + n) (2 ^ 64 - 1)

abbrev pub turn_told : (counter last : ℕ) → Entry → ToldWay → Graph → ToldWay
turn_told counter last e way g = told_count counter last (told_entry e (states_at g) (groups_at g) told_rest) way

abbrev pub loop_told : (flag : ℕ) → NodeMark → ToldWay → Graph → ToldWay
loop_told flag m way g = told_test flag (told_entry m.inner.entry (cut_sum (states_at g) 1) (groups_at g) (told_go (states_at g))) way

abbrev pub choice_told : (flag : ℕ) → NodeMark → ToldWay → Graph → ToldWay
choice_told flag m way g =
    told_test flag (told_entry m.inner.entry (cut_sum (states_at g) 1) (groups_at g) way)
    (told_entry m.other (cut_sum (cut_sum (states_at g) 1) m.inner.states) (cut_sum (groups_at g) m.inner.groups) way)

-- a decision of the code is one of these ways; the way behind is one of the code, too
abbrev pub IsTurnWay : Decision → (counter last : ℕ) → Entry → Decision → Graph → Type 0
IsTurnWay d counter last e way g = decision_told d ≡ turn_told counter last e (decision_told way) g

abbrev pub IsLoopWay : Decision → (flag : ℕ) → NodeMark → Decision → Graph → Type 0
IsLoopWay d flag m way g = decision_told d ≡ loop_told flag m (decision_told way) g

abbrev pub IsChoiceWay : Decision → (flag : ℕ) → NodeMark → Decision → Graph → Type 0
IsChoiceWay d flag m way g = decision_told d ≡ choice_told flag m (decision_told way) g

-- own groups, where threads begin
abbrev pub added : Entry → List Group → List Group
added Nothing own = []
added State own = own
added (Threads nested count) own = own

pub record AddsGroups (e : Entry) (own : List Group) (old new : Graph) : Type 0 where
  pub states : states_told new.states.items ≡ states_told old.states.items
  pub groups : groups_told new.groups.items ≡ groups_told old.groups.items ++ groups_told (added e own)

-- one state does
pub record PushesState (block own : ℕ) (way : ToldWay) (old new : Graph) : Type 0 where
  pub states : states_told new.states.items ≡ states_told old.states.items ++ told_state block own way ∷ []
  pub groups : groups_told new.groups.items ≡ groups_told old.groups.items

pub record Walked (below new : List NodeMark) (ps : List PlacedState) (fs : List Forked) (g h : Graph) : Type 0 where
  pub marks : new ≡ below
  pub grows : GraphGrows ps fs g h

pub record Walks (ns : Nodes) (own : ℕ) (way : ToldWay) (old new : List NodeMark) (g h : Graph) : Type 0 where
  pub so : (below : List NodeMark) (w : GraphWay) (k : PlanTodo) → old ≡ below ++ marks_of ns → way ≡ graph_way_told w → Room g (states_in ns) (groups_in ns)
      → Walked below new (states ns (states_at g) (groups_at g) own w k) (nodes_forked ns (states_at g) (groups_at g) own w k) g h

-- the first of nodes, behind which comes the way into the rest
pub record WalksNext (n : Node) (own : ℕ) (way : ToldWay) (old new : List NodeMark) (g h : Graph) : Type 0 where
  pub so : (ns : Nodes) (below : List NodeMark) (w : GraphWay) (k : PlanTodo) → old ≡ below ++ marks_of (node_then n ns) → way ≡ graph_way_told w → Room g (states_in (node_then n ns)) (groups_in (node_then n ns))
      → Walked (below ++ marks_of ns) new
      (node_placed n (states_at g) (groups_at g) own (way_in_nodes ns (states_at g + states_of n) (groups_at g + node_groups n) w) (nodes_then ns k))
      (node_forked n (states_at g) (groups_at g) own (way_in_nodes ns (states_at g + states_of n) (groups_at g + node_groups n) w) (nodes_then ns k)) g h

-- a node, whose mark was taken up
pub record WalksNode (n : Node) (own : ℕ) (m : NodeMark) (way : ToldWay) (old new : List NodeMark) (g h : Graph) : Type 0 where
  pub so : (e : Entry) (below : List NodeMark) (w : GraphWay) (k : PlanTodo) → m ≡ told_behind (node_mark n) e → old ≡ below ++ inner_marks n → way ≡ graph_way_told w → Room g (states_of n) (node_groups n)
      → Walked below new (node_placed n (states_at g) (groups_at g) own w k) (node_forked n (states_at g) (groups_at g) own w k) g h

-- threads that begin have numbers from this one on
abbrev pub RoomFrom : (own : ℕ) → NodeLists → Type 0
RoomFrom own lists = (lists_entry lists ≡ Nothing → ⊥) → own + list_count lists < 2 ^ 64

-- threads of this parent: their states and nested groups, and besides their own groups
pub record WalksLists (lists : NodeLists) (parent own : ℕ) (after : Option ToldWay) (old new : List NodeMark) (g h : Graph) (made : List Group) : Type 0 where
  pub so : (below : List NodeMark) (join : Option GraphWay) (k : PlanTodo) → old ≡ below ++ lists_marks lists → after ≡ option_map graph_way_told join → Room g (list_states lists) (list_groups lists) → RoomFrom own lists
      → Walked below new (list_placed lists (states_at g) (groups_at g) own) (list_forked lists (states_at g) (groups_at g) own) g h
      × (groups_told made ≡ map forked_told (begun_groups lists (states_at g) (groups_at g) parent join k))

-- the first number of the groups of threads that begin so
abbrev pub first_told : Entry → Graph → ℕ
first_told Nothing g = groups_at g
first_told State g = groups_at g
first_told (Threads nested count) g = cut_sum (groups_at g) nested

-- a graph without states, with the program's own group
pub record Starts (e : Entry) (g : Graph) : Type 0 where
  pub states : g.states.items ≡ []
  pub groups : groups_told g.groups.items ≡ told_group None (told_entry e 0 1 told_rest) None ∷ []

-- What functions do, by the nodes and ways of the code.

abbrev pub WalksAll : List code.Node → (group : ℕ) → Decision → (old new : Vec NodeMark Global) → (g h : Graph) → Type 0
WalksAll nodes group way old new g h = Walks (nodes_seen nodes) group (decision_told way) old.items new.items g h

abbrev pub WalksOne : code.Node → (group : ℕ) → Decision → (old new : Vec NodeMark Global) → (g h : Graph) → Type 0
WalksOne node group way old new g h = WalksNext (node_seen node) group (decision_told way) old.items new.items g h

abbrev pub WalksIn : code.Node → (group : ℕ) → NodeMark → Decision → (old new : Vec NodeMark Global) → (g h : Graph) → Type 0
WalksIn node group mark way old new g h = WalksNode (node_seen node) group mark (decision_told way) old.items new.items g h

abbrev pub Forks : List (Vec code.Node Global) → (parent first : ℕ) → Decision → (old new : Vec NodeMark Global) → (g h : Graph) → Vec Group Global → Type 0
Forks lists parent first way old new g h own = WalksLists (all_lists_seen lists) parent first (Some (decision_told way)) old.items new.items g h own.items
