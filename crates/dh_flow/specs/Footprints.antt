-- How much of a graph the nodes of a plan take: how many states and groups, and how they begin. And the marks that
-- the walk which measures nodes leaves. Numbers in marks are those of the code, cut at its greatest.
use Rattle.std.specs.Prelude.{ℕ, ◌+◌, ◌-◌, ◌^◌, ◌==◌, if◌then◌else◌, min, List, [], ◌∷◌, ◌++◌}
use Rattle.dh_plan.specs.PlainPlans.{Node, block_node, turns_node, loop_node, choice_node, threads_node, Nodes, no_nodes, node_then, NodeLists, no_lists, list_then}
use Rattle.dh_flow.specs.declared.measuring.Entry.{Entry}
use Rattle.dh_flow.specs.declared.measuring.Entry.TheVariants.{Nothing, State, Threads}
use Rattle.dh_flow.specs.declared.measuring.Footprint.{Footprint}
use Rattle.dh_flow.specs.declared.measuring.NodeMark.{NodeMark}

abbrev mutual
  -- how many states nodes take; a loop without turns takes none
  pub states_in : Nodes → ℕ
  states_in no_nodes = 0
  states_in (node_then n ns) = states_of n + states_in ns

  pub states_of : Node → ℕ
  states_of (block_node block) = 1
  states_of (turns_node counter turns body) = if turns == 0 then 0 else states_in body
  states_of (loop_node test flag body) = states_in body + 1
  states_of (choice_node test flag chosen other) = states_in chosen + states_in other + 1
  states_of (threads_node lists) = list_states lists

  pub list_states : NodeLists → ℕ
  list_states no_lists = 0
  list_states (list_then ns lists) = states_in ns + list_states lists

abbrev pub list_count : NodeLists → ℕ
list_count no_lists = 0
list_count (list_then ns lists) = list_count lists + 1

-- the first of two that is something
abbrev pub entry_or : Entry → Entry → Entry
entry_or Nothing e = e
entry_or State e = State
entry_or (Threads nested count) e = Threads nested count

-- so many groups, where threads begin at all
abbrev pub own_groups : Entry → (count : ℕ) → ℕ
own_groups Nothing count = 0
own_groups State count = count
own_groups (Threads nested threads) count = count

-- so many threads begin, where one of them does
abbrev pub fork_entry : Entry → (nested count : ℕ) → Entry
fork_entry Nothing nested count = Nothing
fork_entry State nested count = Threads nested count
fork_entry (Threads inner threads) nested count = Threads nested count

abbrev mutual
  -- how many groups the threads of nodes take
  pub groups_in : Nodes → ℕ
  groups_in no_nodes = 0
  groups_in (node_then n ns) = node_groups n + groups_in ns

  pub node_groups : Node → ℕ
  node_groups (block_node block) = 0
  node_groups (turns_node counter turns body) = if turns == 0 then 0 else groups_in body
  node_groups (loop_node test flag body) = groups_in body
  node_groups (choice_node test flag chosen other) = groups_in chosen + groups_in other
  node_groups (threads_node lists) = list_groups lists + own_groups (lists_entry lists) (list_count lists)

  pub list_groups : NodeLists → ℕ
  list_groups no_lists = 0
  list_groups (list_then ns lists) = groups_in ns + list_groups lists

  -- how nodes begin: as the first of them that does a block
  pub nodes_entry : Nodes → Entry
  nodes_entry no_nodes = Nothing
  nodes_entry (node_then n ns) = entry_or (node_entry n) (nodes_entry ns)

  pub node_entry : Node → Entry
  node_entry (block_node block) = State
  node_entry (turns_node counter turns body) = if turns == 0 then Nothing else nodes_entry body
  node_entry (loop_node test flag body) = State
  node_entry (choice_node test flag chosen other) = State
  node_entry (threads_node lists) = fork_entry (lists_entry lists) (list_groups lists) (list_count lists)

  pub lists_entry : NodeLists → Entry
  lists_entry no_lists = Nothing
  lists_entry (list_then ns lists) = entry_or (nodes_entry ns) (lists_entry lists)

-- The numbers of the code.

-- cut at the greatest
abbrev pub cut : ℕ → ℕ
cut n = min n (2 ^ 64 - 1)

abbrev pub cut_entry : Entry → Entry
cut_entry Nothing = Nothing
cut_entry State = State
cut_entry (Threads nested count) = Threads (cut nested) (cut count)

abbrev pub footprint : (states groups : ℕ) → Entry → Footprint
footprint states groups entry = record { states = cut states; groups = cut groups; entry = cut_entry entry }

abbrev pub footprint_of : Nodes → Footprint
footprint_of ns = footprint (states_in ns) (groups_in ns) (nodes_entry ns)

abbrev pub node_footprint : Node → Footprint
node_footprint n = footprint (states_of n) (node_groups n) (node_entry n)

abbrev pub lists_footprint : NodeLists → Footprint
lists_footprint lists = footprint (list_states lists) (list_groups lists) (lists_entry lists)

-- What functions make of them.

abbrev pub joined_footprint : Footprint → Footprint → Footprint
joined_footprint a b =
    record { states = min (a.states + b.states) (2 ^ 64 - 1); groups = min (a.groups + b.groups) (2 ^ 64 - 1); entry = entry_or a.entry b.entry }

abbrev pub tested_footprint : Footprint → Footprint
tested_footprint a = record { states = min (a.states + 1) (2 ^ 64 - 1); groups = a.groups; entry = State }

abbrev pub grouped_footprint : Footprint → (count : ℕ) → Footprint
grouped_footprint a count = record { states = a.states; groups = min (a.groups + count) (2 ^ 64 - 1); entry = Threads a.groups count }

abbrev pub forked_by : Entry → Footprint → (count : ℕ) → Footprint
forked_by Nothing a count = a
forked_by State a count = grouped_footprint a count
forked_by (Threads nested threads) a count = grouped_footprint a count

abbrev pub forked_footprint : Footprint → (count : ℕ) → Footprint
forked_footprint a count = forked_by a.entry a count

-- The marks.

abbrev pub test_mark : Footprint → Footprint → Entry → NodeMark
test_mark own inner other = record { own = own; inner = inner; other = other; behind = Nothing }

-- of a test before two arms that take so much
abbrev pub arms_mark : Footprint → Footprint → NodeMark
arms_mark chosen other = test_mark (tested_footprint (joined_footprint chosen other)) chosen other.entry

-- of nodes without parts of their own
abbrev pub list_mark : Footprint → NodeMark
list_mark own = test_mark own (footprint_of no_nodes) Nothing

-- the mark of a node, but for what comes behind it
abbrev pub node_mark : Node → NodeMark
node_mark (block_node block) = list_mark (node_footprint (block_node block))
node_mark (turns_node counter turns body) = list_mark (node_footprint (turns_node counter turns body))
node_mark (loop_node test flag body) = test_mark (node_footprint (loop_node test flag body)) (footprint_of body) Nothing
node_mark (choice_node test flag chosen other) = test_mark (node_footprint (choice_node test flag chosen other)) (footprint_of chosen) (cut_entry (nodes_entry other))
node_mark (threads_node lists) = list_mark (node_footprint (threads_node lists))

abbrev pub told_behind : NodeMark → Entry → NodeMark
told_behind m e = record { own = m.own; inner = m.inner; other = m.other; behind = e }

abbrev mutual
  -- the marks of nodes, in the order in which they are left: from the last node to the first, each behind those inside
  pub marks_of : Nodes → List NodeMark
  marks_of no_nodes = []
  marks_of (node_then n ns) = marks_of ns ++ (inner_marks n ++ told_behind (node_mark n) (cut_entry (nodes_entry ns)) ∷ [])

  pub inner_marks : Node → List NodeMark
  inner_marks (block_node block) = []
  inner_marks (turns_node counter turns body) = if turns == 0 then [] else marks_of body
  inner_marks (loop_node test flag body) = marks_of body
  inner_marks (choice_node test flag chosen other) = marks_of other ++ marks_of chosen
  inner_marks (threads_node lists) = lists_marks lists

  pub lists_marks : NodeLists → List NodeMark
  lists_marks no_lists = []
  lists_marks (list_then ns lists) = lists_marks lists ++ (marks_of ns ++ told_behind (list_mark (footprint_of ns)) (cut_entry (lists_entry lists)) ∷ [])
