-- There are no fewer marks than states and groups: each state has the mark of its node, and each group that of its
-- thread. By recursion on nodes. So where the marks have room the states and groups have.
use Rattle.std.proofs.Common.{ℕ, ◌+◌, ◌≤◌, ◌==◌, Bool, true, false, if◌then◌else◌, List, [], ◌∷◌, ◌++◌, length, arith}
use Rattle.std.proofs.lemmas.List.{length-append}
use Rattle.dh_plan.specs.PlainPlans.{Node, block_node, turns_node, loop_node, choice_node, threads_node, Nodes, no_nodes, node_then, NodeLists, no_lists, list_then}
use Rattle.dh_flow.specs.declared.measuring.Entry.{Entry}
use Rattle.dh_flow.specs.declared.measuring.Entry.TheVariants.{Nothing, State, Threads}
use Rattle.dh_flow.specs.declared.measuring.NodeMark.{NodeMark}
use Rattle.dh_flow.specs.Footprints.{states_in, states_of, list_states, list_count, groups_in, node_groups, list_groups, lists_entry, nodes_entry, own_groups, footprint_of, list_mark, node_mark, told_behind, cut_entry, marks_of, inner_marks, lists_marks}

joined : (xs inner : List NodeMark) (m : NodeMark) (s t g h : ℕ) → t + h ≤ length xs → s + g ≤ length inner + 1 → (s + t) + (g + h) ≤ length (xs ++ (inner ++ m ∷ []))
joined xs inner m s t g h rest own =
    let one = length-append xs (inner ++ m ∷ []) in
    let two = length-append inner (m ∷ []) in
    omega (arith, rest, own, one, two)

by_turns : (b : Bool) (xs : List NodeMark) (s g : ℕ) → s + g ≤ length xs → (if b then 0 else s) + (if b then 0 else g) ≤ length (if b then [] else xs) + 1
by_turns true xs s g h = omega arith
by_turns false xs s g h = omega (arith, h)

more : (s g n : ℕ) → s + g ≤ n → s + 1 + g ≤ n + 1
more s g n h = omega (arith, h)

two_arms : (xs ys : List NodeMark) (s t g h : ℕ) → s + g ≤ length xs → t + h ≤ length ys → s + t + 1 + (g + h) ≤ length (ys ++ xs) + 1
two_arms xs ys s t g h one two =
    let whole = length-append ys xs in
    omega (arith, one, two, whole)

own_few : (e : Entry) (s g n l : ℕ) → s + g + n ≤ l → s + (g + own_groups e n) ≤ l + 1
own_few Nothing s g n l h = omega (arith, h)
own_few State s g n l h = omega (arith, h)
own_few (Threads m c) s g n l h = omega (arith, h)

one_list : (xs ys : List NodeMark) (m : NodeMark) (s t g h n : ℕ) → t + h + n ≤ length xs → s + g ≤ length ys → (s + t) + (g + h) + (n + 1) ≤ length (xs ++ (ys ++ m ∷ []))
one_list xs ys m s t g h n rest own =
    let one = length-append xs (ys ++ m ∷ []) in
    let two = length-append ys (m ∷ []) in
    omega (arith, rest, own, one, two)

mutual
  pub marks_cover : (ns : Nodes) → states_in ns + groups_in ns ≤ length (marks_of ns)
  marks_cover no_nodes = omega arith
  marks_cover (node_then n ns) =
      joined (marks_of ns) (inner_marks n) (told_behind (node_mark n) (cut_entry (nodes_entry ns))) (states_of n) (states_in ns) (node_groups n) (groups_in ns) (marks_cover ns) (node_covered n)

  node_covered : (n : Node) → states_of n + node_groups n ≤ length (inner_marks n) + 1
  node_covered (block_node block) = omega arith
  node_covered (turns_node counter turns body) = by_turns (turns == 0) (marks_of body) (states_in body) (groups_in body) (marks_cover body)
  node_covered (loop_node test flag body) = more (states_in body) (groups_in body) (length (marks_of body)) (marks_cover body)
  node_covered (choice_node test flag chosen other) =
      two_arms (marks_of chosen) (marks_of other) (states_in chosen) (states_in other) (groups_in chosen) (groups_in other) (marks_cover chosen) (marks_cover other)
  node_covered (threads_node lists) = own_few (lists_entry lists) (list_states lists) (list_groups lists) (list_count lists) (length (lists_marks lists)) (lists_covered lists)

  lists_covered : (lists : NodeLists) → list_states lists + list_groups lists + list_count lists ≤ length (lists_marks lists)
  lists_covered no_lists = omega arith
  lists_covered (list_then ns lists) =
      one_list (lists_marks lists) (marks_of ns) (told_behind (list_mark (footprint_of ns)) (cut_entry (lists_entry lists))) (states_in ns) (list_states lists) (groups_in ns) (list_groups lists) (list_count lists)
      (lists_covered lists) (marks_cover ns)
