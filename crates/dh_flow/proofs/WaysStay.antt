-- The ways of a plan's graph stay within it. A way is good in a group where its flags and counters are registers, its
-- states are of the group, and its forks begin groups whose parent the group is, each by its own way. By recursion on
-- nodes: the way into nodes is good, where their states and groups sit at their numbers; so all states and groups go
-- on by good ways, where the way behind them is good.
use Rattle.std.proofs.Common.{◌≡◌, ℕ, suc, ◌+◌, ◌==◌, Bool, true, false, if◌then◌else◌, List, [], ◌∷◌, ◌++◌, length, Option, Some, None, refl, sym, subst, arith}
use Rattle.std.specs.Prelude.{slice_get}
use Rattle.std.specs.List.{AllByRecursion}
use Rattle.std.proofs.lemmas.Option.{slice_get_within}
use Rattle.dh_plan.specs.PlainPlans.{Node, block_node, turns_node, loop_node, choice_node, threads_node, Nodes, no_nodes, node_then, NodeLists, no_lists, list_then, PlainPlan}
use Rattle.dh_plan.specs.PlanKinds.{Names}
use Rattle.dh_plan.specs.PlanRuns.{PlanTodo, over, nodes_then, turn_then, test_then, again_then, pick_then}
use Rattle.dh_plan.specs.Ways.{GraphWay, to_state, by_flag, by_count, to_fork, to_end, AllWays, no_ways, way_then}
use Rattle.dh_flow.specs.declared.measuring.Entry.{Entry}
use Rattle.dh_flow.specs.declared.measuring.Entry.TheVariants.{Nothing, State, Threads}
use Rattle.dh_flow.specs.Footprints.{states_in, states_of, list_states, groups_in, node_groups, list_groups, list_count, nodes_entry, node_entry, lists_entry}
use Rattle.dh_flow.specs.PlainFlows.{way_or, way_in_nodes, way_in_node, ways_in, PlacedState, placed_state, Forked, forked, loop_way, choice_way, turn_way, states, node_placed, list_placed, begun_groups, begun_if, nodes_forked, node_forked, list_forked}
use Rattle.dh_flow.proofs.PartsThere.{PartsAre, NodeParts, ListParts}
use Rattle.dh_flow.proofs.PlacedLists.{Sits, sits_front, sits_back, sits_tail, sits_first, all_put, states_length, groups_length, nested_length, lists_length, node_none, lists_none, Begins, fork_begins}
use Rattle.dh_flow.proofs.WaysDo.{Here, HereNode, HereLists, here_first, here_rest, here_list, here_lists}

abbrev pub SomeWays : AllWays → Type 0
SomeWays no_ways = ⊥
SomeWays (way_then w ws) = Unit {0}

some_ways : (lists : NodeLists) (a g : ℕ) → Begins (lists_entry lists) → SomeWays (ways_in lists a g)
some_ways no_lists a g is = absurd is
some_ways (list_then ns lists) a g is = tt

begun_whole : (e : Entry) (lists : NodeLists) (a g o : ℕ) (join : Option GraphWay) (k : PlanTodo) → Begins e → begun_if e lists a g o join k ≡ begun_groups lists a g o join k
begun_whole Nothing lists a g o join k is = absurd is
begun_whole State lists a g o join k is = refl
begun_whole (Threads nested count) lists a g o join k is = refl

none_left : {A : Type 0} (P : A → Type 0) (xs : List A) (n : ℕ) → length xs ≡ n → n ≡ 0 → AllByRecursion P xs
none_left P [] n l z = tt
none_left P (x ∷ xs) n l z = absurd (some (length xs) n l z)
  where
    some : (m n : ℕ) → suc m ≡ n → n ≡ 0 → ⊥
    some m n l z = omega (arith, l, z)

no_more : (m n : ℕ) → n ≡ 0 → m + n ≡ m
no_more m n e = omega (arith, e)

module _ (plan : PlainPlan) (ps : List PlacedState) (fs : List Forked) where
  -- the group of this number has this parent, and begins so
  pub record BeginsAs (o g : ℕ) (w : GraphWay) : Type 0 where
    pub group : Forked
    pub there : slice_get fs g ≡ Some group
    pub parent : group.parent ≡ Some o
    pub first : group.first ≡ w

  -- the state of this number is of this group
  pub record IsIn (o s : ℕ) : Type 0 where
    pub state : PlacedState
    pub there : slice_get ps s ≡ Some state
    pub home : state.home ≡ o

  abbrev mutual
    pub IsGood : (o : ℕ) → GraphWay → Type 0
    IsGood o (to_state s) = IsIn o s
    IsGood o (by_flag flag w v) = Names plan.registers flag × (IsGood o w × IsGood o v)
    IsGood o (by_count counter last w v) = Names plan.registers counter × (IsGood o w × IsGood o v)
    IsGood o (to_fork fork ws) = SomeWays ws × AreGood o fork ws
    IsGood o to_end = Unit {0}

    pub AreGood : (o g : ℕ) → AllWays → Type 0
    AreGood o g no_ways = Unit {0}
    AreGood o g (way_then w ws) = BeginsAs o g w × (IsGood g w × AreGood o (suc g) ws)

  here_threads : (lists : NodeLists) (a g o : ℕ) (v : GraphWay) (k : PlanTodo) → HereNode plan.registers ps fs (threads_node lists) a g o v k → HereLists plan.registers ps fs lists a g (g + list_groups lists)
  here_threads lists a g o v k h = (h.0, sits_front (list_forked lists a g (g + list_groups lists)) (begun_if (lists_entry lists) lists a g o (Some v) k) fs g h.1)

  own_sit : (lists : NodeLists) (a g o : ℕ) (v : GraphWay) (k : PlanTodo) → Begins (lists_entry lists) → HereNode plan.registers ps fs (threads_node lists) a g o v k → Sits (begun_groups lists a g o (Some v) k) fs (g + list_groups lists)
  own_sit lists a g o v k begins h =
      let c = g + list_groups lists in
      let sit = sits_back (list_forked lists a g c) (begun_if (lists_entry lists) lists a g o (Some v) k) fs g c (list_groups lists) (nested_length lists a g c) refl h.1 in
      subst (λ xs. Sits xs fs c) (begun_whole (lists_entry lists) lists a g o (Some v) k begins) sit

  good_by : (e : Entry) (o : ℕ) (x y : GraphWay) → (Begins e → IsGood o x) → (e ≡ Nothing → IsGood o y) → IsGood o (way_or e x y)
  good_by Nothing o x y one two = two refl
  good_by State o x y one two = one tt
  good_by (Threads nested count) o x y one two = one tt

  turns_good : (b : Bool) (e : Entry) (xs : List PlacedState) (ys : List Forked) (a g o : ℕ) (w : GraphWay) → (Sits xs ps a × Sits ys fs g → IsGood o w)
      → Begins (if b then Nothing else e) → Sits (if b then [] else xs) ps a × Sits (if b then [] else ys) fs g → IsGood o w
  turns_good true e xs ys a g o w so is h = absurd is
  turns_good false e xs ys a g o w so is h = so h

  mutual
    pub way_good : (ns : Nodes) (a g o : ℕ) (w v : GraphWay) (k : PlanTodo) → Here plan.registers ps fs ns a g o v k → IsGood o w → IsGood o (way_in_nodes ns a g w)
    way_good no_nodes a g o w v k h past = past
    way_good (node_then n ns) a g o w v k h past =
        let a' = a + states_of n in
        let g' = g + node_groups n in
        good_by (node_entry n) o (way_in_node n a g) (way_in_nodes ns a g w)
        (λ begins. node_good n a g o (way_in_nodes ns a' g' v) (nodes_then ns k) begins (here_first plan.registers ps fs n ns a g o v k h))
        (λ none.
        let nothing = node_none n none in
        let same_a : a' ≡ a = no_more a (states_of n) nothing.0 in
        let same_g : g' ≡ g = no_more g (node_groups n) nothing.1 in
        subst (λ (y : ℕ). IsGood o (way_in_nodes ns a y w)) same_g (subst (λ (x : ℕ). IsGood o (way_in_nodes ns x g' w)) same_a
        (way_good ns a' g' o w v k (here_rest plan.registers ps fs n ns a g o v k h) past)))

    node_good : (n : Node) (a g o : ℕ) (v : GraphWay) (k : PlanTodo) → Begins (node_entry n) → HereNode plan.registers ps fs n a g o v k → IsGood o (way_in_node n a g)
    node_good (block_node block) a g o v k is h = record { state = placed_state block o v k; there = sits_first _ [] ps a h.0; home = refl }
    node_good (turns_node counter turns body) a g o v k is h =
        let w = turn_way counter turns body a g v in
        let todo = turn_then counter turns body k in
        turns_good (turns == 0) (nodes_entry body) (states body a g o w todo) (nodes_forked body a g o w todo) a g o (way_in_nodes body a g to_end) (λ here. way_good body a g o to_end w todo here tt) is h
    node_good (loop_node test flag body) a g o v k is h =
        record { state = placed_state test o (loop_way flag body a g v) (test_then test flag body k); there = sits_first _ (states body (a + 1) g o (to_state a) (again_then test flag body k)) ps a h.0; home = refl }
    node_good (choice_node test flag chosen other) a g o v k is h =
        record {
          state = placed_state test o (choice_way flag chosen other a g v) (pick_then flag chosen other k);
          there = sits_first _ (states chosen (a + 1) g o v k ++ states other (a + 1 + states_in chosen) (g + groups_in chosen) o v k) ps a h.0;
          home = refl;
        }
    node_good (threads_node lists) a g o v k is h =
        let c = g + list_groups lists in
        let begins = fork_begins (lists_entry lists) (list_groups lists) (list_count lists) is in
        (some_ways lists a g begins, lists_good lists a g o c (Some v) k (here_threads lists a g o v k h) (own_sit lists a g o v k begins h))

    lists_good : (lists : NodeLists) (a g o c : ℕ) (join : Option GraphWay) (k : PlanTodo) → HereLists plan.registers ps fs lists a g c → Sits (begun_groups lists a g o join k) fs c → AreGood o c (ways_in lists a g)
    lists_good no_lists a g o c join k h own = tt
    lists_good (list_then ns lists) a g o c join k h own =
        let a' = a + states_in ns in
        let g' = g + groups_in ns in
        let one : BeginsAs o c (way_in_nodes ns a g to_end) =
        record { group = forked (Some o) (way_in_nodes ns a g to_end) join k; there = sits_first (forked (Some o) (way_in_nodes ns a g to_end) join k) (begun_groups lists a' g' o None over) fs c own; parent = refl; first = refl } in
        let rest = lists_good lists a' g' o (c + 1) None over (here_lists plan.registers ps fs ns lists a g c h) (sits_tail (forked (Some o) (way_in_nodes ns a g to_end) join k) (begun_groups lists a' g' o None over) fs c own) in
        (one, (way_good ns a g c to_end to_end over (here_list plan.registers ps fs ns lists a g c h) tt, subst (λ (n : ℕ). AreGood o n (ways_in lists a' g')) (omega arith) rest))

  -- What is asked of all states and groups.

  pub record StateStays (p : PlacedState) : Type 0 where
    pub block : Names plan.blocks p.block
    pub home : Names fs p.home
    pub way : IsGood p.home p.way

  abbrev pub JoinStays : (parent : Option ℕ) → (join : Option GraphWay) → Type 0
  JoinStays parent None = Unit {0}
  JoinStays None (Some w) = ⊥
  JoinStays (Some o) (Some w) = IsGood o w

  abbrev pub ParentStays : Option ℕ → Type 0
  ParentStays None = Unit {0}
  ParentStays (Some o) = Names fs o

  pub record GroupStays (f : Forked) : Type 0 where
    pub parent : ParentStays f.parent
    pub join : JoinStays f.parent f.join

  abbrev pub AllStay : List PlacedState → List Forked → Type 0
  AllStay xs ys = AllByRecursion StateStays xs × AllByRecursion GroupStays ys

  two_stay : (xs xs' : List PlacedState) (ys ys' : List Forked) → AllStay xs ys → AllStay xs' ys' → AllStay (xs ++ xs') (ys ++ ys')
  two_stay xs xs' ys ys' h k = (all_put StateStays xs xs' h.0 k.0, all_put GroupStays ys ys' h.1 k.1)

  stay_by : (b : Bool) (xs : List PlacedState) (ys : List Forked) (a g : ℕ) → (Sits xs ps a × Sits ys fs g → AllStay xs ys)
      → Sits (if b then [] else xs) ps a × Sits (if b then [] else ys) fs g → AllStay (if b then [] else xs) (if b then [] else ys)
  stay_by true xs ys a g so h = (tt, tt)
  stay_by false xs ys a g so h = so h

  begun_stay : (lists : NodeLists) (a g o : ℕ) (join : Option GraphWay) (k : PlanTodo) → Names fs o → JoinStays (Some o) join → AllByRecursion GroupStays (begun_groups lists a g o join k)
  begun_stay no_lists a g o join k within j = tt
  begun_stay (list_then ns lists) a g o join k within j = (record { parent = within; join = j }, begun_stay lists (a + states_in ns) (g + groups_in ns) o None over within tt)

  own_stay : (lists : NodeLists) (a g o : ℕ) (w : GraphWay) (k : PlanTodo) → Begins (lists_entry lists) → Names fs o → IsGood o w
      → (Begins (lists_entry lists) → AllStay (list_placed lists a g (g + list_groups lists)) (list_forked lists a g (g + list_groups lists)))
      → AllStay (list_placed lists a g (g + list_groups lists)) (list_forked lists a g (g + list_groups lists) ++ begun_if (lists_entry lists) lists a g o (Some w) k)
  own_stay lists a g o w k begins within past so =
      let inner = so begins in
      let own = subst (λ ys. AllByRecursion GroupStays ys) (sym (begun_whole (lists_entry lists) lists a g o (Some w) k begins)) (begun_stay lists a g o (Some w) k within past) in
      (inner.0, all_put GroupStays (list_forked lists a g (g + list_groups lists)) (begun_if (lists_entry lists) lists a g o (Some w) k) inner.1 own)

  threads_stay : (lists : NodeLists) (e : Entry) (a g o : ℕ) (w : GraphWay) (k : PlanTodo) → lists_entry lists ≡ e → HereNode plan.registers ps fs (threads_node lists) a g o w k → Names fs o → IsGood o w
      → (Begins (lists_entry lists) → AllStay (list_placed lists a g (g + list_groups lists)) (list_forked lists a g (g + list_groups lists)))
      → AllStay (list_placed lists a g (g + list_groups lists)) (list_forked lists a g (g + list_groups lists) ++ begun_if (lists_entry lists) lists a g o (Some w) k)
  threads_stay lists Nothing a g o w k is h within past so =
      let c = g + list_groups lists in
      let none = lists_none lists is in (
        none_left StateStays (list_placed lists a g c) (list_states lists) (lists_length lists a g c) none.0,
        all_put GroupStays (list_forked lists a g c) (begun_if (lists_entry lists) lists a g o (Some w) k) (none_left GroupStays (list_forked lists a g c) (list_groups lists) (nested_length lists a g c) none.1)
            (subst (λ e. AllByRecursion GroupStays (begun_if e lists a g o (Some w) k)) (sym is) tt),
      )
  threads_stay lists State a g o w k is h within past so = own_stay lists a g o w k (subst (λ (e : Entry). Begins e) (sym is) tt) within past so
  threads_stay lists (Threads nested count) a g o w k is h within past so = own_stay lists a g o w k (subst (λ (e : Entry). Begins e) (sym is) tt) within past so

  mutual
    pub nodes_stay : (ns : Nodes) (a g o : ℕ) (w : GraphWay) (k : PlanTodo) → PartsAre plan ns → Here plan.registers ps fs ns a g o w k → Names fs o → IsGood o w → AllStay (states ns a g o w k) (nodes_forked ns a g o w k)
    nodes_stay no_nodes a g o w k parts h within past = (tt, tt)
    nodes_stay (node_then n ns) a g o w k parts h within past =
        let a' = a + states_of n in
        let g' = g + node_groups n in
        let rest = here_rest plan.registers ps fs n ns a g o w k h in
        two_stay (node_placed n a g o (way_in_nodes ns a' g' w) (nodes_then ns k)) (states ns a' g' o w k) (node_forked n a g o (way_in_nodes ns a' g' w) (nodes_then ns k)) (nodes_forked ns a' g' o w k)
        (node_stays n a g o (way_in_nodes ns a' g' w) (nodes_then ns k) parts.0 (here_first plan.registers ps fs n ns a g o w k h) within (way_good ns a' g' o w w k rest past))
        (nodes_stay ns a' g' o w k parts.1 rest within past)

    node_stays : (n : Node) (a g o : ℕ) (w : GraphWay) (k : PlanTodo) → NodeParts plan n → HereNode plan.registers ps fs n a g o w k → Names fs o → IsGood o w → AllStay (node_placed n a g o w k) (node_forked n a g o w k)
    node_stays (block_node block) a g o w k parts h within past = ((record { block = parts; home = within; way = past }, tt), tt)
    node_stays (turns_node counter turns body) a g o w k parts h within past =
        let v = turn_way counter turns body a g w in
        let todo = turn_then counter turns body k in
        stay_by (turns == 0) (states body a g o v todo) (nodes_forked body a g o v todo) a g
        (λ here. nodes_stay body a g o v todo parts.1 here within (parts.0, (way_good body a g o to_end v todo here tt, past))) h
    node_stays (loop_node test flag body) a g o w k parts h within past =
        let todo = test_then test flag body k in
        let again = again_then test flag body k in
        let one = placed_state test o (loop_way flag body a g w) todo in
        let first : IsIn o a = record { state = one; there = sits_first one (states body (a + 1) g o (to_state a) again) ps a h.0; home = refl } in
        let here : Here plan.registers ps fs body (a + 1) g o (to_state a) again = (sits_tail one (states body (a + 1) g o (to_state a) again) ps a h.0, h.1) in
        let inner = nodes_stay body (a + 1) g o (to_state a) again parts.1.1 here within first in
        ((record { block = parts.0; home = within; way = (parts.1.0, (way_good body (a + 1) g o (to_state a) (to_state a) again here first, past)) }, inner.0), inner.1)
    node_stays (choice_node test flag chosen other) a g o w k parts h within past =
        let todo = pick_then flag chosen other k in
        let b = a + 1 + states_in chosen in
        let c = g + groups_in chosen in
        let one = placed_state test o (choice_way flag chosen other a g w) todo in
        let all_states = sits_tail one (states chosen (a + 1) g o w k ++ states other b c o w k) ps a h.0 in
        let here : Here plan.registers ps fs chosen (a + 1) g o w k =
        (sits_front (states chosen (a + 1) g o w k) (states other b c o w k) ps (a + 1) all_states, sits_front (nodes_forked chosen (a + 1) g o w k) (nodes_forked other b c o w k) fs g h.1) in
        let there : Here plan.registers ps fs other b c o w k = (
          sits_back (states chosen (a + 1) g o w k) (states other b c o w k) ps (a + 1) b (states_in chosen) (states_length chosen (a + 1) g o w k) refl all_states,
          sits_back (nodes_forked chosen (a + 1) g o w k) (nodes_forked other b c o w k) fs g c (groups_in chosen) (groups_length chosen (a + 1) g o w k) refl h.1,
        ) in
        let both = two_stay (states chosen (a + 1) g o w k) (states other b c o w k) (nodes_forked chosen (a + 1) g o w k) (nodes_forked other b c o w k)
        (nodes_stay chosen (a + 1) g o w k parts.1.1.0 here within past) (nodes_stay other b c o w k parts.1.1.1 there within past) in
        ((record { block = parts.0; home = within; way = (parts.1.0, (way_good chosen (a + 1) g o w w k here past, way_good other b c o w w k there past)) }, both.0), both.1)
    node_stays (threads_node lists) a g o w k parts h within past =
        threads_stay lists (lists_entry lists) a g o w k refl h within past
        (λ begins. lists_stay lists a g o (g + list_groups lists) (Some w) k parts (here_threads lists a g o w k h) (own_sit lists a g o w k begins h))

    lists_stay : (lists : NodeLists) (a g o c : ℕ) (join : Option GraphWay) (k : PlanTodo) → ListParts plan lists → HereLists plan.registers ps fs lists a g c → Sits (begun_groups lists a g o join k) fs c → AllStay (list_placed lists a g c) (list_forked lists a g c)
    lists_stay no_lists a g o c join k parts h own = (tt, tt)
    lists_stay (list_then ns lists) a g o c join k parts h own =
        let a' = a + states_in ns in
        let g' = g + groups_in ns in
        let one = forked (Some o) (way_in_nodes ns a g to_end) join k in
        let within = slice_get_within fs c one (sits_first one (begun_groups lists a' g' o None over) fs c own) in
        two_stay (states ns a g c to_end over) (list_placed lists a' g' (c + 1)) (nodes_forked ns a g c to_end over) (list_forked lists a' g' (c + 1))
        (nodes_stay ns a g c to_end over parts.0 (here_list plan.registers ps fs ns lists a g c h) within tt)
        (lists_stay lists a' g' o (c + 1) None over parts.1 (here_lists plan.registers ps fs ns lists a g c h) (sits_tail one (begun_groups lists a' g' o None over) fs c own))
