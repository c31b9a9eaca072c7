-- The graph of a plan does the plan: the way into nodes leads where the run of the plan enters them. By recursion on
-- nodes. Nodes that do no block take neither states nor groups, and way and run pass them by; else the way leads to
-- the state, or the groups, whose number is the first of theirs. What is fixed is the list of all states and groups;
-- what a part needs of it is that its own states and groups sit there at its numbers.
use Rattle.std.proofs.Common.{◌≡◌, ℕ, ◌+◌, ◌-◌, ◌==◌, ◌&&◌, Bool, true, false, if◌then◌else◌, List, [], ◌++◌, map, Option, Some, None, option_map, refl, ap, sym, ◌∙◌, subst, arith}
use Rattle.std.specs.Prelude.{slice_get, slice_index, slice_set}
use Rattle.std.specs.List.{AllByRecursion}
use Rattle.std.proofs.lemmas.Option.{slice_get-map}
use Rattle.dh_value.specs.declared.kinds.Kind.{Kind}
use Rattle.dh_plan.specs.PlainPlans.{Node, block_node, turns_node, loop_node, choice_node, threads_node, Nodes, no_nodes, node_then, NodeLists, no_lists, list_then}
use Rattle.dh_plan.specs.PlanRuns.{PlanTodo, over, nodes_then, turn_then, test_then, again_then, pick_then, ended, at, inside, PlanPlaces, place_then, PlanNext, plan_next, plan_next_of, plan_enter, enter_node, enter_lists, has_ended, all_ended, flag_holds, counted_up}
use Rattle.dh_plan.specs.Ways.{GraphWay, to_state, to_end, resolve, resolve_all, places_of_spots, leads_to, block_of_stop, way_of_join}
use Rattle.dh_flow.specs.declared.measuring.Entry.{Entry}
use Rattle.dh_flow.specs.declared.measuring.Entry.TheVariants.{Nothing, State, Threads}
use Rattle.dh_flow.specs.Footprints.{states_in, states_of, groups_in, node_groups, list_groups, list_count, nodes_entry, node_entry, lists_entry, entry_or}
use Rattle.dh_flow.specs.PlainFlows.{way_or, way_in_nodes, way_in_node, ways_in, PlacedState, placed_state, Forked, forked, loop_way, choice_way, turn_way, states, node_placed, list_placed, begun_groups, begun_if, nodes_forked, node_forked, list_forked, stop_of}
use Rattle.dh_flow.proofs.PlacedLists.{Sits, sits_front, sits_back, sits_tail, sits_first, all_put, states_length, placed_length, groups_length, forked_length, nested_length, none_behind, node_none, Begins, fork_none, fork_begins}

-- Without a block the run passes by.

pass_by : (b : Bool) (e : Entry) (x y : PlanNext) → (e ≡ Nothing → y ≡ x) → (if b then Nothing else e) ≡ Nothing → (if b then x else y) ≡ x
pass_by true e x y so is = refl
pass_by false e x y so is = so is

ended_by : (b : Bool) (x y : PlanNext) → b ≡ true → (if b then x else y) ≡ x
ended_by true x y e = refl
ended_by false x y e = absurd (cc)

both_ended : (a b : Bool) → a ≡ true → b ≡ true → (a && b) ≡ true
both_ended true b e f = f
both_ended false b e f = absurd (cc)

mutual
  enter_none : (ns : Nodes) (k : PlanTodo) (b : PlanNext) (registers : List ℕ) → nodes_entry ns ≡ Nothing → plan_enter ns k b registers ≡ b
  enter_none no_nodes k b registers is = refl
  enter_none (node_then n ns) k b registers is =
      let both = none_behind (node_entry n) (nodes_entry ns) is in
      enter_node_none n (nodes_then ns k) (plan_enter ns k b registers) registers both.0 ∙ enter_none ns k b registers both.1

  enter_node_none : (n : Node) (k : PlanTodo) (b : PlanNext) (registers : List ℕ) → node_entry n ≡ Nothing → enter_node n k b registers ≡ b
  enter_node_none (block_node block) k b registers is = absurd (cc)
  enter_node_none (turns_node counter turns body) k b registers is =
      pass_by (turns == 0) (nodes_entry body) b (plan_enter body (turn_then counter turns body k) b registers) (enter_none body (turn_then counter turns body k) b registers) is
  enter_node_none (loop_node test flag body) k b registers is = absurd (cc)
  enter_node_none (choice_node test flag chosen other) k b registers is = absurd (cc)
  enter_node_none (threads_node lists) k b registers is =
      ended_by (all_ended (enter_lists lists registers)) b (plan_next (inside (enter_lists lists registers) k) registers) (lists_ended lists registers (fork_none (lists_entry lists) (list_groups lists) (list_count lists) is))

  lists_ended : (lists : NodeLists) (registers : List ℕ) → lists_entry lists ≡ Nothing → all_ended (enter_lists lists registers) ≡ true
  lists_ended no_lists registers is = refl
  lists_ended (list_then ns lists) registers is =
      let both = none_behind (nodes_entry ns) (lists_entry lists) is in
      both_ended (has_ended (plan_enter ns over (plan_next ended registers) registers).place) (all_ended (enter_lists lists registers))
      (ap (λ (n : PlanNext). has_ended n.place) (enter_none ns over (plan_next ended registers) registers both.0)) (lists_ended lists registers both.1)

-- With one a thread has not ended.

begins_by : (b : Bool) (e : Entry) (x y : PlanNext) → (Begins e → has_ended y.place ≡ false) → Begins (if b then Nothing else e) → has_ended (if b then x else y).place ≡ false
begins_by true e x y so is = absurd is
begins_by false e x y so is = so is

goes_by : (b : Bool) (x : PlanNext) (ps : PlanPlaces) (k : PlanTodo) (registers : List ℕ) → b ≡ false → has_ended (if b then x else plan_next (inside ps k) registers).place ≡ false
goes_by true x ps k registers e = absurd (cc)
goes_by false x ps k registers e = refl

first_goes : (a b : Bool) → a ≡ false → (a && b) ≡ false
first_goes true b e = absurd (cc)
first_goes false b e = refl

second_goes : (a b : Bool) → b ≡ false → (a && b) ≡ false
second_goes true b e = e
second_goes false b e = refl

-- of two parts, the first begins, or it does nothing and the second does
part_by : (P : Type 0) (e f : Entry) → (Begins e → P) → (e ≡ Nothing → Begins f → P) → Begins (entry_or e f) → P
part_by P Nothing f one two b = two refl b
part_by P State f one two b = one tt
part_by P (Threads nested count) f one two b = one tt

mutual
  enter_goes : (ns : Nodes) (k : PlanTodo) (b : PlanNext) (registers : List ℕ) → Begins (nodes_entry ns) → has_ended (plan_enter ns k b registers).place ≡ false
  enter_goes no_nodes k b registers is = absurd is
  enter_goes (node_then n ns) k b registers is =
      part_by (has_ended (enter_node n (nodes_then ns k) (plan_enter ns k b registers) registers).place ≡ false) (node_entry n) (nodes_entry ns) (enter_node_goes n (nodes_then ns k) (plan_enter ns k b registers) registers)
      (λ none begins. ap (λ (x : PlanNext). has_ended x.place) (enter_node_none n (nodes_then ns k) (plan_enter ns k b registers) registers none) ∙ enter_goes ns k b registers begins) is

  enter_node_goes : (n : Node) (k : PlanTodo) (b : PlanNext) (registers : List ℕ) → Begins (node_entry n) → has_ended (enter_node n k b registers).place ≡ false
  enter_node_goes (block_node block) k b registers is = refl
  enter_node_goes (turns_node counter turns body) k b registers is =
      begins_by (turns == 0) (nodes_entry body) b (plan_enter body (turn_then counter turns body k) b registers) (enter_goes body (turn_then counter turns body k) b registers) is
  enter_node_goes (loop_node test flag body) k b registers is = refl
  enter_node_goes (choice_node test flag chosen other) k b registers is = refl
  enter_node_goes (threads_node lists) k b registers is =
      goes_by (all_ended (enter_lists lists registers)) b (enter_lists lists registers) k registers (lists_go lists registers (fork_begins (lists_entry lists) (list_groups lists) (list_count lists) is))

  lists_go : (lists : NodeLists) (registers : List ℕ) → Begins (lists_entry lists) → all_ended (enter_lists lists registers) ≡ false
  lists_go no_lists registers is = absurd is
  lists_go (list_then ns lists) registers is =
      let one = has_ended (plan_enter ns over (plan_next ended registers) registers).place in
      let rest = all_ended (enter_lists lists registers) in
      part_by ((one && rest) ≡ false) (nodes_entry ns) (lists_entry lists) (λ begins. first_goes one rest (enter_goes ns over (plan_next ended registers) registers begins))
      (λ none begins. second_goes one rest (lists_go lists registers begins)) is

way_none : (ns : Nodes) (a g : ℕ) (w : GraphWay) → nodes_entry ns ≡ Nothing → way_in_nodes ns a g w ≡ w
way_none no_nodes a g w is = refl
way_none (node_then n ns) a g w is =
    let both = none_behind (node_entry n) (nodes_entry ns) is in
    ap (λ e. way_or e (way_in_node n a g) (way_in_nodes ns a g w)) both.0 ∙ way_none ns a g w both.1

-- a way that begins
way_begins : (e : Entry) (w v : GraphWay) → Begins e → way_or e w v ≡ w
way_begins Nothing w v is = absurd is
way_begins State w v is = refl
way_begins (Threads nested count) w v is = refl

way_past : (e : Entry) (w v : GraphWay) → e ≡ Nothing → way_or e w v ≡ v
way_past e w v is = ap (λ x. way_or x w v) is

abbrev pub behind_of : Option PlacedState → PlanTodo
behind_of None = over
behind_of (Some p) = p.behind

abbrev pub after_of : Option Forked → PlanTodo
after_of None = over
after_of (Some f) = f.after

-- the first group of threads that begin
first_begun : (e : Entry) (lists : NodeLists) (a g o : ℕ) (join : Option GraphWay) (k : PlanTodo) → Begins e → Begins (lists_entry lists) → (f : Forked) × ((slice_get (begun_if e lists a g o join k) 0 ≡ Some f) × ((f.join ≡ join) × (f.after ≡ k)))
first_begun Nothing lists a g o join k is some = absurd is
first_begun State no_lists a g o join k is some = absurd some
first_begun State (list_then ns lists) a g o join k is some = (forked (Some o) (way_in_nodes ns a g to_end) join k, (refl, (refl, refl)))
first_begun (Threads nested count) no_lists a g o join k is some = absurd some
first_begun (Threads nested count) (list_then ns lists) a g o join k is some = (forked (Some o) (way_in_nodes ns a g to_end) join k, (refl, (refl, refl)))

module _ (kinds : List Kind) (ps : List PlacedState) (fs : List Forked) where
  abbrev pub to_come : ℕ → PlanTodo
  to_come i = behind_of (slice_get ps i)

  abbrev pub to_join : ℕ → PlanTodo
  to_join i = after_of (slice_get fs i)

  abbrev pub leads : GraphWay → (registers : List ℕ) → PlanNext
  leads w registers = leads_to (map stop_of ps) to_come to_join (resolve kinds w registers)

  -- these nodes' states and groups sit at these numbers
  abbrev pub Here : Nodes → (a g o : ℕ) → GraphWay → PlanTodo → Type 0
  Here ns a g o w k = Sits (states ns a g o w k) ps a × Sits (nodes_forked ns a g o w k) fs g

  abbrev pub HereNode : Node → (a g o : ℕ) → GraphWay → PlanTodo → Type 0
  HereNode n a g o w k = Sits (node_placed n a g o w k) ps a × Sits (node_forked n a g o w k) fs g

  abbrev pub HereLists : NodeLists → (a g o : ℕ) → Type 0
  HereLists lists a g o = Sits (list_placed lists a g o) ps a × Sits (list_forked lists a g o) fs g

  at_state : (a : ℕ) (p : PlacedState) (registers : List ℕ) → slice_get ps a ≡ Some p → leads (to_state a) registers ≡ plan_next (at p.block p.behind) registers
  at_state a p registers e =
      ap (λ s. plan_next (at (block_of_stop s) (to_come a)) registers) (slice_get-map stop_of ps a ∙ ap (λ o. option_map stop_of o) e) ∙ ap (λ o. plan_next (at p.block (behind_of o)) registers) e

  pub here_first : (n : Node) (ns : Nodes) (a g o : ℕ) (w : GraphWay) (k : PlanTodo) → Here (node_then n ns) a g o w k → HereNode n a g o (way_in_nodes ns (a + states_of n) (g + node_groups n) w) (nodes_then ns k)
  here_first n ns a g o w k h = (sits_front _ (states ns (a + states_of n) (g + node_groups n) o w k) ps a h.0, sits_front _ (nodes_forked ns (a + states_of n) (g + node_groups n) o w k) fs g h.1)

  pub here_rest : (n : Node) (ns : Nodes) (a g o : ℕ) (w : GraphWay) (k : PlanTodo) → Here (node_then n ns) a g o w k → Here ns (a + states_of n) (g + node_groups n) o w k
  here_rest n ns a g o w k h = (
    sits_back (node_placed n a g o (way_in_nodes ns (a + states_of n) (g + node_groups n) w) (nodes_then ns k)) (states ns (a + states_of n) (g + node_groups n) o w k) ps a (a + states_of n) (states_of n) (placed_length n a g o _ (nodes_then ns k)) refl h.0,
    sits_back (node_forked n a g o (way_in_nodes ns (a + states_of n) (g + node_groups n) w) (nodes_then ns k)) (nodes_forked ns (a + states_of n) (g + node_groups n) o w k) fs g (g + node_groups n) (node_groups n) (forked_length n a g o _ (nodes_then ns k)) refl h.1,
  )

  pub here_list : (ns : Nodes) (lists : NodeLists) (a g o : ℕ) → HereLists (list_then ns lists) a g o → Here ns a g o to_end over
  here_list ns lists a g o h = (sits_front _ (list_placed lists (a + states_in ns) (g + groups_in ns) (o + 1)) ps a h.0, sits_front _ (list_forked lists (a + states_in ns) (g + groups_in ns) (o + 1)) fs g h.1)

  pub here_lists : (ns : Nodes) (lists : NodeLists) (a g o : ℕ) → HereLists (list_then ns lists) a g o → HereLists lists (a + states_in ns) (g + groups_in ns) (o + 1)
  here_lists ns lists a g o h = (
    sits_back (states ns a g o to_end over) (list_placed lists (a + states_in ns) (g + groups_in ns) (o + 1)) ps a (a + states_in ns) (states_in ns) (states_length ns a g o to_end over) refl h.0,
    sits_back (nodes_forked ns a g o to_end over) (list_forked lists (a + states_in ns) (g + groups_in ns) (o + 1)) fs g (g + groups_in ns) (groups_in ns) (groups_length ns a g o to_end over) refl h.1,
  )

  -- of a loop that has turns
  turns_by : (b : Bool) (e : Entry) (xs : List PlacedState) (ys : List Forked) (a g : ℕ) (l x y : PlanNext) → (Begins e → Sits xs ps a × Sits ys fs g → l ≡ y)
      → Begins (if b then Nothing else e) → Sits (if b then [] else xs) ps a × Sits (if b then [] else ys) fs g → l ≡ (if b then x else y)
  turns_by true e xs ys a g l x y so is h = absurd is
  turns_by false e xs ys a g l x y so is h = so is h

  either_by : (e : Entry) (ns : Nodes) (a g : ℕ) (w : GraphWay) (k : PlanTodo) (b : PlanNext) (registers : List ℕ) → nodes_entry ns ≡ e → leads w registers ≡ b
      → (Begins (nodes_entry ns) → leads (way_in_nodes ns a g w) registers ≡ plan_enter ns k b registers) → leads (way_in_nodes ns a g w) registers ≡ plan_enter ns k b registers
  either_by Nothing ns a g w k b registers is past so = ap (λ v. leads v registers) (way_none ns a g w is) ∙ (past ∙ sym (enter_none ns k b registers is))
  either_by State ns a g w k b registers is past so = so (subst (λ (e : Entry). Begins e) (sym is) tt)
  either_by (Threads nested count) ns a g w k b registers is past so = so (subst (λ (e : Entry). Begins e) (sym is) tt)

  forks_by : (b : Bool) (x y : PlanNext) → b ≡ false → y ≡ (if b then x else y)
  forks_by true x y e = absurd (cc)
  forks_by false x y e = refl

  add_none : (m n : ℕ) → n ≡ 0 → m + n ≡ m
  add_none m n e = omega (arith, e)

  mutual
    -- the way into nodes that begin leads where the run enters them
    enter_leads : (ns : Nodes) (a g o : ℕ) (w v : GraphWay) (k : PlanTodo) (b : PlanNext) (registers : List ℕ) → Begins (nodes_entry ns) → Here ns a g o v k → leads (way_in_nodes ns a g w) registers ≡ plan_enter ns k b registers
    enter_leads no_nodes a g o w v k b registers is h = absurd is
    enter_leads (node_then n ns) a g o w v k b registers is h =
        let a' = a + states_of n in
        let g' = g + node_groups n in
        let entered = enter_node n (nodes_then ns k) (plan_enter ns k b registers) registers in
        part_by (leads (way_or (node_entry n) (way_in_node n a g) (way_in_nodes ns a g w)) registers ≡ entered) (node_entry n) (nodes_entry ns)
        (λ begins. ap (λ u. leads u registers) (way_begins (node_entry n) (way_in_node n a g) (way_in_nodes ns a g w) begins)
        ∙ node_leads n a g o (way_in_nodes ns a' g' v) (nodes_then ns k) (plan_enter ns k b registers) registers begins (here_first n ns a g o v k h))
        (λ none begins.
        let nothing = node_none n none in
        let same_a : a' ≡ a = add_none a (states_of n) nothing.0 in
        let same_g : g' ≡ g = add_none g (node_groups n) nothing.1 in
        ap (λ u. leads u registers) (way_past (node_entry n) (way_in_node n a g) (way_in_nodes ns a g w) none)
        ∙ (ap (λ x. leads (way_in_nodes ns x g w) registers) (sym same_a) ∙ (ap (λ x. leads (way_in_nodes ns a' x w) registers) (sym same_g)
        ∙ (enter_leads ns a' g' o w v k b registers begins (here_rest n ns a g o v k h) ∙ sym (enter_node_none n (nodes_then ns k) (plan_enter ns k b registers) registers none))))) is

    node_leads : (n : Node) (a g o : ℕ) (v : GraphWay) (k : PlanTodo) (b : PlanNext) (registers : List ℕ) → Begins (node_entry n) → HereNode n a g o v k → leads (way_in_node n a g) registers ≡ enter_node n k b registers
    node_leads (block_node block) a g o v k b registers is h = at_state a (placed_state block o v k) registers (sits_first _ [] ps a h.0)
    node_leads (turns_node counter turns body) a g o v k b registers is h =
        turns_by (turns == 0) (nodes_entry body) (states body a g o (turn_way counter turns body a g v) (turn_then counter turns body k)) (nodes_forked body a g o (turn_way counter turns body a g v) (turn_then counter turns body k)) a g
        (leads (way_in_nodes body a g to_end) registers) b (plan_enter body (turn_then counter turns body k) b registers)
        (enter_leads body a g o to_end (turn_way counter turns body a g v) (turn_then counter turns body k) b registers) is h
    node_leads (loop_node test flag body) a g o v k b registers is h =
        at_state a (placed_state test o (loop_way flag body a g v) (test_then test flag body k)) registers (sits_first _ (states body (a + 1) g o (to_state a) (again_then test flag body k)) ps a h.0)
    node_leads (choice_node test flag chosen other) a g o v k b registers is h =
        at_state a (placed_state test o (choice_way flag chosen other a g v) (pick_then flag chosen other k)) registers (sits_first _ (states chosen (a + 1) g o v k ++ states other (a + 1 + states_in chosen) (g + groups_in chosen) o v k) ps a h.0)
    node_leads (threads_node lists) a g o v k b registers is h =
        let begins = fork_begins (lists_entry lists) (list_groups lists) (list_count lists) is in
        let own = sits_back (list_forked lists a g (g + list_groups lists)) (begun_if (lists_entry lists) lists a g o (Some v) k) fs g (g + list_groups lists) (list_groups lists) (nested_length lists a g (g + list_groups lists)) refl h.1 in
        let one = first_begun (lists_entry lists) lists a g o (Some v) k begins begins in
        let found : slice_get fs (g + list_groups lists) ≡ Some one.0 = own.found 0 (g + list_groups lists) one.0 (omega arith) one.1.0 in
        let after : to_join (g + list_groups lists) ≡ k = ap after_of found ∙ one.1.1.1 in
        ap (λ xs. plan_next (inside xs (to_join (g + list_groups lists))) registers) (lists_lead lists a g (g + list_groups lists) registers (h.0, sits_front (list_forked lists a g (g + list_groups lists)) (begun_if (lists_entry lists) lists a g o (Some v) k) fs g h.1))
        ∙ (ap (λ x. plan_next (inside (enter_lists lists registers) x) registers) after
        ∙ forks_by (all_ended (enter_lists lists registers)) b (plan_next (inside (enter_lists lists registers) k) registers) (lists_go lists registers begins))

    lists_lead : (lists : NodeLists) (a g o : ℕ) (registers : List ℕ) → HereLists lists a g o
        → places_of_spots (map stop_of ps) to_come to_join (resolve_all kinds (ways_in lists a g) registers) ≡ enter_lists lists registers
    lists_lead no_lists a g o registers h = refl
    lists_lead (list_then ns lists) a g o registers h =
        ap (λ (x : PlanNext). place_then x.place (places_of_spots (map stop_of ps) to_come to_join (resolve_all kinds (ways_in lists (a + states_in ns) (g + groups_in ns)) registers)))
        (either_by (nodes_entry ns) ns a g to_end over (plan_next ended registers) registers refl refl (λ begins. enter_leads ns a g o to_end to_end over (plan_next ended registers) registers begins (here_list ns lists a g o h)))
        ∙ ap (λ xs. place_then (plan_enter ns over (plan_next ended registers) registers).place xs) (lists_lead lists (a + states_in ns) (g + groups_in ns) (o + 1) registers (here_lists ns lists a g o h))

  -- so does the way into any nodes, or past them
  pub enters : (ns : Nodes) (a g o : ℕ) (w v : GraphWay) (k : PlanTodo) (b : PlanNext) (registers : List ℕ) → Here ns a g o v k → leads w registers ≡ b → leads (way_in_nodes ns a g w) registers ≡ plan_enter ns k b registers
  enters ns a g o w v k b registers h past = either_by (nodes_entry ns) ns a g w k b registers refl past (λ begins. enter_leads ns a g o w v k b registers begins h)

  -- A way does what is to come.
  abbrev pub Does : GraphWay → PlanTodo → Type 0
  Does w k = (registers : List ℕ) → leads w registers ≡ plan_next_of kinds k registers

  abbrev pub StateDoes : PlacedState → Type 0
  StateDoes p = Does p.way p.behind

  abbrev pub JoinDoes : Forked → Type 0
  JoinDoes f = Does (way_of_join (Some f.join)) f.after

  abbrev pub AllDo : (List PlacedState) → (List Forked) → Type 0
  AllDo xs ys = AllByRecursion StateDoes xs × AllByRecursion JoinDoes ys

  two_do : (xs xs' : List PlacedState) (ys ys' : List Forked) → AllDo xs ys → AllDo xs' ys' → AllDo (xs ++ xs') (ys ++ ys')
  two_do xs xs' ys ys' h k = (all_put StateDoes xs xs' h.0 k.0, all_put JoinDoes ys ys' h.1 k.1)

  all_by : (b : Bool) (xs : List PlacedState) (ys : List Forked) (a g : ℕ) → (Sits xs ps a × Sits ys fs g → AllDo xs ys)
      → Sits (if b then [] else xs) ps a × Sits (if b then [] else ys) fs g → AllDo (if b then [] else xs) (if b then [] else ys)
  all_by true xs ys a g so h = (tt, tt)
  all_by false xs ys a g so h = so h

  by_test : (b : Bool) (w v : GraphWay) (x y : PlanNext) (r s : List ℕ) → leads w r ≡ x → leads v s ≡ y → leads_to (map stop_of ps) to_come to_join (if b then resolve kinds w r else resolve kinds v s) ≡ (if b then x else y)
  by_test true w v x y r s e f = e
  by_test false w v x y r s e f = f

  begun_do : (lists : NodeLists) (a g o : ℕ) (join : Option GraphWay) (k : PlanTodo) → Does (way_of_join (Some join)) k → AllByRecursion JoinDoes (begun_groups lists a g o join k)
  begun_do no_lists a g o join k d = tt
  begun_do (list_then ns lists) a g o join k d = (d, begun_do lists (a + states_in ns) (g + groups_in ns) o None over (λ registers. refl))

  begun_if_do : (e : Entry) (lists : NodeLists) (a g o : ℕ) (join : Option GraphWay) (k : PlanTodo) → Does (way_of_join (Some join)) k → AllByRecursion JoinDoes (begun_if e lists a g o join k)
  begun_if_do Nothing lists a g o join k d = tt
  begun_if_do State lists a g o join k d = begun_do lists a g o join k d
  begun_if_do (Threads nested count) lists a g o join k d = begun_do lists a g o join k d

  mutual
    pub nodes_do : (ns : Nodes) (a g o : ℕ) (w : GraphWay) (k : PlanTodo) → Here ns a g o w k → Does w k → AllDo (states ns a g o w k) (nodes_forked ns a g o w k)
    nodes_do no_nodes a g o w k h d = (tt, tt)
    nodes_do (node_then n ns) a g o w k h d =
        let a' = a + states_of n in
        let g' = g + node_groups n in
        let rest = here_rest n ns a g o w k h in
        two_do (node_placed n a g o (way_in_nodes ns a' g' w) (nodes_then ns k)) (states ns a' g' o w k) (node_forked n a g o (way_in_nodes ns a' g' w) (nodes_then ns k)) (nodes_forked ns a' g' o w k)
        (node_does n a g o (way_in_nodes ns a' g' w) (nodes_then ns k) (here_first n ns a g o w k h) (λ registers. enters ns a' g' o w w k (plan_next_of kinds k registers) registers rest (d registers)))
        (nodes_do ns a' g' o w k rest d)

    node_does : (n : Node) (a g o : ℕ) (w : GraphWay) (k : PlanTodo) → HereNode n a g o w k → Does w k → AllDo (node_placed n a g o w k) (node_forked n a g o w k)
    node_does (block_node block) a g o w k h d = ((d, tt), tt)
    node_does (turns_node counter turns body) a g o w k h d =
        let v = turn_way counter turns body a g w in
        let todo = turn_then counter turns body k in
        all_by (turns == 0) (states body a g o v todo) (nodes_forked body a g o v todo) a g (λ here. nodes_do body a g o v todo here (λ registers.
        by_test (slice_index registers counter == (turns - 1)) w (way_in_nodes body a g to_end) (plan_next_of kinds k (slice_set registers counter 0)) (plan_enter body todo (plan_next ended (counted_up kinds counter registers)) (counted_up kinds counter registers))
        (slice_set registers counter 0) (counted_up kinds counter registers) (d (slice_set registers counter 0))
        (enters body a g o to_end v todo (plan_next ended (counted_up kinds counter registers)) (counted_up kinds counter registers) here refl))) h
    node_does (loop_node test flag body) a g o w k h d =
        let todo = test_then test flag body k in
        let again = again_then test flag body k in
        let first = sits_first (placed_state test o (loop_way flag body a g w) todo) (states body (a + 1) g o (to_state a) again) ps a h.0 in
        let here : Here body (a + 1) g o (to_state a) again = (sits_tail (placed_state test o (loop_way flag body a g w) todo) (states body (a + 1) g o (to_state a) again) ps a h.0, h.1) in
        let inside_do = nodes_do body (a + 1) g o (to_state a) again here (λ registers. at_state a (placed_state test o (loop_way flag body a g w) todo) registers first) in (
          (
            λ registers. by_test (flag_holds registers flag) (way_in_nodes body (a + 1) g (to_state a)) w (plan_enter body again (plan_next (at test todo) registers) registers) (plan_next_of kinds k registers) registers registers
                (enters body (a + 1) g o (to_state a) (to_state a) again (plan_next (at test todo) registers) registers here (at_state a (placed_state test o (loop_way flag body a g w) todo) registers first)) (d registers),
            inside_do.0,
          ),
          inside_do.1,
        )
    node_does (choice_node test flag chosen other) a g o w k h d =
        let todo = pick_then flag chosen other k in
        let b = a + 1 + states_in chosen in
        let c = g + groups_in chosen in
        let all_states = sits_tail (placed_state test o (choice_way flag chosen other a g w) todo) (states chosen (a + 1) g o w k ++ states other b c o w k) ps a h.0 in
        let here : Here chosen (a + 1) g o w k = (sits_front (states chosen (a + 1) g o w k) (states other b c o w k) ps (a + 1) all_states, sits_front (nodes_forked chosen (a + 1) g o w k) (nodes_forked other b c o w k) fs g h.1) in
        let there : Here other b c o w k = (
          sits_back (states chosen (a + 1) g o w k) (states other b c o w k) ps (a + 1) b (states_in chosen) (states_length chosen (a + 1) g o w k) refl all_states,
          sits_back (nodes_forked chosen (a + 1) g o w k) (nodes_forked other b c o w k) fs g c (groups_in chosen) (groups_length chosen (a + 1) g o w k) refl h.1,
        ) in
        let both = two_do (states chosen (a + 1) g o w k) (states other b c o w k) (nodes_forked chosen (a + 1) g o w k) (nodes_forked other b c o w k) (nodes_do chosen (a + 1) g o w k here d) (nodes_do other b c o w k there d) in (
          (
            λ registers. by_test (flag_holds registers flag) (way_in_nodes chosen (a + 1) g w) (way_in_nodes other b c w) (plan_enter chosen k (plan_next_of kinds k registers) registers) (plan_enter other k (plan_next_of kinds k registers) registers) registers registers
                (enters chosen (a + 1) g o w w k (plan_next_of kinds k registers) registers here (d registers)) (enters other b c o w w k (plan_next_of kinds k registers) registers there (d registers)),
            both.0,
          ),
          both.1,
        )
    node_does (threads_node lists) a g o w k h d =
        let inner = lists_do lists a g (g + list_groups lists) (h.0, sits_front (list_forked lists a g (g + list_groups lists)) (begun_if (lists_entry lists) lists a g o (Some w) k) fs g h.1) in
        (inner.0, all_put JoinDoes (list_forked lists a g (g + list_groups lists)) (begun_if (lists_entry lists) lists a g o (Some w) k) inner.1 (begun_if_do (lists_entry lists) lists a g o (Some w) k d))

    lists_do : (lists : NodeLists) (a g o : ℕ) → HereLists lists a g o → AllDo (list_placed lists a g o) (list_forked lists a g o)
    lists_do no_lists a g o h = (tt, tt)
    lists_do (list_then ns lists) a g o h =
        two_do (states ns a g o to_end over) (list_placed lists (a + states_in ns) (g + groups_in ns) (o + 1)) (nodes_forked ns a g o to_end over) (list_forked lists (a + states_in ns) (g + groups_in ns) (o + 1))
        (nodes_do ns a g o to_end over (here_list ns lists a g o h) (λ registers. refl)) (lists_do lists (a + states_in ns) (g + groups_in ns) (o + 1) (here_lists ns lists a g o h))
