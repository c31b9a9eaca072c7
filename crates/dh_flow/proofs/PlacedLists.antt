-- A list sits in another at a number, piece by piece; and the lengths of the lists that a plan's graph is made of.
use Rattle.std.proofs.Common.{◌≡◌, ℕ, zero, suc, ◌+◌, ◌==◌, Bool, true, false, if◌then◌else◌, List, [], ◌∷◌, ◌++◌, length, Option, Some, None, refl, subst, arith}
use Rattle.std.specs.Prelude.{slice_get}
use Rattle.std.specs.List.{AllByRecursion}
use Rattle.std.proofs.lemmas.List.{length-append}
use Rattle.dh_plan.specs.PlainPlans.{Node, block_node, turns_node, loop_node, choice_node, threads_node, Nodes, no_nodes, node_then, NodeLists, no_lists, list_then}
use Rattle.dh_plan.specs.PlanRuns.{PlanTodo, over, nodes_then, turn_then, again_then}
use Rattle.dh_plan.specs.Ways.{GraphWay, to_state, to_end}
use Rattle.dh_flow.specs.declared.measuring.Entry.{Entry}
use Rattle.dh_flow.specs.declared.measuring.Entry.TheVariants.{Nothing, State, Threads}
use Rattle.dh_flow.specs.Footprints.{states_in, states_of, list_states, groups_in, node_groups, list_groups, list_count, own_groups, nodes_entry, node_entry, lists_entry, entry_or, fork_entry}
use Rattle.dh_flow.specs.PlainFlows.{way_in_nodes, turn_way, states, node_placed, list_placed, begun_groups, begun_if, nodes_forked, node_forked, list_forked}

pub record Sits {A : Type 0} (xs whole : List A) (a : ℕ) : Type 0 where
  pub found : (i j : ℕ) (x : A) → j ≡ a + i → slice_get xs i ≡ Some x → slice_get whole j ≡ Some x

in_front : {A : Type 0} (xs ys : List A) (i : ℕ) (x : A) → slice_get xs i ≡ Some x → slice_get (xs ++ ys) i ≡ Some x
in_front [] ys i x e = absurd (cc)
in_front (z ∷ xs) ys zero x e = e
in_front (z ∷ xs) ys (suc i) x e = in_front xs ys i x e

in_back : {A : Type 0} (xs ys : List A) (i k : ℕ) (x : A) → k ≡ length xs + i → slice_get ys i ≡ Some x → slice_get (xs ++ ys) k ≡ Some x
in_back [] ys i k x e at =
    let same : i ≡ k = omega (arith, e) in
    subst (λ (n : ℕ). slice_get ys n ≡ Some x) same at
in_back (z ∷ xs) ys i zero x e at = absurd (none (length xs) e)
  where
    none : (n : ℕ) → 0 ≡ suc n + i → ⊥
    none n e = omega (arith, e)
in_back (z ∷ xs) ys i (suc k) x e at = in_back xs ys i k x (less (length xs) e) at
  where
    less : (n : ℕ) → suc k ≡ suc n + i → k ≡ n + i
    less n e = omega (arith, e)

pub sits_front : {A : Type 0} (xs ys whole : List A) (a : ℕ) → Sits (xs ++ ys) whole a → Sits xs whole a
sits_front xs ys whole a s = record { found = λ i j x e at. s.found i j x e (in_front xs ys i x at) }

pub sits_back : {A : Type 0} (xs ys whole : List A) (a b n : ℕ) → length xs ≡ n → b ≡ a + n → Sits (xs ++ ys) whole a → Sits ys whole b
sits_back xs ys whole a b n l e s =
    record { found = λ i j x f at. s.found (length xs + i) j x (omega (arith, l, e, f)) (in_back xs ys i (length xs + i) x refl at) }

pub sits_tail : {A : Type 0} (y : A) (ys whole : List A) (a : ℕ) → Sits (y ∷ ys) whole a → Sits ys whole (a + 1)
sits_tail y ys whole a s = record { found = λ i j x e at. s.found (suc i) j x (omega (arith, e)) at }

pub sits_first : {A : Type 0} (y : A) (ys whole : List A) (a : ℕ) → Sits (y ∷ ys) whole a → slice_get whole a ≡ Some y
sits_first y ys whole a s = s.found 0 a y (omega arith) refl

pub sits_whole : {A : Type 0} (xs : List A) → Sits xs xs 0
sits_whole xs = record { found = λ i j x e at. subst (λ (n : ℕ). slice_get xs n ≡ Some x) (omega (arith, e)) at }

pub all_put : {A : Type 0} (P : A → Type 0) (xs ys : List A) → AllByRecursion P xs → AllByRecursion P ys → AllByRecursion P (xs ++ ys)
all_put P [] ys h k = k
all_put P (x ∷ xs) ys h k = (h.0, all_put P xs ys h.1 k)

pub all_front : {A : Type 0} (P : A → Type 0) (xs ys : List A) → AllByRecursion P (xs ++ ys) → AllByRecursion P xs
all_front P [] ys h = tt
all_front P (x ∷ xs) ys h = (h.0, all_front P xs ys h.1)

pub all_back : {A : Type 0} (P : A → Type 0) (xs ys : List A) → AllByRecursion P (xs ++ ys) → AllByRecursion P ys
all_back P [] ys h = h
all_back P (x ∷ xs) ys h = all_back P xs ys h.1

pub at_place : {A : Type 0} (P : A → Type 0) (xs : List A) (i : ℕ) (x : A) → AllByRecursion P xs → slice_get xs i ≡ Some x → P x
at_place P [] i x h e = absurd (cc)
at_place P (y ∷ xs) zero x h e =
    let same : y ≡ x = cc in
    subst P same h.0
at_place P (y ∷ xs) (suc i) x h e = at_place P xs i x h.1 e

-- by a test
pub list_by : {A : Type 0} (b : Bool) (xs : List A) (n : ℕ) → length xs ≡ n → length (if b then [] else xs) ≡ (if b then 0 else n)
list_by true xs n e = refl
list_by false xs n e = e

both_lengths : {A : Type 0} (xs ys : List A) (m n : ℕ) → length xs ≡ m → length ys ≡ n → length (xs ++ ys) ≡ m + n
both_lengths xs ys m n e f =
    let whole = length-append xs ys in
    omega (arith, whole, e, f)

one_more : {A : Type 0} (xs : List A) (n : ℕ) → length xs ≡ n → suc (length xs) ≡ n + 1
one_more xs n e = omega (arith, e)

mutual
  pub states_length : (ns : Nodes) (a g o : ℕ) (w : GraphWay) (k : PlanTodo) → length (states ns a g o w k) ≡ states_in ns
  states_length no_nodes a g o w k = refl
  states_length (node_then n ns) a g o w k =
      both_lengths (node_placed n a g o (way_in_nodes ns (a + states_of n) (g + node_groups n) w) (nodes_then ns k)) (states ns (a + states_of n) (g + node_groups n) o w k) (states_of n) (states_in ns)
      (placed_length n a g o (way_in_nodes ns (a + states_of n) (g + node_groups n) w) (nodes_then ns k)) (states_length ns (a + states_of n) (g + node_groups n) o w k)

  pub placed_length : (n : Node) (a g o : ℕ) (w : GraphWay) (k : PlanTodo) → length (node_placed n a g o w k) ≡ states_of n
  placed_length (block_node block) a g o w k = refl
  placed_length (turns_node counter turns body) a g o w k =
      list_by (turns == 0) (states body a g o (turn_way counter turns body a g w) (turn_then counter turns body k)) (states_in body) (states_length body a g o (turn_way counter turns body a g w) (turn_then counter turns body k))
  placed_length (loop_node test flag body) a g o w k = one_more (states body (a + 1) g o (to_state a) (again_then test flag body k)) (states_in body) (states_length body (a + 1) g o (to_state a) (again_then test flag body k))
  placed_length (choice_node test flag chosen other) a g o w k =
      one_more (states chosen (a + 1) g o w k ++ states other (a + 1 + states_in chosen) (g + groups_in chosen) o w k) (states_in chosen + states_in other)
      (both_lengths (states chosen (a + 1) g o w k) (states other (a + 1 + states_in chosen) (g + groups_in chosen) o w k) (states_in chosen) (states_in other) (states_length chosen (a + 1) g o w k) (states_length other (a + 1 + states_in chosen) (g + groups_in chosen) o w k))
  placed_length (threads_node lists) a g o w k = lists_length lists a g (g + list_groups lists)

  pub lists_length : (lists : NodeLists) (a g o : ℕ) → length (list_placed lists a g o) ≡ list_states lists
  lists_length no_lists a g o = refl
  lists_length (list_then ns lists) a g o =
      both_lengths (states ns a g o to_end over) (list_placed lists (a + states_in ns) (g + groups_in ns) (o + 1)) (states_in ns) (list_states lists) (states_length ns a g o to_end over) (lists_length lists (a + states_in ns) (g + groups_in ns) (o + 1))

begun_length : (lists : NodeLists) (a g o : ℕ) (join : Option GraphWay) (k : PlanTodo) → length (begun_groups lists a g o join k) ≡ list_count lists
begun_length no_lists a g o join k = refl
begun_length (list_then ns lists) a g o join k = one_more (begun_groups lists (a + states_in ns) (g + groups_in ns) o None over) (list_count lists) (begun_length lists (a + states_in ns) (g + groups_in ns) o None over)

pub begun_if_length : (e : Entry) (lists : NodeLists) (a g o : ℕ) (join : Option GraphWay) (k : PlanTodo) → length (begun_if e lists a g o join k) ≡ own_groups e (list_count lists)
begun_if_length Nothing lists a g o join k = refl
begun_if_length State lists a g o join k = begun_length lists a g o join k
begun_if_length (Threads nested count) lists a g o join k = begun_length lists a g o join k

mutual
  pub groups_length : (ns : Nodes) (a g o : ℕ) (w : GraphWay) (k : PlanTodo) → length (nodes_forked ns a g o w k) ≡ groups_in ns
  groups_length no_nodes a g o w k = refl
  groups_length (node_then n ns) a g o w k =
      both_lengths (node_forked n a g o (way_in_nodes ns (a + states_of n) (g + node_groups n) w) (nodes_then ns k)) (nodes_forked ns (a + states_of n) (g + node_groups n) o w k) (node_groups n) (groups_in ns)
      (forked_length n a g o (way_in_nodes ns (a + states_of n) (g + node_groups n) w) (nodes_then ns k)) (groups_length ns (a + states_of n) (g + node_groups n) o w k)

  pub forked_length : (n : Node) (a g o : ℕ) (w : GraphWay) (k : PlanTodo) → length (node_forked n a g o w k) ≡ node_groups n
  forked_length (block_node block) a g o w k = refl
  forked_length (turns_node counter turns body) a g o w k =
      list_by (turns == 0) (nodes_forked body a g o (turn_way counter turns body a g w) (turn_then counter turns body k)) (groups_in body) (groups_length body a g o (turn_way counter turns body a g w) (turn_then counter turns body k))
  forked_length (loop_node test flag body) a g o w k = groups_length body (a + 1) g o (to_state a) (again_then test flag body k)
  forked_length (choice_node test flag chosen other) a g o w k =
      both_lengths (nodes_forked chosen (a + 1) g o w k) (nodes_forked other (a + 1 + states_in chosen) (g + groups_in chosen) o w k) (groups_in chosen) (groups_in other) (groups_length chosen (a + 1) g o w k) (groups_length other (a + 1 + states_in chosen) (g + groups_in chosen) o w k)
  forked_length (threads_node lists) a g o w k =
      both_lengths (list_forked lists a g (g + list_groups lists)) (begun_if (lists_entry lists) lists a g o (Some w) k) (list_groups lists) (own_groups (lists_entry lists) (list_count lists)) (nested_length lists a g (g + list_groups lists)) (begun_if_length (lists_entry lists) lists a g o (Some w) k)

  pub nested_length : (lists : NodeLists) (a g o : ℕ) → length (list_forked lists a g o) ≡ list_groups lists
  nested_length no_lists a g o = refl
  nested_length (list_then ns lists) a g o =
      both_lengths (nodes_forked ns a g o to_end over) (list_forked lists (a + states_in ns) (g + groups_in ns) (o + 1)) (groups_in ns) (list_groups lists) (groups_length ns a g o to_end over) (nested_length lists (a + states_in ns) (g + groups_in ns) (o + 1))

-- What does no block takes nothing.

none_of : (e f : Entry) → entry_or e f ≡ Nothing → (e ≡ Nothing) × (f ≡ Nothing)
none_of Nothing f n = (refl, n)
none_of State f n = absurd (cc)
none_of (Threads nested count) f n = absurd (cc)

no_fork : (e : Entry) (nested count : ℕ) → fork_entry e nested count ≡ Nothing → e ≡ Nothing
no_fork Nothing nested count n = refl
no_fork State nested count n = absurd (cc)
no_fork (Threads m c) nested count n = absurd (cc)

sum_none : (m n : ℕ) → m ≡ 0 → n ≡ 0 → m + n ≡ 0
sum_none m n e f = omega (arith, e, f)

none_by : (b : Bool) (e : Entry) (m n : ℕ) → (e ≡ Nothing → (m ≡ 0) × (n ≡ 0)) → (if b then Nothing else e) ≡ Nothing → ((if b then 0 else m) ≡ 0) × ((if b then 0 else n) ≡ 0)
none_by true e m n so is = (refl, refl)
none_by false e m n so is = so is

own_none : (e : Entry) (count : ℕ) → e ≡ Nothing → own_groups e count ≡ 0
own_none Nothing count is = refl
own_none State count is = absurd (cc)
own_none (Threads m c) count is = absurd (cc)

mutual
  pub nodes_none : (ns : Nodes) → nodes_entry ns ≡ Nothing → (states_in ns ≡ 0) × (groups_in ns ≡ 0)
  nodes_none no_nodes is = (refl, refl)
  nodes_none (node_then n ns) is =
      let both = none_of (node_entry n) (nodes_entry ns) is in
      let first = node_none n both.0 in
      let rest = nodes_none ns both.1 in
      (sum_none (states_of n) (states_in ns) first.0 rest.0, sum_none (node_groups n) (groups_in ns) first.1 rest.1)

  pub node_none : (n : Node) → node_entry n ≡ Nothing → (states_of n ≡ 0) × (node_groups n ≡ 0)
  node_none (block_node block) is = absurd (cc)
  node_none (turns_node counter turns body) is = none_by (turns == 0) (nodes_entry body) (states_in body) (groups_in body) (nodes_none body) is
  node_none (loop_node test flag body) is = absurd (cc)
  node_none (choice_node test flag chosen other) is = absurd (cc)
  node_none (threads_node lists) is =
      let none = no_fork (lists_entry lists) (list_groups lists) (list_count lists) is in
      let inside = lists_none lists none in
      (inside.0, sum_none (list_groups lists) (own_groups (lists_entry lists) (list_count lists)) inside.1 (own_none (lists_entry lists) (list_count lists) none))

  pub lists_none : (lists : NodeLists) → lists_entry lists ≡ Nothing → (list_states lists ≡ 0) × (list_groups lists ≡ 0)
  lists_none no_lists is = (refl, refl)
  lists_none (list_then ns lists) is =
      let both = none_of (nodes_entry ns) (lists_entry lists) is in
      let first = nodes_none ns both.0 in
      let rest = lists_none lists both.1 in
      (sum_none (states_in ns) (list_states lists) first.0 rest.0, sum_none (groups_in ns) (list_groups lists) first.1 rest.1)

-- they begin
abbrev pub Begins : Entry → Type 0
Begins Nothing = ⊥
Begins State = Unit {0}
Begins (Threads nested count) = Unit {0}

pub none_behind : (e f : Entry) → entry_or e f ≡ Nothing → (e ≡ Nothing) × (f ≡ Nothing)
none_behind = none_of

pub fork_none : (e : Entry) (nested count : ℕ) → fork_entry e nested count ≡ Nothing → e ≡ Nothing
fork_none = no_fork

pub fork_begins : (e : Entry) (nested count : ℕ) → Begins (fork_entry e nested count) → Begins e
fork_begins Nothing nested count b = b
fork_begins State nested count b = tt
fork_begins (Threads m c) nested count b = tt
