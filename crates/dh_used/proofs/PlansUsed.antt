-- What plans use, summed over their nodes: each access that is made is made in one phase alone.
use Rattle.std.proofs.Common.{◌≡◌, ◌⊎◌, inl, inr, ◌<◌, ◌≤◌, ◌+◌, ◌*◌, ◌==◌, ◌||◌, ◌&&◌, ℕ, zero, suc, List, Some, None, ap, sym, ◌∙◌, length, arith, refl}
use Rattle.std.specs.Prelude.{Bool as Truth, true, false, if◌then◌else◌, [], ◌∷◌, ◌++◌, slice_get}
use Rattle.std.specs.List.{AllByRecursion, list_any}
use Rattle.std.proofs.lemmas.Bool.{cases_eq, cases_lt}
use Rattle.std.proofs.lemmas.Bool.Decides.{nat_tests}
use Rattle.std.proofs.Math.Nat.{add-mul}
use Rattle.dh_tree.specs.PlainTrees.{shrinks, splits, suffixes, shifts, Program, Action, action, lets, lets_memory, views, assigns, stores, reduces, calls, blocks, decides, repeats, counts, MaybeAction, no_action, one_action, Actions, no_actions, action_then, Groups, no_groups, group_then}
use Rattle.dh_meaning.specs.AccessNumbers.{accesses_of, part_accesses, term_accesses}
use Rattle.dh_meaning.specs.CoreOf.{Known, core_commands, core_phase, core_phases, core_test, known_of}
use Rattle.dh_meaning.specs.OnePhase.{any_makes, hold_both, holds_both, test_makes}
use Rattle.dh_meaning.specs.Phases.{Located, Phase, straight, turns, repeated, decided, Phases, no_phases, phase, groups_phases, idle_phases_of, of_list, other_phases, parts_phases, phases, phases_of}
use Rattle.dh_meaning.specs.Sites as source
use Rattle.dh_meaning.specs.Sites.{in_arm, in_loop, loop_of, nothing_around}
use Rattle.dh_meets.specs.Charges.{paths_of}
use Rattle.dh_meets.specs.SourceEvents.{SourceAccess}
use Rattle.dh_plan.specs.declared.operations.Operation.{Operation}
use Rattle.dh_plan.specs.declared.operations.PlanBlock.{PlanBlock}
use Rattle.dh_plan.specs.Correspondence.{Round}
use Rattle.dh_plan.specs.DoneProgram.{is_made, operations_using, probes_among, probes_of, uses_of, uses_wanted}
use Rattle.dh_plan.specs.PlainPlans.{Node, block_node, turns_node, loop_node, choice_node, threads_node, Nodes, no_nodes, node_then, PlainPlan, block_operations, operations_in}
use Rattle.dh_plan.specs.PlanPhases.{AreNodesOf, IsNodeOf}
use Rattle.dh_plan.specs.SoundPlans.{blocks_of, node_blocks}
use Rattle.dh_sound.specs.Straight.{AreKeptActions, AreKeptGroups, IsKeptAction, IsKeptOther}
use Rattle.dh_sound.specs.ToldEvents.{access_at}
use Rattle.dh_sound.proofs.PhasesHold.{AllHold, Facts, ListHolds, PartsHold, PhaseHolds, PhasesHold, both_hold, choice_hold, folded_hold, joined_hold, of_list_hold, turn_hold}
use Rattle.dh_sound.proofs.SamePhase.{bit_true, either, made_any, two}
use Rattle.dh_sound.proofs.Times.{bit, made, times, times_in, times_joined, times_of, times_once}
use Rattle.dh_used.specs.UsedBlocks.{UsesAsMade}
use Rattle.dh_used.specs.UsedPlans.{PlansUse, UsesStraight, UsesTest, listed, used_tie}
use Rattle.dh_used.proofs.NumbersOfCore.{commands_hold, commands_tell, term_holds, test_tells}

-- The commands of all phases are named.

module _ (known : Known) where
  abbrev pub named_facts : Facts
  named_facts = record { round = Unit {0}; does = λ r a. IsKeptAction known a; turns_so = λ r form. Unit {0}; inside = λ r form. tt }

  mutual
    pub phases_named : (r : source.Around) (n : ℕ) (a : Action) → IsKeptAction known a → ListHolds named_facts tt (phases r n a)
    phases_named r n (action id place (lets name declared value)) h = ((h, tt), tt)
    phases_named r n (action id place (assigns target value)) h = ((h, tt), tt)
    phases_named r n (action id place (stores target value)) h = ((h, tt), tt)
    phases_named r n (action id place (reduces target o value)) h = ((h, tt), tt)
    phases_named r n (action id place (decides test chosen other)) h =
        choice_hold named_facts tt _ (phases (in_arm r id true) (n + term_accesses test) chosen) (other_phases (in_arm r id false) (n + term_accesses test + accesses_of chosen) other) h
        (phases_named (in_arm r id true) (n + term_accesses test) chosen h.1.0) (other_named (in_arm r id false) (n + term_accesses test + accesses_of chosen) other h.1.1)
    phases_named r n (action id place (repeats test body)) h = (of_list_hold named_facts tt (phases r (n + term_accesses test) body) (phases_named r (n + term_accesses test) body h.1), tt)
    phases_named r n (action id place (counts iterator declared low high factor body combine combine_place)) h =
        turn_hold named_facts tt _ _ _ tt
        (folded_hold named_facts tt (phases (in_loop r (loop_of iterator low high factor)) n body) (other_phases (in_loop r (loop_of iterator low high factor)) (n + accesses_of body) combine)
        (phases_named (in_loop r (loop_of iterator low high factor)) n body h.1.0) (other_named (in_loop r (loop_of iterator low high factor)) (n + accesses_of body) combine h.1.1))
    phases_named r n (action id place (blocks body)) h = groups_named r n body h
    phases_named r n (action id place (lets_memory name shape shape_places value)) h = tt
    phases_named r n (action id place (views name parent (shrinks by by_place))) h = tt
    phases_named r n (action id place (views name parent (splits by by_place))) h = tt
    phases_named r n (action id place (views name parent (suffixes by by_place))) h = ((h, tt), tt)
    phases_named r n (action id place (views name parent (shifts by))) h = ((h, tt), tt)
    phases_named r n (action id place (calls function arguments)) h = tt

    other_named : (r : source.Around) (n : ℕ) (other : MaybeAction) → IsKeptOther known other → ListHolds named_facts tt (other_phases r n other)
    other_named r n no_action h = tt
    other_named r n (one_action a) h = phases_named r n a h

    groups_named : (r : source.Around) (n : ℕ) (body : Groups) → AreKeptGroups known body → ListHolds named_facts tt (groups_phases r n body)
    groups_named r n no_groups h = tt
    groups_named r n (group_then part rest) h =
        both_hold named_facts tt _ (groups_phases r (n + part_accesses part) rest) (joined_hold named_facts tt [] (parts_phases r n part) tt (parts_named r n part h.0)) (groups_named r (n + part_accesses part) rest h.1)

    parts_named : (r : source.Around) (n : ℕ) (part : Actions) → AreKeptActions known part → PartsHold named_facts tt (parts_phases r n part)
    parts_named r n no_actions h = tt
    parts_named r n (action_then a rest) h = (phases_named r n a h.0, parts_named r (n + accesses_of a) rest h.1)

  pub all_named : (cs : List Located) → AllHold named_facts tt cs → AllByRecursion (λ (c : Located). IsKeptAction known c.command) cs
  all_named [] h = tt
  all_named (c ∷ cs) h = (h.0, all_named cs h.1)

-- How many phases make an access.

module _ (k : ℕ) where
  abbrev mutual
    held_in : Phase → ℕ
    held_in (straight cs) = bit (any_makes k cs)
    held_in (turns loop count body) = held_of body
    held_in (repeated loop body) = bit (test_makes k loop) + held_of body
    held_in (decided choice chosen other) = bit (test_makes k choice) + (held_of chosen + held_of other)

    held_of : Phases → ℕ
    held_of no_phases = 0
    held_of (phase p ps) = held_in p + held_of ps

  bit_most : (b : Truth) (n : ℕ) → (b ≡ true → 1 ≤ n) → bit b ≤ n
  bit_most true n h = h refl
  bit_most false n h = omega arith

  mutual
    held_most_in : (p : Phase) → held_in p ≤ times_in k p
    held_most_in (straight cs) = bit_most (any_makes k cs) (made k cs) (λ e. made_any k cs e)
    held_most_in (turns loop count body) = held_most body
    held_most_in (repeated loop body) = let h = held_most body in omega (arith, h)
    held_most_in (decided choice chosen other) = let h = held_most chosen in let g = held_most other in omega (arith, h, g)

    held_most : (ps : Phases) → held_of ps ≤ times_of k ps
    held_most no_phases = omega arith
    held_most (phase p ps) = let h = held_most_in p in let g = held_most ps in omega (arith, h, g)

  mutual
    held_some_in : (p : Phase) → holds_both k k p ≡ true → 1 ≤ held_in p
    held_some_in (straight cs) e = bit_true (any_makes k cs) (two (any_makes k cs) (any_makes k cs) e).0
    held_some_in (turns loop count body) e = held_some body e
    held_some_in (repeated loop body) e = by (either (test_makes k loop && test_makes k loop) (hold_both k k body) e) (λ h. held_some body h)
      where
        by : ((test_makes k loop && test_makes k loop) ≡ true) ⊎ (hold_both k k body ≡ true) → (hold_both k k body ≡ true → 1 ≤ held_of body) → 1 ≤ bit (test_makes k loop) + held_of body
        by (inl h) more = let b = bit_true (test_makes k loop) (two (test_makes k loop) (test_makes k loop) h).0 in omega (arith, b)
        by (inr h) more = let m = more h in omega (arith, m)
    held_some_in (decided choice chosen other) e = by (either (test_makes k choice && test_makes k choice) (hold_both k k chosen || hold_both k k other) e) (λ h. held_some chosen h) (λ h. held_some other h)
      where
        by : ((test_makes k choice && test_makes k choice) ≡ true) ⊎ ((hold_both k k chosen || hold_both k k other) ≡ true) → (hold_both k k chosen ≡ true → 1 ≤ held_of chosen) → (hold_both k k other ≡ true → 1 ≤ held_of other)
            → 1 ≤ bit (test_makes k choice) + (held_of chosen + held_of other)
        by (inl h) f g = let b = bit_true (test_makes k choice) (two (test_makes k choice) (test_makes k choice) h).0 in omega (arith, b)
        by (inr h) f g = side (either (hold_both k k chosen) (hold_both k k other) h)
          where
            side : (hold_both k k chosen ≡ true) ⊎ (hold_both k k other ≡ true) → 1 ≤ bit (test_makes k choice) + (held_of chosen + held_of other)
            side (inl i) = let m = f i in omega (arith, m)
            side (inr i) = let m = g i in omega (arith, m)

    held_some : (ps : Phases) → hold_both k k ps ≡ true → 1 ≤ held_of ps
    held_some no_phases e = absurd (cc)
    held_some (phase p ps) e = by (either (holds_both k k p) (hold_both k k ps) e) (λ h. held_some_in p h) (λ h. held_some ps h)
      where
        by : (holds_both k k p ≡ true) ⊎ (hold_both k k ps ≡ true) → (holds_both k k p ≡ true → 1 ≤ held_in p) → (hold_both k k ps ≡ true → 1 ≤ held_of ps) → 1 ≤ held_in p + held_of ps
        by (inl h) f g = let m = f h in omega (arith, m)
        by (inr h) f g = let m = g h in omega (arith, m)

  hold_listed : (ps : List Phase) → list_any (holds_both k k) ps ≡ true → hold_both k k (of_list ps) ≡ true
  hold_listed [] e = absurd (cc)
  hold_listed (p ∷ ps) e = by (holds_both k k p) refl e (λ h. hold_listed ps h)
    where
      by : (b : Truth) → holds_both k k p ≡ b → (b || list_any (holds_both k k) ps) ≡ true → (list_any (holds_both k k) ps ≡ true → hold_both k k (of_list ps) ≡ true) → (b || hold_both k k (of_list ps)) ≡ true
      by true h g more = refl
      by false h g more = more g

  times_listed : (ps : List Phase) → times_of k (of_list ps) ≡ times k ps
  times_listed [] = refl
  times_listed (p ∷ ps) = let i = times_listed ps in omega (arith, i)

  -- an access that is made is made in one phase
  held_once : (p : Program) → is_made p k ≡ true → held_of (of_list (phases_of p)) ≡ 1
  held_once p e =
      let most = held_most (of_list (phases_of p)) in
      let some = held_some (of_list (phases_of p)) (hold_listed (phases_of p) e) in
      let listed_times = times_listed (phases_of p) in
      let once = times_once k p in
      let both = times_joined k (phases_of p) (idle_phases_of p) in
      omega (arith, most, some, listed_times, once, both)

-- Sums over blocks.

abbrev sum_over : (f : ℕ → ℕ) → List ℕ → ℕ
sum_over f [] = 0
sum_over f (b ∷ bs) = f b + sum_over f bs

sum_both : (f : ℕ → ℕ) (bs cs : List ℕ) → sum_over f (bs ++ cs) ≡ sum_over f bs + sum_over f cs
sum_both f [] cs = omega arith
sum_both f (b ∷ bs) cs = let e = sum_both f bs cs in omega (arith, e)

module _ (p : Program) (plan : PlainPlan) (k : ℕ) (a : SourceAccess) (at : access_at p k ≡ Some a) (f : ℕ → ℕ) (weight : ℕ)
    (pick : (block : ℕ) (makes : ℕ → Truth) → UsesAsMade p plan block makes → f block ≡ (if makes k then weight else 0)) where
  abbrev known : Known
  known = known_of p

  weighed : (b : Truth) → (if b then weight else 0) ≡ bit b * weight
  weighed true = omega arith
  weighed false = omega arith

  straight_sum : (cs : List Located) (block : ℕ) → AllByRecursion (λ (c : Located). IsKeptAction known c.command) cs → UsesStraight p plan (core_commands known cs) block → sum_over f (block ∷ []) ≡ bit (any_makes k cs) * weight
  straight_sum cs block named u =
      alone (f block)
      ∙ (pick block (λ number. any_makes number u.located) u.uses
      ∙ (weighed (any_makes k u.located)
      ∙ ap (λ b. bit b * weight) (sym (commands_tell k u.known u.located u.named) ∙ (ap (commands_hold k) (sym u.are) ∙ commands_tell k known cs named))))
    where
      alone : (n : ℕ) → n + 0 ≡ n
      alone n = omega arith

  test_sum : (c : Located) (block : ℕ) → UsesTest p plan (core_test known c) block → f block ≡ bit (test_makes k c) * weight
  test_sum c block u =
      pick block (λ number. test_makes number u.tested) u.uses
      ∙ (weighed (test_makes k u.tested) ∙ ap (λ b. bit b * weight) (sym (test_tells k u.known u.tested) ∙ (ap (term_holds k) (sym u.is) ∙ test_tells k known c)))

  two_sums : (f_sum g_sum x y : ℕ) → f_sum ≡ x * weight → g_sum ≡ y * weight → f_sum + g_sum ≡ (x + y) * weight
  two_sums f_sum g_sum x y e g = let m = add-mul x y weight in omega (arith, e, g, m)

  mutual
    nodes_sum : (rounds : List Round) (ps : Phases) (ns : Nodes) → PhasesHold (named_facts known) tt ps → AreNodesOf (used_tie p plan) rounds (core_phases known ps) ns → sum_over f (blocks_of ns) ≡ held_of k ps * weight
    nodes_sum rounds no_phases no_nodes named h = omega arith
    nodes_sum rounds no_phases (node_then n ns) named h = absurd h
    nodes_sum rounds (phase q ps) no_nodes named h = absurd h
    nodes_sum rounds (phase q ps) (node_then n ns) named h =
        sum_both f (node_blocks n) (blocks_of ns)
        ∙ two_sums (sum_over f (node_blocks n)) (sum_over f (blocks_of ns)) (held_in k q) (held_of k ps) (node_sum rounds q n named.0 h.0) (nodes_sum rounds ps ns named.1 h.1)

    node_sum : (rounds : List Round) (q : Phase) (n : Node) → PhaseHolds (named_facts known) tt q → IsNodeOf (used_tie p plan) rounds (core_phase known q) n → sum_over f (node_blocks n) ≡ held_in k q * weight
    node_sum rounds (straight cs) (block_node block) named h = straight_sum cs block (all_named known cs named) h
    node_sum rounds (straight cs) (turns_node counter count body) named h = absurd h
    node_sum rounds (straight cs) (loop_node block flag body) named h = absurd h
    node_sum rounds (straight cs) (choice_node block flag one other) named h = absurd h
    node_sum rounds (straight cs) (threads_node lists) named h = absurd h
    node_sum rounds (turns loop count body) (block_node block) named h = absurd h
    node_sum rounds (turns loop count body) (turns_node counter number ns) named h = nodes_sum _ body ns named.1 h.1.1
    node_sum rounds (turns loop count body) (loop_node block flag ns) named h = absurd h
    node_sum rounds (turns loop count body) (choice_node block flag one other) named h = absurd h
    node_sum rounds (turns loop count body) (threads_node lists) named h = absurd h
    node_sum rounds (repeated loop body) (block_node block) named h = absurd h
    node_sum rounds (repeated loop body) (turns_node counter number ns) named h = absurd h
    node_sum rounds (repeated loop body) (loop_node block flag ns) named h =
        two_sums (f block) (sum_over f (blocks_of ns)) (bit (test_makes k loop)) (held_of k body) (test_sum loop block h.0) (nodes_sum rounds body ns named h.1)
    node_sum rounds (repeated loop body) (choice_node block flag one other) named h = absurd h
    node_sum rounds (repeated loop body) (threads_node lists) named h = absurd h
    node_sum rounds (decided choice chosen other) (block_node block) named h = absurd h
    node_sum rounds (decided choice chosen other) (turns_node counter number ns) named h = absurd h
    node_sum rounds (decided choice chosen other) (loop_node block flag ns) named h = absurd h
    node_sum rounds (decided choice chosen other) (choice_node block flag ns ms) named h =
        ap (λ s. f block + s) (sum_both f (blocks_of ns) (blocks_of ms))
        ∙ two_sums (f block) (sum_over f (blocks_of ns) + sum_over f (blocks_of ms)) (bit (test_makes k choice)) (held_of k chosen + held_of k other) (test_sum choice block h.0)
        (two_sums (sum_over f (blocks_of ns)) (sum_over f (blocks_of ms)) (held_of k chosen) (held_of k other) (nodes_sum rounds chosen ns named.0 h.1.0) (nodes_sum rounds other ms named.1 h.1.1))
    node_sum rounds (decided choice chosen other) (threads_node lists) named h = absurd h

-- The blocks of a plan, by their numbers.

abbrev sum_to : (n : ℕ) → (f : ℕ → ℕ) → ℕ
sum_to zero f = 0
sum_to (suc n) f = sum_to n f + f n

sum_same : (n : ℕ) (f g : ℕ → ℕ) → ((i : ℕ) → i < n → f i ≡ g i) → sum_to n f ≡ sum_to n g
sum_same zero f g h = refl
sum_same (suc n) f g h = let e = sum_same n f g (λ i l. h i (omega (arith, l))) in let w = h n (omega arith) in omega (arith, e, w)

sum_two : (n : ℕ) (f g : ℕ → ℕ) → sum_to n (λ i. f i + g i) ≡ sum_to n f + sum_to n g
sum_two zero f g = omega arith
sum_two (suc n) f g = let e = sum_two n f g in omega (arith, e)

sum_none : (n : ℕ) (f : ℕ → ℕ) → ((i : ℕ) → i < n → f i ≡ 0) → sum_to n f ≡ 0
sum_none zero f h = refl
sum_none (suc n) f h = let e = sum_none n f (λ i l. h i (omega (arith, l))) in let w = h n (omega arith) in omega (arith, e, w)

-- one of the numbers
sum_one : (n : ℕ) (f : ℕ → ℕ) (b : ℕ) → ((i : ℕ) → n ≤ i → f i ≡ 0) → sum_to n (λ i. (if i == b then 1 else 0) * f i) ≡ f b
sum_one n f b past = by n past (cases_lt b n)
  where
    at : (i : ℕ) → i ≡ b → (if i == b then 1 else 0) * f i ≡ f b
    at i e = ap (λ (t : Truth). (if t then 1 else 0) * f i) (same i e) ∙ (one (f i) ∙ ap f e)
      where
        same : (i : ℕ) → i ≡ b → (i == b) ≡ true
        same i e = grind (arith, nat_tests, e)

        one : (n : ℕ) → 1 * n ≡ n
        one n = omega arith

    other : (i : ℕ) → (i ≡ b → ⊥) → (if i == b then 1 else 0) * f i ≡ 0
    other i e = ap (λ (t : Truth). (if t then 1 else 0) * f i) (differ i e) ∙ none (f i)
      where
        differ : (i : ℕ) → (i ≡ b → ⊥) → (i == b) ≡ false
        differ i e = grind (arith, nat_tests)

        none : (n : ℕ) → 0 * n ≡ 0
        none n = omega arith

    inside : (m : ℕ) → b < m → sum_to m (λ i. (if i == b then 1 else 0) * f i) ≡ f b
    inside zero l = absurd (never l)
      where
        never : b < 0 → ⊥
        never h = omega (arith, h)
    inside (suc m) l = step (cases_eq m b) (λ h. inside m h)
      where
        step : (m ≡ b) ⊎ (m ≡ b → ⊥) → (b < m → sum_to m (λ i. (if i == b then 1 else 0) * f i) ≡ f b) → sum_to m (λ i. (if i == b then 1 else 0) * f i) + (if m == b then 1 else 0) * f m ≡ f b
        step (inl e) more = let z = sum_none m (λ i. (if i == b then 1 else 0) * f i) (λ i less. other i (λ g. never i less g)) in let w = at m e in omega (arith, z, w)
          where
            never : (i : ℕ) → i < m → i ≡ b → ⊥
            never i less g = omega (arith, less, g, e)
        step (inr e) more = let z = more (less e l) in let w = other m e in omega (arith, z, w)
          where
            less : (m ≡ b → ⊥) → b < suc m → b < m
            less e l = omega (arith, l, e)

    by : (m : ℕ) → ((i : ℕ) → m ≤ i → f i ≡ 0) → (b < m) ⊎ (m ≤ b) → sum_to m (λ i. (if i == b then 1 else 0) * f i) ≡ f b
    by m p (inl l) = inside m l
    by m p (inr g) = sum_none m (λ i. (if i == b then 1 else 0) * f i) (λ i less. other i (λ e. never i less e)) ∙ sym (p b g)
      where
        never : (i : ℕ) → i < m → i ≡ b → ⊥
        never i less e = omega (arith, less, e, g)

-- those that are listed, as often as they are
sum_listed : (n : ℕ) (f : ℕ → ℕ) → ((i : ℕ) → n ≤ i → f i ≡ 0) → (bs : List ℕ) → sum_over f bs ≡ sum_to n (λ i. listed i bs * f i)
sum_listed n f past [] = sym (sum_none n (λ i. 0 * f i) (λ i l. none (f i)))
  where
    none : (n : ℕ) → 0 * n ≡ 0
    none n = omega arith
sum_listed n f past (b ∷ bs) =
    let one = sum_one n f b past in
    let rest = sum_listed n f past bs in
    let both = sum_two n (λ i. (if i == b then 1 else 0) * f i) (λ i. listed i bs * f i) in
    let all = sum_same n (λ i. ((if i == b then 1 else 0) + listed i bs) * f i) (λ i. (if i == b then 1 else 0) * f i + listed i bs * f i) (λ i l. add-mul (if i == b then 1 else 0) (listed i bs) (f i)) in
    omega (arith, one, rest, both, all)

-- each once
sum_once : (n : ℕ) (f : ℕ → ℕ) (bs : List ℕ) → ((i : ℕ) → n ≤ i → f i ≡ 0) → ((i : ℕ) → i < n → listed i bs ≡ 1) → sum_to n f ≡ sum_over f bs
sum_once n f bs past once = sym (sum_listed n f past bs ∙ sum_same n (λ i. listed i bs * f i) f (λ i l. ap (λ m. m * f i) (once i l) ∙ one (f i)))
  where
    one : (n : ℕ) → 1 * n ≡ n
    one n = omega arith

sum_first : (n : ℕ) (f : ℕ → ℕ) → sum_to (suc n) f ≡ f 0 + sum_to n (λ i. f (suc i))
sum_first zero f = omega arith
sum_first (suc n) f = let e = sum_first n f in omega (arith, e)

-- what all blocks have of an access
blocks_sum : (g : List Operation → ℕ) (all : List PlanBlock → ℕ) → all [] ≡ 0 → ((b : PlanBlock) (bs : List PlanBlock) → all (b ∷ bs) ≡ g b.operations + all bs)
    → (bs : List PlanBlock) → all bs ≡ sum_to (length bs) (λ i. g (block_operations (slice_get bs i)))
blocks_sum g all none more [] = none
blocks_sum g all none more (b ∷ bs) =
    let e = blocks_sum g all none more bs in
    let m = more b bs in
    let s = sum_first (length bs) (λ i. g (block_operations (slice_get (b ∷ bs) i))) in
    omega (arith, e, m, s)

past_none : {A : Type 0} (xs : List A) (i : ℕ) → length xs ≤ i → slice_get xs i ≡ None
past_none [] i l = refl
past_none (x ∷ xs) zero l = absurd (never (length xs) l)
  where
    never : (n : ℕ) → suc n ≤ 0 → ⊥
    never n h = omega (arith, h)
past_none (x ∷ xs) (suc i) l = past_none xs i (omega (arith, l))

pub plans_use : PlansUse
plans_use p plan named nodes once = (
  λ number a at made. uses number a at made,
  λ number a at made. probes number a at made,
)
  where
    phases_hold : PhasesHold (named_facts (known_of p)) tt (of_list (phases_of p))
    phases_hold = of_list_hold (named_facts (known_of p)) tt (phases_of p) (phases_named (known_of p) nothing_around 0 p.body named)

    weight_one : (n w : ℕ) → n ≡ 1 → n * w ≡ w
    weight_one n w e = ap (λ m. m * w) e ∙ one w
      where
        one : (w : ℕ) → 1 * w ≡ w
        one w = omega arith

    uses : (number : ℕ) (a : SourceAccess) → access_at p number ≡ Some a → is_made p number ≡ true → uses_of number plan.blocks ≡ uses_wanted p number a
    uses number a at made =
        blocks_sum (operations_using number) (uses_of number) refl (λ b bs. refl) plan.blocks
        ∙ (sum_once (length plan.blocks) (λ i. operations_using number (operations_in plan i)) (blocks_of plan.body) (λ i l. ap (λ o. operations_using number (block_operations o)) (past_none plan.blocks i l)) once
        ∙ (nodes_sum p plan number a at (λ i. operations_using number (operations_in plan i)) (uses_wanted p number a) (λ block makes u. u.uses number a at) [] (of_list (phases_of p)) plan.body phases_hold nodes
        ∙ weight_one (held_of number (of_list (phases_of p))) (uses_wanted p number a) (held_once number p made)))

    probes : (number : ℕ) (a : SourceAccess) → access_at p number ≡ Some a → is_made p number ≡ true → probes_of number plan.blocks ≡ length (paths_of a)
    probes number a at made =
        blocks_sum (probes_among number) (probes_of number) refl (λ b bs. refl) plan.blocks
        ∙ (sum_once (length plan.blocks) (λ i. probes_among number (operations_in plan i)) (blocks_of plan.body) (λ i l. ap (λ o. probes_among number (block_operations o)) (past_none plan.blocks i l)) once
        ∙ (nodes_sum p plan number a at (λ i. probes_among number (operations_in plan i)) (length (paths_of a)) (λ block makes u. u.probes number a at) [] (of_list (phases_of p)) plan.body phases_hold nodes
        ∙ weight_one (held_of number (of_list (phases_of p))) (length (paths_of a)) (held_once number p made)))
