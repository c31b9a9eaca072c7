-- Each register that a block of a plan sees or sets has a role, where the plan does the phases of a program. A block touches
-- registers of what its phase mentions, counters of the loops round it and its own flag (`Touches`); so by recursion on
-- nodes, with the loops round them: a counter round a node is that of a loop of the whole, and what a phase mentions the
-- phases mention. What a block assigns to it mentions, too.
use Rattle.std.proofs.Common.{◌≡◌, ◌⊎◌, inl, inr, ℕ, Bool, true, false, ◌||◌, List, refl, sym, subst}
use Rattle.std.specs.Prelude.{[], ◌∷◌, ◌++◌, ◌==◌, Option, Some, None}
use Rattle.dh_meaning.specs.Core.{CoreTerm, CoreCommand, store, assign, keep, choose, CoreCommands, no_commands, command_and, CorePhase, straightly, turning, looping, choosing, CorePhases, no_core_phases, phase_and}
use Rattle.dh_meaning.specs.Effects.{Block, commands, tests}
use Rattle.dh_meaning.specs.Levels.{assigns_to, any_assigns}
use Rattle.dh_plan.specs.Correspondence.{Slots, Round}
use Rattle.dh_plan.specs.PlainPlans.{PlainPlan, Node, block_node, turns_node, loop_node, choice_node, threads_node, Nodes, no_nodes, node_then}
use Rattle.dh_plan.specs.PlanPhases.{term_mentions, command_mentions, commands_mention, block_mentions, block_assigns, IsRegisterOf, IsCounterOf, Touches, AreNodesOf, IsNodeOf, does_phases}
use Rattle.dh_plan.specs.RegisterRoles.{phases_mention, phase_mentions, IsCounterIn, CountsLoop, TellsTest, TouchesRegister, PhasesGiveRoles}
use Rattle.dh_plan.specs.SoundPlans.{Counting, IsOneOf, blocks_of, node_blocks, countings, node_countings, flags_of, node_flags}

-- Of two.

first_true : (a b : Bool) → a ≡ true → (a || b) ≡ true
first_true true b h = refl
first_true false b h = cc

second_true : (a b : Bool) → b ≡ true → (a || b) ≡ true
second_true true b h = refl
second_true false b h = h

which_true : (a b : Bool) → (a || b) ≡ true → (a ≡ true) ⊎ (b ≡ true)
which_true true b h = inl refl
which_true false b h = inr h

one_or : (n : ℕ) (xs ys : List ℕ) → IsOneOf n (xs ++ ys) → IsOneOf n xs ⊎ IsOneOf n ys
one_or n [] ys h = inr h
one_or n (x ∷ xs) ys (inl e) = inl (inl e)
one_or n (x ∷ xs) ys (inr h) = elim (one_or n xs ys h) [ inl k ↦ inl (inr k) | inr k ↦ inr k ]

one_left : (n : ℕ) (xs ys : List ℕ) → IsOneOf n xs → IsOneOf n (xs ++ ys)
one_left n [] ys h = absurd h
one_left n (x ∷ xs) ys (inl e) = inl e
one_left n (x ∷ xs) ys (inr h) = inr (one_left n xs ys h)

one_right : (n : ℕ) (xs ys : List ℕ) → IsOneOf n ys → IsOneOf n (xs ++ ys)
one_right n [] ys h = h
one_right n (x ∷ xs) ys h = inr (one_right n xs ys h)

counter_left : (n : ℕ) (xs ys : List Counting) → IsCounterIn xs n → IsCounterIn (xs ++ ys) n
counter_left n [] ys h = absurd h
counter_left n (x ∷ xs) ys (inl e) = inl e
counter_left n (x ∷ xs) ys (inr h) = inr (counter_left n xs ys h)

counter_right : (n : ℕ) (xs ys : List Counting) → IsCounterIn ys n → IsCounterIn (xs ++ ys) n
counter_right n [] ys h = h
counter_right n (x ∷ xs) ys h = inr (counter_right n xs ys h)

-- a counter of loops and one more is of these loops, or of that one
round_or : (n : ℕ) (rounds : List Round) (r : Round) → IsCounterOf (rounds ++ r ∷ []) n → IsCounterOf rounds n ⊎ (r.counter ≡ n)
round_or n [] r (inl e) = inr e
round_or n [] r (inr h) = absurd h
round_or n (q ∷ rounds) r (inl e) = inl (inl e)
round_or n (q ∷ rounds) r (inr h) = elim (round_or n rounds r h) [ inl k ↦ inl (inr k) | inr k ↦ inr k ]

-- What is assigned to is mentioned.

mutual
  command_assigned : (entity : ℕ) (c : CoreCommand) → assigns_to entity c ≡ true → command_mentions entity c ≡ true
  command_assigned entity (store r target value) h = cc
  command_assigned entity (assign depth other value) h = first_true (entity == other) (term_mentions entity value) h
  command_assigned entity (keep depth first values) h = first_true (assigns_to entity (keep depth first values)) _ h
  command_assigned entity (choose test chosen other) h =
      second_true (term_mentions entity test) (commands_mention entity chosen || commands_mention entity other)
      (elim (which_true (any_assigns entity chosen) (any_assigns entity other) h) [
        | inl k ↦ first_true (commands_mention entity chosen) (commands_mention entity other) (commands_assigned entity chosen k)
        | inr k ↦ second_true (commands_mention entity chosen) (commands_mention entity other) (commands_assigned entity other k)
      ])

  commands_assigned : (entity : ℕ) (cs : CoreCommands) → any_assigns entity cs ≡ true → commands_mention entity cs ≡ true
  commands_assigned entity no_commands h = cc
  commands_assigned entity (command_and c cs) h = elim (which_true (assigns_to entity c) (any_assigns entity cs) h) [
    | inl k ↦ first_true (command_mentions entity c) (commands_mention entity cs) (command_assigned entity c k)
    | inr k ↦ second_true (command_mentions entity c) (commands_mention entity cs) (commands_assigned entity cs k)
  ]

block_assigned : (entity : ℕ) (b : Block) → block_assigns entity b ≡ true → block_mentions entity b ≡ true
block_assigned entity (commands cs) h = commands_assigned entity cs h
block_assigned entity (tests t) h = cc

module _ (plan : PlainPlan) (slots : Slots) where
  wider : (f g : ℕ → Bool) (register : ℕ) → ((entity : ℕ) → f entity ≡ true → g entity ≡ true) → IsRegisterOf slots f register → IsRegisterOf slots g register
  wider f g register w h = record { entity = h.entity; path = h.path; slot = h.slot; so = w h.entity h.so }

  -- One block.

  abbrev BlockRole : List Round → Block → (flag : Option ℕ) → (register : ℕ) → Type 0
  BlockRole rounds b flag register = IsRegisterOf slots (λ entity. block_mentions entity b) register ⊎ (IsCounterOf rounds register ⊎ (flag ≡ Some register))

  seen_role : (rounds : List Round) (b : Block) (flag : Option ℕ) (register : ℕ)
      → IsRegisterOf slots (λ entity. block_mentions entity b) register ⊎ IsCounterOf rounds register → BlockRole rounds b flag register
  seen_role rounds b flag register (inl v) = inl v
  seen_role rounds b flag register (inr c) = inr (inl c)

  set_role : (rounds : List Round) (b : Block) (flag : Option ℕ) (register : ℕ)
      → IsRegisterOf slots (λ entity. block_assigns entity b) register ⊎ (flag ≡ Some register) → BlockRole rounds b flag register
  set_role rounds b flag register (inl v) = inl (wider (λ entity. block_assigns entity b) (λ entity. block_mentions entity b) register (λ entity h. block_assigned entity b h) v)
  set_role rounds b flag register (inr f) = inr (inr f)

  touched_role : (rounds : List Round) (b : Block) (flag : Option ℕ) (block register : ℕ) → Touches plan slots rounds b flag block → TouchesRegister plan block register → BlockRole rounds b flag register
  touched_role rounds b flag block register t (inl s) = seen_role rounds b flag register (t.sees s.place s.guard register s.there)
  touched_role rounds b flag block register t (inr s) = set_role rounds b flag register (t.sets s.place s.guard register s.value s.there)

  -- the block of this number is that one
  role_here : (rounds : List Round) (b : Block) (flag : Option ℕ) (block own register : ℕ) → block ≡ own → Touches plan slots rounds b flag own → TouchesRegister plan block register → BlockRole rounds b flag register
  role_here rounds b flag block own register e t s = touched_role rounds b flag own register t (subst (λ (i : ℕ). TouchesRegister plan i register) e s)

  -- Nodes.

  abbrev RoleIn : List Round → CorePhases → Nodes → (register : ℕ) → Type 0
  RoleIn rounds ps ns register = IsRegisterOf slots (λ entity. phases_mention entity ps) register ⊎ (IsCounterOf rounds register ⊎ (CountsLoop ns register ⊎ TellsTest ns register))

  abbrev RoleAt : List Round → CorePhase → Node → (register : ℕ) → Type 0
  RoleAt rounds p n register =
      IsRegisterOf slots (λ entity. phase_mentions entity p) register ⊎ (IsCounterOf rounds register ⊎ (IsCounterIn (node_countings n) register ⊎ IsOneOf register (node_flags n)))

  node_in : (rounds : List Round) (p : CorePhase) (ps : CorePhases) (n : Node) (ns : Nodes) (register : ℕ) → RoleAt rounds p n register → RoleIn rounds (phase_and p ps) (node_then n ns) register
  node_in rounds p ps n ns register (inl v) =
      inl (wider (λ entity. phase_mentions entity p) (λ entity. phase_mentions entity p || phases_mention entity ps) register (λ entity h. first_true (phase_mentions entity p) (phases_mention entity ps) h) v)
  node_in rounds p ps n ns register (inr (inl c)) = inr (inl c)
  node_in rounds p ps n ns register (inr (inr (inl c))) = inr (inr (inl (counter_left register (node_countings n) (countings ns) c)))
  node_in rounds p ps n ns register (inr (inr (inr f))) = inr (inr (inr (one_left register (node_flags n) (flags_of ns) f)))

  rest_in : (rounds : List Round) (p : CorePhase) (ps : CorePhases) (n : Node) (ns : Nodes) (register : ℕ) → RoleIn rounds ps ns register → RoleIn rounds (phase_and p ps) (node_then n ns) register
  rest_in rounds p ps n ns register (inl v) =
      inl (wider (λ entity. phases_mention entity ps) (λ entity. phase_mentions entity p || phases_mention entity ps) register (λ entity h. second_true (phase_mentions entity p) (phases_mention entity ps) h) v)
  rest_in rounds p ps n ns register (inr (inl c)) = inr (inl c)
  rest_in rounds p ps n ns register (inr (inr (inl c))) = inr (inr (inl (counter_right register (node_countings n) (countings ns) c)))
  rest_in rounds p ps n ns register (inr (inr (inr f))) = inr (inr (inr (one_right register (node_flags n) (flags_of ns) f)))

  straight_role : (rounds : List Round) (cs : CoreCommands) (block register : ℕ) → BlockRole rounds (commands cs) None register → RoleAt rounds (straightly cs) (block_node block) register
  straight_role rounds cs block register (inl v) = inl v
  straight_role rounds cs block register (inr (inl c)) = inr (inl c)
  straight_role rounds cs block register (inr (inr f)) = absurd (cc)

  -- a loop of turns, behind its body
  turn_or : (rounds : List Round) (p : CorePhase) (counter turns register : ℕ) (ns : Nodes) → IsCounterOf rounds register ⊎ (counter ≡ register) → RoleAt rounds p (turns_node counter turns ns) register
  turn_or rounds p counter turns register ns (inl c) = inr (inl c)
  turn_or rounds p counter turns register ns (inr e) = inr (inr (inl (inl e)))

  turn_role : (rounds : List Round) (r : Round) (body : CorePhases) (counter turns register : ℕ) (ns : Nodes) → r.counter ≡ counter
      → RoleIn (rounds ++ r ∷ []) body ns register → RoleAt rounds (turning r.loop body) (turns_node counter turns ns) register
  turn_role rounds r body counter turns register ns own (inl v) = inl v
  turn_role rounds r body counter turns register ns own (inr (inl c)) =
      turn_or rounds (turning r.loop body) counter turns register ns (subst (λ (m : ℕ). IsCounterOf rounds register ⊎ (m ≡ register)) own (round_or register rounds r c))
  turn_role rounds r body counter turns register ns own (inr (inr (inl c))) = inr (inr (inl (inr c)))
  turn_role rounds r body counter turns register ns own (inr (inr (inr f))) = inr (inr (inr f))

  -- a test that is the first block of what follows
  test_role : (rounds : List Round) (test : CoreTerm) (p : CorePhase) (n : Node) (flag register : ℕ) (flags : List ℕ) → node_flags n ≡ flag ∷ flags
      → ((entity : ℕ) → term_mentions entity test ≡ true → phase_mentions entity p ≡ true) → BlockRole rounds (tests test) (Some flag) register → RoleAt rounds p n register
  test_role rounds test p n flag register flags own w (inl v) = inl (wider (λ entity. term_mentions entity test) (λ entity. phase_mentions entity p) register w v)
  test_role rounds test p n flag register flags own w (inr (inl c)) = inr (inl c)
  test_role rounds test p n flag register flags own w (inr (inr f)) =
      let same : register ≡ flag = cc in inr (inr (inr (subst (λ (fs : List ℕ). IsOneOf register fs) (sym own) (inl same))))

  loop_role : (rounds : List Round) (test : CoreTerm) (body : CorePhases) (block flag register : ℕ) (ns : Nodes) → RoleIn rounds body ns register → RoleAt rounds (looping test body) (loop_node block flag ns) register
  loop_role rounds test body block flag register ns (inl v) =
      inl (wider (λ entity. phases_mention entity body) (λ entity. term_mentions entity test || phases_mention entity body) register (λ entity h. second_true (term_mentions entity test) (phases_mention entity body) h) v)
  loop_role rounds test body block flag register ns (inr (inl c)) = inr (inl c)
  loop_role rounds test body block flag register ns (inr (inr (inl c))) = inr (inr (inl c))
  loop_role rounds test body block flag register ns (inr (inr (inr f))) = inr (inr (inr (inr f)))

  chosen_role : (rounds : List Round) (test : CoreTerm) (chosen other : CorePhases) (block flag register : ℕ) (ns ms : Nodes) → RoleIn rounds chosen ns register → RoleAt rounds (choosing test chosen other) (choice_node block flag ns ms) register
  chosen_role rounds test chosen other block flag register ns ms (inl v) =
      inl (wider (λ entity. phases_mention entity chosen) (λ entity. term_mentions entity test || (phases_mention entity chosen || phases_mention entity other)) register
      (λ entity h. second_true (term_mentions entity test) (phases_mention entity chosen || phases_mention entity other) (first_true (phases_mention entity chosen) (phases_mention entity other) h)) v)
  chosen_role rounds test chosen other block flag register ns ms (inr (inl c)) = inr (inl c)
  chosen_role rounds test chosen other block flag register ns ms (inr (inr (inl c))) = inr (inr (inl (counter_left register (countings ns) (countings ms) c)))
  chosen_role rounds test chosen other block flag register ns ms (inr (inr (inr f))) = inr (inr (inr (inr (one_left register (flags_of ns) (flags_of ms) f))))

  other_role : (rounds : List Round) (test : CoreTerm) (chosen other : CorePhases) (block flag register : ℕ) (ns ms : Nodes) → RoleIn rounds other ms register → RoleAt rounds (choosing test chosen other) (choice_node block flag ns ms) register
  other_role rounds test chosen other block flag register ns ms (inl v) =
      inl (wider (λ entity. phases_mention entity other) (λ entity. term_mentions entity test || (phases_mention entity chosen || phases_mention entity other)) register
      (λ entity h. second_true (term_mentions entity test) (phases_mention entity chosen || phases_mention entity other) (second_true (phases_mention entity chosen) (phases_mention entity other) h)) v)
  other_role rounds test chosen other block flag register ns ms (inr (inl c)) = inr (inl c)
  other_role rounds test chosen other block flag register ns ms (inr (inr (inl c))) = inr (inr (inl (counter_right register (countings ns) (countings ms) c)))
  other_role rounds test chosen other block flag register ns ms (inr (inr (inr f))) = inr (inr (inr (inr (one_right register (flags_of ns) (flags_of ms) f))))

  mutual
    pub nodes_have : (rounds : List Round) (ps : CorePhases) (ns : Nodes) → AreNodesOf (does_phases plan slots) rounds ps ns → (block register : ℕ) → IsOneOf block (blocks_of ns) → TouchesRegister plan block register → RoleIn rounds ps ns register
    nodes_have rounds no_core_phases no_nodes h block register i t = absurd i
    nodes_have rounds (phase_and p ps) (node_then n ns) h block register i t = elim (one_or block (node_blocks n) (blocks_of ns) i) [
      | inl k ↦ node_in rounds p ps n ns register (node_has rounds p n h.0 block register k t)
      | inr k ↦ rest_in rounds p ps n ns register (nodes_have rounds ps ns h.1 block register k t)
    ]
    nodes_have rounds no_core_phases (node_then n ns) h block register i t = absurd h
    nodes_have rounds (phase_and p ps) no_nodes h block register i t = absurd h

    node_has : (rounds : List Round) (p : CorePhase) (n : Node) → IsNodeOf (does_phases plan slots) rounds p n → (block register : ℕ) → IsOneOf block (node_blocks n) → TouchesRegister plan block register → RoleAt rounds p n register
    node_has rounds (straightly cs) (block_node own) h block register (inl e) t = straight_role rounds cs own register (role_here rounds (commands cs) None block own register e h.1 t)
    node_has rounds (straightly cs) (block_node own) h block register (inr i) t = absurd i
    node_has rounds (turning loop body) (turns_node counter turns ns) h block register i t =
        turn_role rounds (record { loop = loop; counter = counter }) body counter turns register ns refl
        (nodes_have (rounds ++ record { loop = loop; counter = counter } ∷ []) body ns h.1.1 block register i t)
    node_has rounds (looping test body) (loop_node own flag ns) h block register (inl e) t =
        test_role rounds test (looping test body) (loop_node own flag ns) flag register (flags_of ns) refl (λ entity k. first_true (term_mentions entity test) (phases_mention entity body) k)
        (role_here rounds (tests test) (Some flag) block own register e h.0.1.1 t)
    node_has rounds (looping test body) (loop_node own flag ns) h block register (inr i) t = loop_role rounds test body own flag register ns (nodes_have rounds body ns h.1 block register i t)
    node_has rounds (choosing test chosen other) (choice_node own flag ns ms) h block register (inl e) t =
        test_role rounds test (choosing test chosen other) (choice_node own flag ns ms) flag register (flags_of ns ++ flags_of ms) refl
        (λ entity k. first_true (term_mentions entity test) (phases_mention entity chosen || phases_mention entity other) k)
        (role_here rounds (tests test) (Some flag) block own register e h.0.1.1 t)
    node_has rounds (choosing test chosen other) (choice_node own flag ns ms) h block register (inr i) t = elim (one_or block (blocks_of ns) (blocks_of ms) i) [
      | inl k ↦ chosen_role rounds test chosen other own flag register ns ms (nodes_have rounds chosen ns h.1.0 block register k t)
      | inr k ↦ other_role rounds test chosen other own flag register ns ms (nodes_have rounds other ms h.1.1 block register k t)
    ]
    node_has rounds (straightly cs) (turns_node counter turns ns) h block register i t = absurd h
    node_has rounds (straightly cs) (loop_node own flag ns) h block register i t = absurd h
    node_has rounds (straightly cs) (choice_node own flag ns ms) h block register i t = absurd h
    node_has rounds (straightly cs) (threads_node lists) h block register i t = absurd h
    node_has rounds (turning loop body) (block_node own) h block register i t = absurd h
    node_has rounds (turning loop body) (loop_node own flag ns) h block register i t = absurd h
    node_has rounds (turning loop body) (choice_node own flag ns ms) h block register i t = absurd h
    node_has rounds (turning loop body) (threads_node lists) h block register i t = absurd h
    node_has rounds (looping test body) (block_node own) h block register i t = absurd h
    node_has rounds (looping test body) (turns_node counter turns ns) h block register i t = absurd h
    node_has rounds (looping test body) (choice_node own flag ns ms) h block register i t = absurd h
    node_has rounds (looping test body) (threads_node lists) h block register i t = absurd h
    node_has rounds (choosing test chosen other) (block_node own) h block register i t = absurd h
    node_has rounds (choosing test chosen other) (turns_node counter turns ns) h block register i t = absurd h
    node_has rounds (choosing test chosen other) (loop_node own flag ns) h block register i t = absurd h
    node_has rounds (choosing test chosen other) (threads_node lists) h block register i t = absurd h

-- Of the whole, round which there is no loop.

without_rounds : (plan : PlainPlan) (slots : Slots) (ps : CorePhases) (register : ℕ) → RoleIn plan slots [] ps plan.body register
    → IsRegisterOf slots (λ entity. phases_mention entity ps) register ⊎ (CountsLoop plan.body register ⊎ TellsTest plan.body register)
without_rounds plan slots ps register (inl v) = inl v
without_rounds plan slots ps register (inr (inl c)) = absurd c
without_rounds plan slots ps register (inr (inr r)) = inr r

pub phases_give_roles : PhasesGiveRoles
phases_give_roles plan slots ps h block register i t = without_rounds plan slots ps register (nodes_have plan slots [] ps plan.body h block register i t)
