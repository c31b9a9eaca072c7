-- A step of a plan does one block at least, which the plan has; and in the last clock of the longest block the values
-- of all its blocks are there. Of steps by recursion on the nodes, of threads that go together by the first of them.
use Rattle.std.proofs.Common.{◌≡◌, ℕ, zero, suc, ◌≤◌, inl, inr, Some, None, List, length, refl, sym, ap, subst, ◌∙◌, arith}
use Rattle.std.specs.Prelude.{[], ◌∷◌, ◌++◌, slice_get, slice_index, max, take, drop}
use Rattle.std.specs.List.{AllByRecursion}
use Rattle.std.proofs.lemmas.Bool.{cases_lt}
use Rattle.std.proofs.lemmas.Option.{slice_get_cases}
use Rattle.dh_plan.specs.declared.operations.Operation.{Operation}
use Rattle.dh_plan.specs.declared.operations.PlanBlock.{PlanBlock}
use Rattle.dh_plan.specs.declared.schedules.Limits.{Limits}
use Rattle.dh_plan.specs.LegalSchedules.{Timing, there_at, last_clock, clocks_in, IsLegal, NeedsAreMet}
use Rattle.dh_plan.specs.PlainPlans.{Node, block_node, turns_node, loop_node, choice_node, threads_node, Nodes, no_nodes, node_then, NodeLists, no_lists, list_then, PlainPlan, first_in, block_operations, operations_in}
use Rattle.dh_plan.specs.PlanKinds.{Names}
use Rattle.dh_plan.specs.PlanRuns.{PlanTodo, ended, blocks_at, blocks_at_all}
use Rattle.dh_plan.specs.PlayedPlans.{longest}
use Rattle.dh_plan.specs.SoundPlans.{Counting, IsOneOf, IsStepOf, IsStepOfNode, IsStepOfLists, blocks_of, node_blocks, list_blocks}
use Rattle.dh_plan.specs.Ways.{GraphStop, GraphSpot, rests, in_state, in_fork, Spots, no_spots, spot_then, place_of_spot, places_of_spots}
use Rattle.dh_plan.proofs.LeastLengths.{clocks_long}
use Rattle.dh_plan.proofs.ValuesAlike.{all_left, all_right}
use Rattle.dh_lower.specs.SpotsDone.{blocks_of_spot, blocks_of_spots}
use Rattle.dh_lower.proofs.ValuesShown.{there_later}

-- blocks of which the first is one of the plan
pub record DoesSome (plan : PlainPlan) (blocks : List ℕ) : Type 0 where
  pub block : ℕ
  pub rest : List ℕ
  pub are : blocks ≡ block ∷ rest
  pub named : Names plan.blocks block

abbrev pub AllNamed : PlainPlan → List ℕ → Type 0
AllNamed plan bs = AllByRecursion (λ (b : ℕ). Names plan.blocks b) bs

mutual
  some_of : (plan : PlainPlan) (round : List Counting) (ns : Nodes) (blocks : List ℕ) (loops : List Counting) → AllNamed plan (blocks_of ns) → IsStepOf round ns blocks loops → DoesSome plan blocks
  some_of plan round no_nodes blocks loops all h = absurd h
  some_of plan round (node_then n ns) blocks loops all (inl h) = some_of_node plan round n blocks loops (all_left (λ (b : ℕ). Names plan.blocks b) (node_blocks n) (blocks_of ns) all) h
  some_of plan round (node_then n ns) blocks loops all (inr h) = some_of plan round ns blocks loops (all_right (λ (b : ℕ). Names plan.blocks b) (node_blocks n) (blocks_of ns) all) h

  some_of_node : (plan : PlainPlan) (round : List Counting) (n : Node) (blocks : List ℕ) (loops : List Counting) → AllNamed plan (node_blocks n) → IsStepOfNode round n blocks loops → DoesSome plan blocks
  some_of_node plan round (block_node block) blocks loops all h = record { block = block; rest = []; are = h.0; named = all.0 }
  some_of_node plan round (turns_node counter turns body) blocks loops all h = some_of plan _ body blocks loops all h
  some_of_node plan round (loop_node test flag body) blocks loops all (inl h) = record { block = test; rest = []; are = h.0; named = all.0 }
  some_of_node plan round (loop_node test flag body) blocks loops all (inr h) = some_of plan round body blocks loops all.1 h
  some_of_node plan round (choice_node test flag chosen other) blocks loops all (inl h) = record { block = test; rest = []; are = h.0; named = all.0 }
  some_of_node plan round (choice_node test flag chosen other) blocks loops all (inr (inl h)) =
      some_of plan round chosen blocks loops (all_left (λ (b : ℕ). Names plan.blocks b) (blocks_of chosen) (blocks_of other) all.1) h
  some_of_node plan round (choice_node test flag chosen other) blocks loops all (inr (inr h)) =
      some_of plan round other blocks loops (all_right (λ (b : ℕ). Names plan.blocks b) (blocks_of chosen) (blocks_of other) all.1) h
  some_of_node plan round (threads_node lists) blocks loops all h = some_of_lists plan round lists blocks loops all h

  some_of_lists : (plan : PlainPlan) (round : List Counting) (lists : NodeLists) (blocks : List ℕ) (loops : List Counting) → AllNamed plan (list_blocks lists) → IsStepOfLists round lists blocks loops
      → DoesSome plan blocks
  some_of_lists plan round no_lists blocks loops all h = absurd h
  some_of_lists plan round (list_then ns lists) blocks loops all (inl h) = some_of_lists plan round lists blocks loops (all_right (λ (b : ℕ). Names plan.blocks b) (blocks_of ns) (list_blocks lists) all) h
  some_of_lists plan round (list_then ns lists) blocks loops all (inr (inl h)) = some_of plan round ns blocks loops (all_left (λ (b : ℕ). Names plan.blocks b) (blocks_of ns) (list_blocks lists) all) h
  some_of_lists plan round (list_then ns lists) blocks loops all (inr (inr t)) =
      let first = some_of plan round ns t.first_blocks t.first_loops (all_left (λ (b : ℕ). Names plan.blocks b) (blocks_of ns) (list_blocks lists) all) t.first in
      record { block = first.block; rest = first.rest ++ t.second_blocks; are = t.all_blocks ∙ ap (λ (bs : List ℕ). bs ++ t.second_blocks) first.are; named = first.named }

pub steps_do_some : (plan : PlainPlan) (blocks : List ℕ) (loops : List Counting) → AllNamed plan (blocks_of plan.body) → IsStepOf [] plan.body blocks loops → DoesSome plan blocks
steps_do_some plan blocks loops all h = some_of plan [] plan.body blocks loops all h

pub some_not_none : (plan : PlainPlan) (blocks : List ℕ) → DoesSome plan blocks → blocks ≡ [] → ⊥
some_not_none plan blocks h none = (let f : h.block ∷ h.rest ≡ [] = sym h.are ∙ none in cc)

-- Lengths.

pub long_as_each : (lengths : List ℕ) (blocks : List ℕ) (b : ℕ) → IsOneOf b blocks → slice_index lengths b ≤ longest lengths blocks
long_as_each lengths [] b h = absurd h
long_as_each lengths (c ∷ cs) b (inl h) =
    let same : slice_index lengths b ≡ slice_index lengths c = ap (λ (n : ℕ). slice_index lengths n) h in
    let most : slice_index lengths c ≤ max (slice_index lengths c) (longest lengths cs) = grind arith in
    omega (arith, same, most)
long_as_each lengths (c ∷ cs) b (inr h) =
    let rest = long_as_each lengths cs b h in
    let most : longest lengths cs ≤ max (slice_index lengths c) (longest lengths cs) = grind arith in
    omega (arith, rest, most)

pub takes_a_clock : (plan : PlainPlan) (limits : Limits) (t : Timing) → IsLegal plan limits t → (blocks : List ℕ) → DoesSome plan blocks → 1 ≤ longest t.lengths blocks
takes_a_clock plan limits t legal blocks h =
    let ends = (legal.blocks h.block h.named).ends in
    let each = long_as_each t.lengths blocks h.block (subst (λ (bs : List ℕ). IsOneOf h.block bs) (sym h.are) (inl refl)) in
    omega (arith, ends, each)

-- Clocks of a block.

-- no operations beyond the plan's blocks
none_beyond : (bs : List PlanBlock) (b : ℕ) → length bs ≤ b → block_operations (slice_get bs b) ≡ []
none_beyond bs b h = elim (slice_get_cases bs b).1 [
  | inl found ↦ absurd (let inside = found.1 in omega (arith, inside, h))
  | inr past ↦ ap block_operations past.1
]

module _ (plan : PlainPlan) (limits : Limits) (t : Timing) (legal : IsLegal plan limits t) where
  pub all_clocks_long : (b : ℕ) → length (clocks_in plan t b) ≡ length (operations_in plan b)
  all_clocks_long b = elim (cases_lt b (length plan.blocks)) [
    | inl inside ↦ clocks_long plan t b legal.all_clocks inside
    | inr past ↦ none_long (operations_in plan b) (drop (first_in plan b) t.clocks) (none_beyond plan.blocks b past)
  ]
    where
      none_long : (os : List Operation) (cs : List ℕ) → os ≡ [] → length (take (length os) cs) ≡ length os
      none_long [] [] none = refl
      none_long [] (c ∷ cs) none = refl
      none_long (o ∷ os) cs none = absurd (cc)

  pub stands_by_needs : (b : ℕ) → NeedsAreMet (first_in plan b) (operations_in plan b) (clocks_in plan t b)
  stands_by_needs b i o at = elim (cases_lt b (length plan.blocks)) [
    | inl inside ↦ (legal.blocks b inside).needs i o at
    | inr past ↦ absurd (let none = none_beyond plan.blocks b past in let f : None ≡ Some o = sym (ap (λ (os : List Operation). slice_get os i) none) ∙ at in cc)
  ]

  pub over_at_last : (blocks : List ℕ) (clock : ℕ) → suc clock ≡ longest t.lengths blocks → (b : ℕ) → IsOneOf b blocks → last_clock (operations_in plan b) (clocks_in plan t b) ≤ clock
  over_at_last blocks clock last b one = elim (cases_lt b (length plan.blocks)) [
    | inl inside ↦
        let ends = (legal.blocks b inside).ends in
        let each = long_as_each t.lengths blocks b one in
        omega (arith, ends, each, last)
    | inr past ↦
        let none : last_clock (operations_in plan b) (clocks_in plan t b) ≡ 0 = ap (λ (os : List Operation). last_clock os (clocks_in plan t b)) (none_beyond plan.blocks b past) in
        omega (arith, none)
  ]

-- the clock of each operation is no later than that at which the last value is there
pub clock_at_most : (os : List Operation) (clocks : List ℕ) (i : ℕ) → length clocks ≡ length os → slice_index clocks i ≤ last_clock os clocks
clock_at_most [] [] i long = omega arith
clock_at_most [] (c ∷ cs) i long = absurd (omega (arith, long))
clock_at_most (o ∷ os) [] i long = omega arith
clock_at_most (o ∷ os) (c ∷ cs) zero long =
    let later = there_later o.form c in
    let most : there_at o.form c ≤ max (there_at o.form c) (last_clock os cs) = grind arith in
    omega (arith, later, most)
clock_at_most (o ∷ os) (c ∷ cs) (suc i) long =
    let rest = clock_at_most os cs i (omega (arith, long)) in
    let most : last_clock os cs ≤ max (there_at o.form c) (last_clock os cs) = grind arith in
    omega (arith, rest, most)

-- The blocks at a place of a graph are those at the place of the plan.

mutual
  pub blocks_are : (states : List GraphStop) (behind after : ℕ → PlanTodo) (spot : GraphSpot) → blocks_of_spot states spot ≡ blocks_at (place_of_spot states behind after spot)
  blocks_are states behind after rests = refl
  blocks_are states behind after (in_state state) = refl
  blocks_are states behind after (in_fork fork ss) = all_blocks_are states behind after ss

  all_blocks_are : (states : List GraphStop) (behind after : ℕ → PlanTodo) (ss : Spots) → blocks_of_spots states ss ≡ blocks_at_all (places_of_spots states behind after ss)
  all_blocks_are states behind after no_spots = refl
  all_blocks_are states behind after (spot_then s ss) =
      ap (λ (bs : List ℕ). bs ++ blocks_of_spots states ss) (blocks_are states behind after s)
      ∙ ap (λ (bs : List ℕ). blocks_at (place_of_spot states behind after s) ++ bs) (all_blocks_are states behind after ss)

-- a graph rests where the plan has ended
pub rests_where_ended : (states : List GraphStop) (behind after : ℕ → PlanTodo) (spot : GraphSpot) → place_of_spot states behind after spot ≡ ended → spot ≡ rests
rests_where_ended states behind after rests e = refl
rests_where_ended states behind after (in_state state) e = absurd (cc)
rests_where_ended states behind after (in_fork fork ss) e = absurd (cc)
