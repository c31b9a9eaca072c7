-- The counters of a plan's nodes: each is wide enough, and of no other loop. The loops of the nodes are those of the
-- phases, in order.
use Rattle.std.proofs.Common.{◌≡◌, ◌⊎◌, inl, inr, ℕ, zero, suc, ◌<◌, ◌≤◌, ◌^◌, List, [], ◌∷◌, ◌++◌, length, map, Some, None, refl, ap, sym, ◌∙◌, subst, arith}
use Rattle.std.specs.Prelude.{Option, slice_get}
use Rattle.std.specs.List.{AllByRecursion}
use Rattle.std.proofs.lemmas.List.{map-append}
use Rattle.dh_value.specs.declared.kinds.Kind.{Kind}
use Rattle.dh_value.specs.declared.kinds.Kind.TheVariants.{Unsigned}
use Rattle.dh_tree.specs.declared.trees.counters.Counter.{Counter}
use Rattle.dh_tree.specs.Seen.{program_seen}
use Rattle.dh_meaning.specs.Core.{CorePhase, straightly, turning, looping, choosing, CorePhases, no_core_phases, phase_and, Turning}
use Rattle.dh_code.specs.declared.places.VariableSlots.{VariableSlots}
use Rattle.dh_code.specs.Declarations.{Declaration, all_held, declaration_in, declared_factors, slots_counted}
use Rattle.dh_code.specs.Ranks.{copies_in}
use Rattle.dh_code.specs.Slots.{IsPlacing, Placing, held_at}
use Rattle.dh_plan.specs.Blocks.{kind_at}
use Rattle.dh_plan.specs.Correspondence.{Round, Slots}
use Rattle.dh_plan.specs.PlainPlans.{PlainPlan, Node, block_node, turns_node, loop_node, choice_node, threads_node, Nodes, no_nodes, node_then}
use Rattle.dh_plan.specs.PlanPhases.{AreNodesOf, IsNodeOf}
use Rattle.dh_plan.specs.SoundPlans.{AreCounters, Counting, CountsTurns, countings, node_countings}
use Rattle.dh_expressions.specs.declared.scenes.Scene.{Scene}
use Rattle.dh_expressions.proofs.ListPlaces.{place_within}
use Rattle.dh_gathering.specs.declared.blocks.Made.{Made}
use Rattle.dh_gathering.specs.MadeBlocks.{counter_register, made_tie}
use Rattle.dh_gathering.specs.LoopCounters.{AreOwnLoops, AreSlotsBy, HasCounter, IsCounting, counting_of, loops_of_phase, loops_of_phases}
use Rattle.dh_gathering.specs.Registers.{HasRegisterKind, HaveKinds, IsRegisterKind, first_among}
use Rattle.dh_gathering.proofs.CountersApart.{apart_loops}
use Rattle.dh_gathering.proofs.KindsOfRegisters.{first_at, first_before}

module _ (scene : Scene) (final : Made) where
  both : (xs ys : List Counting) (as' bs : List Turning) → xs ≡ map (counting_of scene) as' → ys ≡ map (counting_of scene) bs → xs ++ ys ≡ map (counting_of scene) (as' ++ bs)
  both xs ys as' bs h k = ap (λ (l : List Counting). l ++ ys) h ∙ (ap (λ (l : List Counting). map (counting_of scene) as' ++ l) k ∙ sym (map-append (counting_of scene) as' bs))

  mutual
    pub countings_are : (rounds : List Round) (ps : CorePhases) (ns : Nodes) → AreNodesOf (made_tie scene final) rounds ps ns → countings ns ≡ map (counting_of scene) (loops_of_phases ps)
    countings_are rounds no_core_phases no_nodes h = refl
    countings_are rounds no_core_phases (node_then n ns) h = absurd h
    countings_are rounds (phase_and p ps) no_nodes h = absurd h
    countings_are rounds (phase_and p ps) (node_then n ns) h = both (node_countings n) (countings ns) (loops_of_phase p) (loops_of_phases ps) (node_is rounds p n h.0) (countings_are rounds ps ns h.1)

    node_is : (rounds : List Round) (p : CorePhase) (n : Node) → IsNodeOf (made_tie scene final) rounds p n → node_countings n ≡ map (counting_of scene) (loops_of_phase p)
    node_is rounds (straightly cs) (block_node block) h = refl
    node_is rounds (straightly cs) (turns_node counter turns ms) h = absurd h
    node_is rounds (straightly cs) (loop_node block flag ms) h = absurd h
    node_is rounds (straightly cs) (choice_node block flag ms os) h = absurd h
    node_is rounds (straightly cs) (threads_node lists) h = absurd h
    node_is rounds (turning loop body) (block_node block) h = absurd h
    node_is rounds (turning loop body) (turns_node counter turns ms) h =
        ap (λ (n : ℕ). record { counter = n; turns = turns } ∷ countings ms) h.1.0
        ∙ (ap (λ (n : ℕ). record { counter = counter_register scene loop; turns = n } ∷ countings ms) h.0
        ∙ ap (λ (l : List Counting). counting_of scene loop ∷ l) (countings_are (rounds ++ record { loop = loop; counter = counter } ∷ []) body ms h.1.1))
    node_is rounds (turning loop body) (loop_node block flag ms) h = absurd h
    node_is rounds (turning loop body) (choice_node block flag ms os) h = absurd h
    node_is rounds (turning loop body) (threads_node lists) h = absurd h
    node_is rounds (looping test body) (block_node block) h = absurd h
    node_is rounds (looping test body) (turns_node counter turns ms) h = absurd h
    node_is rounds (looping test body) (loop_node block flag ms) h = countings_are rounds body ms h.1
    node_is rounds (looping test body) (choice_node block flag ms os) h = absurd h
    node_is rounds (looping test body) (threads_node lists) h = absurd h
    node_is rounds (choosing test chosen other) (block_node block) h = absurd h
    node_is rounds (choosing test chosen other) (turns_node counter turns ms) h = absurd h
    node_is rounds (choosing test chosen other) (loop_node block flag ms) h = absurd h
    node_is rounds (choosing test chosen other) (choice_node block flag ms os) h =
        both (countings ms) (countings os) (loops_of_phases chosen) (loops_of_phases other) (countings_are rounds chosen ms h.1.0) (countings_are rounds other os h.1.1)
    node_is rounds (choosing test chosen other) (threads_node lists) h = absurd h

-- the element of which another is made
from_map : (scene : Scene) (loops : List Turning) (i : ℕ) (c : Counting) → slice_get (map (counting_of scene) loops) i ≡ Some c → (loop : Turning) × ((slice_get loops i ≡ Some loop) × (counting_of scene loop ≡ c))
from_map scene [] i c e = absurd cc
from_map scene (l ∷ loops) zero c e = (l, (refl, some_is (counting_of scene l) c e))
  where
    some_or : Counting → Option Counting → Counting
    some_or d None = d
    some_or d (Some x) = x

    some_is : (x y : Counting) → Some x ≡ Some y → x ≡ y
    some_is x y k = ap (λ (o : Option Counting). some_or x o) k
from_map scene (l ∷ loops) (suc i) c e = from_map scene loops i c e

all_at : (P : Turning → Type 0) (loops : List Turning) (i : ℕ) (loop : Turning) → AllByRecursion P loops → slice_get loops i ≡ Some loop → P loop
all_at P [] i loop a e = absurd cc
all_at P (l ∷ loops) zero loop a e = subst (λ (x : Turning). P x) (some_is l loop e) a.0
  where
    some_or : Turning → Option Turning → Turning
    some_or d None = d
    some_or d (Some x) = x

    some_is : (x y : Turning) → Some x ≡ Some y → x ≡ y
    some_is x y k = ap (λ (o : Option Turning). some_or x o) k
all_at P (l ∷ loops) (suc i) loop a e = all_at P loops i loop a.1 e

same_or : (i j : ℕ) → (i ≡ j) ⊎ (i ≡ j → ⊥)
same_or zero zero = inl refl
same_or zero (suc j) = inr (λ e. absurd cc)
same_or (suc i) zero = inr (λ e. absurd cc)
same_or (suc i) (suc j) = by (same_or i j)
  where
    less : (n m : ℕ) → suc n ≡ suc m → n ≡ m
    less n m h = omega (arith, h)

    by : (i ≡ j) ⊎ (i ≡ j → ⊥) → (suc i ≡ suc j) ⊎ (suc i ≡ suc j → ⊥)
    by (inl e) = inl (ap suc e)
    by (inr h) = inr (λ e. h (less i j e))

kind_there : (kinds : List Kind) (r : ℕ) (k : Kind) → slice_get kinds r ≡ Some k → kind_at kinds r ≡ k
kind_there [] r k e = absurd cc
kind_there (x ∷ kinds) zero k e = some_is x k e
  where
    some_or : Kind → Option Kind → Kind
    some_or d None = d
    some_or d (Some y) = y

    some_is : (y z : Kind) → Some y ≡ Some z → y ≡ z
    some_is y z h = ap (λ (o : Option Kind). some_or y o) h
kind_there (x ∷ kinds) (suc r) k e = kind_there kinds r k e

module _ (scene : Scene) (p : Placing) (slots : Slots) (count : ℕ) (by_slots : AreSlotsBy scene p slots) (placing : IsPlacing p count) (plan : PlainPlan) where
  wide_all : (loops : List Turning) → AllByRecursion (HasCounter scene plan.registers) loops → AllByRecursion (CountsTurns plan) (map (counting_of scene) loops)
  wide_all [] h = tt
  wide_all (l ∷ loops) h = (
    (place_within plan.registers (counter_register scene l) (Unsigned h.0.width) h.0.there, (h.0.width, (kind_there plan.registers (counter_register scene l) (Unsigned h.0.width) h.0.there, h.0.wide))),
    wide_all loops h.1,
  )

  -- the counters of nodes of these phases
  pub counters_are : (cs : List Counting) (loops : List Turning) → cs ≡ map (counting_of scene) loops → AreOwnLoops scene p loops → AllByRecursion (HasCounter scene plan.registers) loops → AreCounters plan cs
  counters_are cs loops is own wide = subst (λ (l : List Counting). AreCounters plan l) (sym is) (record {
    wide = wide_all loops wide;
    apart = apart;
  })
    where
      apart : (i j : ℕ) (c d : Counting) → slice_get (map (counting_of scene) loops) i ≡ Some c → slice_get (map (counting_of scene) loops) j ≡ Some d → c.counter ≡ d.counter → i ≡ j
      apart i j c d at at' same = by (from_map scene loops i c at) (from_map scene loops j d at')
        where
          by : (loop : Turning) × ((slice_get loops i ≡ Some loop) × (counting_of scene loop ≡ c)) → (loop : Turning) × ((slice_get loops j ≡ Some loop) × (counting_of scene loop ≡ d)) → i ≡ j
          by (a, (one, is_a)) (b, (two, is_b)) = or (same_or a.iterator b.iterator)
            where
              or : (a.iterator ≡ b.iterator) ⊎ (a.iterator ≡ b.iterator → ⊥) → i ≡ j
              or (inl e) = own.own i j a b one two e
              or (inr other) =
                  absurd (apart_loops scene p slots count by_slots placing a b (all_at (IsCounting scene p) loops i a own.counting one) (all_at (IsCounting scene p) loops j b own.counting two) other
                  (ap (λ (x : Counting). x.counter) is_a ∙ (same ∙ sym (ap (λ (x : Counting). x.counter) is_b))))

-- A counter among the registers of variables has its width.
pub counter_wide : (scene : Scene) (p : Placing) (count entities : ℕ) (registers : List Kind) (loop : Turning) → HaveKinds (program_seen scene.program.now) scene.held.now count entities registers → p.held ≡ scene.held.now → IsCounting scene p loop
    → loop.iterator < entities → first_among scene.held.now count loop.iterator ≡ counter_register scene loop → counter_register scene loop < first_among scene.held.now count (suc loop.iterator) → HasCounter scene registers loop
counter_wide scene p count entities registers loop kinds held h within first_is before =
    by (kinds.kinds loop.iterator (counter_register scene loop) within (subst (λ (n : ℕ). n ≤ counter_register scene loop) (sym first_is) (same (counter_register scene loop))) before)
  where
    same : (n : ℕ) → n ≤ n
    same n = omega arith

    by : HasRegisterKind (program_seen scene.program.now) scene.held.now registers loop.iterator (counter_register scene loop) → HasCounter scene registers loop
    by (k, (at, is)) =
        let wide = subst (λ (o : Option Counter). IsRegisterKind o (held_at scene.held.now loop.iterator).kind k) h.counted is in
        record {
          width = wide.0;
          there = at ∙ ap (λ (x : Kind). Some x) wide.1.0;
          wide = subst (λ (n : ℕ). n ≤ 2 ^ wide.0) (sym h.turns) wide.1.1.holds;
        }

-- so in a program whose variables have their registers in order
pub counter_has : (scene : Scene) (p : Placing) (ds : List Declaration) (entities count : ℕ) (registers : List Kind) (loop : Turning) → scene.held.now ≡ all_held ds 0 0 entities → count ≡ slots_counted ds 0 0 entities → p.held ≡ scene.held.now
    → p.factors loop.iterator ≡ declared_factors (declaration_in ds loop.iterator) → HaveKinds (program_seen scene.program.now) scene.held.now count (length scene.held.now) registers → IsCounting scene p loop → HasCounter scene registers loop
counter_has scene p ds entities count registers loop is counted held factors kinds h =
    counter_wide scene p count (length scene.held.now) registers loop kinds held h within (sym (first_at scene.held.now count loop.iterator within))
    (first_before ds entities scene.held.now count loop.iterator is counted within (subst (λ (fs : List ℕ). 1 ≤ copies_in fs) factors h.copies))
  where
    within : loop.iterator < length scene.held.now
    within = subst (λ (l : List VariableSlots). loop.iterator < length l) held h.there
