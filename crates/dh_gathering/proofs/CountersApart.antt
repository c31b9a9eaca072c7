-- The counter of a loop is the register of no variable, nor the counter of a loop round it, since the registers of two
-- entities are apart. By induction on phases and their nodes.
use Rattle.std.proofs.Common.{◌≡◌, ◌⊎◌, inl, inr, ℕ, ◌+◌, ◌<◌, ◌≤◌, List, [], ◌∷◌, ◌++◌, Some, None, ap, sym, ◌∙◌, subst, arith}
use Rattle.dh_meaning.specs.Core.{CorePhase, straightly, turning, looping, choosing, CorePhases, no_core_phases, phase_and, Turning}
use Rattle.dh_meaning.specs.Paths.{Path}
use Rattle.dh_code.specs.declared.places.VariableSlots.{VariableSlots}
use Rattle.dh_code.specs.Ranks.{copies_in}
use Rattle.dh_code.specs.Slots.{EndsBefore, IsPlacing, Placing, held_at, slot_of}
use Rattle.dh_code.proofs.SlotsHeld.{slot_below}
use Rattle.dh_plan.specs.Correspondence.{Round, Slots}
use Rattle.dh_plan.specs.PlainPlans.{Node, block_node, turns_node, loop_node, choice_node, threads_node, Nodes, no_nodes, node_then}
use Rattle.dh_plan.specs.PlanPhases.{AreNodesOf, IsCounterOf, IsIteratorOf, IsLoopRegister, IsNodeOf}
use Rattle.dh_expressions.specs.declared.scenes.Scene.{Scene}
use Rattle.dh_expressions.specs.Evaluated.{counter_of}
use Rattle.dh_gathering.specs.declared.blocks.Made.{Made}
use Rattle.dh_gathering.specs.MadeBlocks.{counter_register, made_tie}
use Rattle.dh_gathering.specs.LoopCounters.{AreCounting, AreSlotsBy, IsCounting, IsSlotOf, LoopsCount, LoopsCountIn, apart_counters}

module _ (scene : Scene) (p : Placing) (slots : Slots) (count : ℕ) (by_slots : AreSlotsBy scene p slots) (placing : IsPlacing p count) where
  first_of : (loop : Turning) → counter_register scene loop ≡ (held_at p.held loop.iterator).first
  first_of loop = ap (λ (l : List VariableSlots). (held_at l loop.iterator).first) (sym by_slots.held)

  below_first : (a n b s : ℕ) → a + n ≤ b → s < a + n → s ≡ b → ⊥
  below_first a n b s e l is = omega (arith, e, l, is)

  above_first : (a n b r : ℕ) → a + n ≤ b → 1 ≤ n → b + r ≡ a → ⊥
  above_first a n b r e l is = omega (arith, e, l, is)

  same_first : (a n b : ℕ) → a + n ≤ b → 1 ≤ n → b ≡ a → ⊥
  same_first a n b e l is = omega (arith, e, l, is)

  -- a variable's register is none of an iterator's counter
  apart_variable : (loop : Turning) → IsCounting scene p loop → (entity : ℕ) (path : Path) → slots entity path ≡ Some (counter_register scene loop) → ⊥
  apart_variable loop h entity path at = by (placing.apart entity loop.iterator s.there h.there other)
    where
      s : IsSlotOf scene p entity path (counter_register scene loop)
      s = by_slots.variables entity path (counter_register scene loop) at

      differ : None ≡ Some h.counter → ⊥
      differ e = absurd cc

      other : entity ≡ loop.iterator → ⊥
      other e = differ (sym s.no_counter ∙ (ap (λ (n : ℕ). counter_of scene n) e ∙ h.counted))

      is : slot_of p entity path ≡ (held_at p.held loop.iterator).first
      is = sym s.is ∙ first_of loop

      by : EndsBefore p entity loop.iterator ⊎ EndsBefore p loop.iterator entity → ⊥
      by (inl before) = below_first (held_at p.held entity).first (copies_in (p.factors entity)) (held_at p.held loop.iterator).first (slot_of p entity path) before (slot_below p entity path s.path_is) is
      by (inr behind) = above_first (held_at p.held loop.iterator).first (copies_in (p.factors loop.iterator)) (held_at p.held entity).first _ behind h.copies is

  -- nor are the counters of two iterators one
  pub apart_loops : (a b : Turning) → IsCounting scene p a → IsCounting scene p b → (a.iterator ≡ b.iterator → ⊥) → counter_register scene a ≡ counter_register scene b → ⊥
  apart_loops a b h k other e = by (placing.apart a.iterator b.iterator h.there k.there other)
    where
      is : (held_at p.held a.iterator).first ≡ (held_at p.held b.iterator).first
      is = sym (first_of a) ∙ (e ∙ first_of b)

      by : EndsBefore p a.iterator b.iterator ⊎ EndsBefore p b.iterator a.iterator → ⊥
      by (inl before) = same_first (held_at p.held a.iterator).first (copies_in (p.factors a.iterator)) (held_at p.held b.iterator).first before h.copies (sym is)
      by (inr behind) = same_first (held_at p.held b.iterator).first (copies_in (p.factors b.iterator)) (held_at p.held a.iterator).first behind k.copies is

  apart_rounds : (rounds : List Round) (loop : Turning) → AreCounting scene p rounds → IsCounting scene p loop → (IsIteratorOf rounds loop.iterator → ⊥) → IsCounterOf rounds (counter_register scene loop) → ⊥
  apart_rounds [] loop all h own e = absurd e
  apart_rounds (r ∷ rounds) loop all h own (inl e) = apart_loops r.loop loop all.0.0 h (λ same. own (inl same)) (sym all.0.1 ∙ e)
  apart_rounds (r ∷ rounds) loop all h own (inr e) = apart_rounds rounds loop all.1 h (λ same. own (inr same)) e

  pub loop_register : (rounds : List Round) (loop : Turning) → AreCounting scene p rounds → IsCounting scene p loop → (IsIteratorOf rounds loop.iterator → ⊥) → IsLoopRegister slots rounds loop (counter_register scene loop)
  loop_register rounds loop all h own = record {
    iterator = λ path. by_slots.iterators loop.iterator path h.counter h.counted;
    counter_apart = apart_variable loop h;
    own_counter = apart_rounds rounds loop all h own;
    own_iterator = own;
  }

  counting_more : (rounds : List Round) (r : Round) → AreCounting scene p rounds → IsCounting scene p r.loop → r.counter ≡ counter_register scene r.loop → AreCounting scene p (rounds ++ r ∷ [])
  counting_more [] r all h is = ((h, is), tt)
  counting_more (x ∷ rounds) r all h is = (all.0, counting_more rounds r all.1 h is)

  module _ (final : Made) where
    mutual
      pub loops_apart : (rounds : List Round) (qs : CorePhases) (ns : Nodes) → AreCounting scene p rounds → LoopsCount scene p rounds qs → AreNodesOf (made_tie scene final) rounds qs ns → AreNodesOf (apart_counters slots) rounds qs ns
      loops_apart rounds no_core_phases no_nodes all loops h = tt
      loops_apart rounds no_core_phases (node_then n ns) all loops h = absurd h
      loops_apart rounds (phase_and q qs) no_nodes all loops h = absurd h
      loops_apart rounds (phase_and q qs) (node_then n ns) all loops h = (loop_apart rounds q n all loops.0 h.0, loops_apart rounds qs ns all loops.1 h.1)

      loop_apart : (rounds : List Round) (q : CorePhase) (n : Node) → AreCounting scene p rounds → LoopsCountIn scene p rounds q → IsNodeOf (made_tie scene final) rounds q n → IsNodeOf (apart_counters slots) rounds q n
      loop_apart rounds (straightly cs) (block_node block) all loops h = tt
      loop_apart rounds (straightly cs) (turns_node counter turns ms) all loops h = absurd h
      loop_apart rounds (straightly cs) (loop_node block flag ms) all loops h = absurd h
      loop_apart rounds (straightly cs) (choice_node block flag ms os) all loops h = absurd h
      loop_apart rounds (straightly cs) (threads_node lists) all loops h = absurd h
      loop_apart rounds (turning loop body) (block_node block) all loops h = absurd h
      loop_apart rounds (turning loop body) (turns_node counter turns ms) all loops h = (
        h.0,
        (
          subst (λ (n : ℕ). IsLoopRegister slots rounds loop n) (sym h.1.0) (loop_register rounds loop all loops.0 loops.1.0),
          loops_apart (rounds ++ record { loop = loop; counter = counter } ∷ []) body ms (counting_more rounds (record { loop = loop; counter = counter }) all loops.0 h.1.0)
              (subst (λ (n : ℕ). LoopsCount scene p (rounds ++ record { loop = loop; counter = n } ∷ []) body) (sym h.1.0) loops.1.1) h.1.1,
        ),
      )
      loop_apart rounds (turning loop body) (loop_node block flag ms) all loops h = absurd h
      loop_apart rounds (turning loop body) (choice_node block flag ms os) all loops h = absurd h
      loop_apart rounds (turning loop body) (threads_node lists) all loops h = absurd h
      loop_apart rounds (looping test body) (block_node block) all loops h = absurd h
      loop_apart rounds (looping test body) (turns_node counter turns ms) all loops h = absurd h
      loop_apart rounds (looping test body) (loop_node block flag ms) all loops h = (tt, loops_apart rounds body ms all loops h.1)
      loop_apart rounds (looping test body) (choice_node block flag ms os) all loops h = absurd h
      loop_apart rounds (looping test body) (threads_node lists) all loops h = absurd h
      loop_apart rounds (choosing test chosen other) (block_node block) all loops h = absurd h
      loop_apart rounds (choosing test chosen other) (turns_node counter turns ms) all loops h = absurd h
      loop_apart rounds (choosing test chosen other) (loop_node block flag ms) all loops h = absurd h
      loop_apart rounds (choosing test chosen other) (choice_node block flag ms os) all loops h = (tt, (loops_apart rounds chosen ms all loops.0 h.1.0, loops_apart rounds other os all loops.1 h.1.1))
      loop_apart rounds (choosing test chosen other) (threads_node lists) all loops h = absurd h
