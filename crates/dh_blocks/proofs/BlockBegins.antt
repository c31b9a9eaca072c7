-- A block as it begins: its words solve the equations of what was put down, and all stands beside the program's variables.
use Rattle.std.proofs.Common.{◌≡◌, ℕ, zero, suc, ◌+◌, ◌-◌, ◌<◌, ◌≤◌, List, [], ◌∷◌, length, drop, replicate, Option, Some, None, refl, ap, sym, ◌∙◌, subst, arith}
use Rattle.std.specs.Prelude.{slice_get, slice_index}
use Rattle.std.proofs.lemmas.List.{length-replicate}
use Rattle.dh_value.specs.Words.{word_of}
use Rattle.dh_meaning.specs.Effects.{Variables}
use Rattle.dh_plan.specs.declared.operations.Operation.{Operation}
use Rattle.dh_plan.specs.Blocks.{block_events, in_memories, operation_word, word_at}
use Rattle.dh_plan.specs.Correspondence.{Round, StandFor}
use Rattle.dh_plan.specs.PlainPlans.{PlainPlan, first_in, operations_in}
use Rattle.dh_plan.proofs.BlocksSolved.{has_one_solution}
use Rattle.dh_plan.proofs.ValuesAlike.{memories_look_back}
use Rattle.dh_code.specs.Slots.{held_at}
use Rattle.dh_code.proofs.Ranges.{drop_past}
use Rattle.dh_expressions.specs.declared.scenes.Around.{Around}
use Rattle.dh_expressions.specs.declared.scenes.Scene.{Scene}
use Rattle.dh_expressions.specs.Drafted.{BlockBegun, FitsStep, BlockStep, word_shown, told_block}
use Rattle.dh_expressions.specs.Evaluated.{shown_by}
use Rattle.dh_expressions.specs.Shown.{current_shown, register_as_begun, variable_shown}
use Rattle.dh_expressions.proofs.ListPlaces.{some_same}
use Rattle.dh_expressions.proofs.Pushing.{in_front}
use Rattle.dh_commands.specs.declared.buildings.Building.{Building}
use Rattle.dh_commands.specs.LanesRun.{lane_of, paths_counted}
use Rattle.dh_commands.specs.ShownVariables.{ArePlaced, IsSeen, ShowsVariables, register_in, seen_path}
use Rattle.dh_commands.specs.Undone.{AreReady, given_at}
use Rattle.dh_commands.specs.Done.{StandsBeside}
use Rattle.dh_blocks.specs.FoundAccesses.{Found}
use Rattle.dh_blocks.specs.ChosenReads.{AreBare, chosen_reads}
use Rattle.dh_blocks.specs.BlockGround.{IsGround}
use Rattle.dh_blocks.specs.BlockMade.{IsPut, IsTop, effect_begun, step_of_block}
use Rattle.dh_blocks.specs.SlotsOfScene.{HoldsVariables, slots_in}
use Rattle.dh_blocks.proofs.PathNumbers.{some_copies}
use Rattle.dh_blocks.proofs.ReadsBegin.{knows_first}
use Rattle.dh_blocks.proofs.VariablesPlaced.{are_placed, copy_path, register_slot, register_small, slot_is}

get_dropped : {A : Type 0} (xs : List A) (k n : ℕ) → k ≤ n → slice_get (drop k xs) (n - k) ≡ slice_get xs n
get_dropped xs zero n h = ap (λ m. slice_get xs m) (none n)
  where
    none : (n : ℕ) → n - 0 ≡ n
    none n = omega arith
get_dropped [] (suc k) n h = refl
get_dropped (x ∷ xs) (suc k) zero h = absurd (never k h)
  where
    never : (k : ℕ) → suc k ≤ 0 → ⊥
    never k h = omega (arith, h)
get_dropped (x ∷ xs) (suc k) (suc n) h = ap (λ m. slice_get (drop k xs) m) (one n k) ∙ get_dropped xs k n (less k n h)
  where
    one : (n k : ℕ) → suc n - suc k ≡ n - k
    one n k = omega arith

    less : (k n : ℕ) → suc k ≤ suc n → k ≤ n
    less k n h = omega (arith, h)

-- a register without a value shows what it held
pub none_shown : (x : BlockStep) (current : List (Option ℕ)) (r : ℕ) → given_at current r ≡ None → variable_shown x current r ≡ register_as_begun x r
none_shown x current r e = by (slice_get current r) refl
  where
    at : (xs : List (Option ℕ)) (n : ℕ) (o : Option ℕ) → slice_get xs n ≡ Some o → given_at xs n ≡ o
    at [] n o e = absurd (cc)
    at (y ∷ xs) zero o e = some_same y o e
    at (y ∷ xs) (suc n) o e = at xs n o e

    by : (o : Option (Option ℕ)) → slice_get current r ≡ o → variable_shown x current r ≡ register_as_begun x r
    by None is = ap (λ o. current_shown x o r) is
    by (Some None) is = ap (λ o. current_shown x o r) is
    by (Some (Some v)) is = absurd (never v (sym (at current r (Some v) is) ∙ e))
      where
        never : (v : ℕ) → Some v ≡ None → ⊥
        never v h = cc

-- and one with a value shows that
pub some_shown : (x : BlockStep) (current : List (Option ℕ)) (r v : ℕ) → given_at current r ≡ Some v → variable_shown x current r ≡ word_shown x v
some_shown x current r v e = ap (λ o. current_shown x o r) (at current r e)
  where
    at : (xs : List (Option ℕ)) (n : ℕ) → given_at xs n ≡ Some v → slice_get xs n ≡ Some (Some v)
    at [] n e = absurd (cc)
    at (y ∷ xs) zero e = ap Some e
    at (y ∷ xs) (suc n) e = at xs n e

nothing_given : (n r : ℕ) → given_at (replicate n None) r ≡ None
nothing_given zero r = refl
nothing_given (suc n) zero = refl
nothing_given (suc n) (suc r) = nothing_given n r

nothing_marked : (n r : ℕ) → slice_index (replicate n 0) r ≡ 0
nothing_marked zero r = refl
nothing_marked (suc n) zero = refl
nothing_marked (suc n) (suc r) = nothing_marked n r

module _ (scene : Scene) (around : Around) (plan : PlainPlan) (count : ℕ) (rounds : List Round) (holds : HoldsVariables scene plan count) (top : IsTop rounds around) where
  pub placed_here : ArePlaced scene around
  placed_here = are_placed scene around count holds.placing holds.small top.spread top.counted

  pub paths_here : 0 < paths_counted around
  paths_here = subst (λ (n : ℕ). 0 < n) (sym top.counted) (some_copies around.levels.now top.spread)

  pub ground_here : IsGround scene around
  ground_here = record { scopes = holds.scopes; low = top.low; spread = top.spread; counted = top.counted; one = λ e i j s h g same. placed_here.one e i j s h g same }

  pub slot_here : (e i : ℕ) → IsSeen scene around.levels.now e → i < paths_counted around → slots_in scene e (seen_path scene around e i) ≡ Some (register_in scene around e i)
  slot_here e i s h =
      slot_is scene e (seen_path scene around e i) s.there s.no_counter (copy_path scene around count holds.placing holds.small top.spread top.counted e i s h)
      ∙ ap Some (sym (register_slot scene around count holds.placing holds.small top.spread top.counted e i s h))

module _ (plan : PlainPlan) (count block : ℕ) (old new : Building) (more : List Operation) (put : IsPut plan count block old new more) (registers : List ℕ) (memories : List (List ℕ)) where
  abbrev x : BlockStep
  x = step_of_block plan block registers memories

  pub fits_here : FitsStep x new.draft
  fits_here = record {
    solves = λ n o low at.
        let there : slice_get (operations_in plan block) (n - first_in plan block) ≡ Some o =
        ap (λ os. slice_get os (n - first_in plan block)) put.operations
        ∙ in_front (drop (length old.draft.operations.items) new.draft.operations.items) more (n - first_in plan block) o
        (ap (λ k. slice_get (drop k new.draft.operations.items) (n - first_in plan block)) (sym put.first) ∙ (get_dropped new.draft.operations.items (first_in plan block) n low ∙ at)) in
        subst (λ (m : ℕ). word_at x.first x.words m ≡ operation_word x.start (in_memories x.start x.first) x.first x.words m o) (whole n (first_in plan block) low)
        ((has_one_solution x.start (in_memories x.start x.first) x.first (memories_look_back x.start x.first) (operations_in plan block) put.ordered).solves.solve.each (n - first_in plan block) o there);
    names = put.faults;
    few = put.few;
  }
    where
      whole : (n k : ℕ) → k ≤ n → k + (n - k) ≡ n
      whole n k h = omega (arith, h)

  pub begun_here : BlockBegun x old.draft
  begun_here = subst (λ (n : ℕ). first_in plan block ≤ n) put.first (same (first_in plan block))
    where
      same : (n : ℕ) → n ≤ n
      same n = omega arith

module _ (scene : Scene) (around : Around) (plan : PlainPlan) (count block : ℕ) (rounds : List Round) (old new : Building) (more : List Operation) (put : IsPut plan count block old new more)
    (holds : HoldsVariables scene plan count) (top : IsTop rounds around)
    (registers : List ℕ) (memories : List (List ℕ)) (variables : Variables) (st : StandFor plan.registers (slots_in scene) rounds registers variables) where
  none_given : (r : ℕ) → given_at old.values.current.items r ≡ None
  none_given r = ap (λ l. given_at l r) put.none.current ∙ nothing_given count r

  abbrev step : BlockStep
  step = step_of_block plan block registers memories

  shows_first : ShowsVariables scene around step old.values.current.items variables
  shows_first = record {
    each = λ e i s h on.
        ap (λ o. shown_by step o (held_at scene.held.now e) (lane_of around i) old.values.current.items (held_at scene.held.now e).kind) s.no_counter
        ∙ (none_shown step old.values.current.items (register_in scene around e i) (none_given (register_in scene around e i))
        ∙ (st.holding e (seen_path scene around e i) (register_in scene around e i) (slot_here scene around plan count rounds holds top e i s h)
        ∙ ap (λ k. word_of k (variables e (seen_path scene around e i))) (holds.kinds e (seen_path scene around e i) (register_in scene around e i) (slot_here scene around plan count rounds holds top e i s h))));
  }

  ready : AreReady old.values
  ready = record {
    unmarked = λ r. ap (λ (l : List ℕ). slice_index l r) put.none.marks ∙ nothing_marked count r;
    long = ap length put.none.marks ∙ (length-replicate count 0 ∙ sym (ap length put.none.current ∙ length-replicate count None));
  }

  module _ (find : ℕ → Option Found) (bare : AreBare find old.accesses) where
    pub stands_here : StandsBeside scene around step (chosen_reads step find old.accesses) old (effect_begun variables)
    stands_here = record {
      knows = knows_first step find old.accesses put.laid put.counts bare;
      shows = shows_first;
      tells = ap (λ (os : List Operation). told_block step.named (block_events step.start step.first step.words os))
          (ap (λ k. drop k old.draft.operations.items) put.first ∙ drop_past old.draft.operations.items (length old.draft.operations.items) (same (length old.draft.operations.items)));
      room = λ e i s h.
          subst (λ (n : ℕ). register_in scene around e i < n) (sym (ap length put.none.current ∙ length-replicate count None))
          (register_small scene around count holds.placing holds.small top.spread top.counted e i s h);
      ready = ready;
    }
      where
        same : (n : ℕ) → n ≤ n
        same n = omega arith
