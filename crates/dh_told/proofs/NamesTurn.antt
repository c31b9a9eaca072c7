-- A name in an expression of a block that is the iterator of a loop is in a turn of it, as its counter tells.
use Rattle.std.proofs.Common.{◌≡◌, inl, inr, ℕ, zero, suc, ◌<◌, List, Option, Some, None, sym, ap, ◌∙◌, subst}
use Rattle.std.specs.Prelude.{Bool, true, false, if◌then◌else◌, [], ◌∷◌, nat_lt, slice_get, slice_index}
use Rattle.std.specs.List.{AllByRecursion}
use Rattle.dh_value.specs.declared.kinds.Kind.{Kind}
use Rattle.dh_tree.specs.declared.trees.counters.Counter.{Counter}
use Rattle.dh_tree.specs.declared.trees.expressions.Ref.{Ref}
use Rattle.dh_tree.specs.Counters.{counter_in, counters_of}
use Rattle.dh_tree.specs.Memories.{same_entity}
use Rattle.dh_tree.specs.Seen.{program_seen}
use Rattle.dh_meaning.specs.CoreOf.{entity_number}
use Rattle.dh_meaning.specs.Phases.{turn_count}
use Rattle.dh_plan.specs.Blocks.{kind_at}
use Rattle.dh_plan.specs.Correspondence.{Round}
use Rattle.dh_plan.specs.PlainPlans.{PlainPlan}
use Rattle.dh_code.specs.Slots.{held_at}
use Rattle.dh_sound.specs.IndexValues.{HasCopy}
use Rattle.dh_sound.proofs.TurnsOfIndices.{counter_entity}
use Rattle.dh_expressions.specs.declared.paths.Level.{Level}
use Rattle.dh_expressions.specs.declared.scenes.Scene.{Scene}
use Rattle.dh_expressions.specs.Evaluated.{counter_of}
use Rattle.dh_expressions.specs.ReachedBanks.{level_with}
use Rattle.dh_expressions.proofs.ListPlaces.{some_same}
use Rattle.dh_blocks.specs.BlockMade.{step_of_block}
use Rattle.dh_blocks.specs.NamedVariables.{IsNamedHere, IsOfRound}
use Rattle.dh_gathering.specs.MadeBlocks.{AreWithin}
use Rattle.dh_typed_blocks.specs.ScenesTold.{AreRoundsTold, TellsScene}
use Rattle.dh_reached.specs.IndicesKept.{CounterTurns, NameTurns}
use Rattle.dh_reached.specs.StepsOfNodes.{InTurns}
use Rattle.dh_told.proofs.LevelsOfRounds.{level_of}

in_turn : (registers : List ℕ) (rounds : List Round) (index : ℕ) (r : Round) → InTurns registers rounds → slice_get rounds index ≡ Some r → slice_index registers r.counter < r.loop.count
in_turn registers [] index r h at = absurd (cc)
in_turn registers (x ∷ rounds) zero r h at = subst (λ (q : Round). slice_index registers q.counter < q.loop.count) (some_same x r at) h.0
in_turn registers (x ∷ rounds) (suc index) r h at = in_turn registers rounds index r h.1 at

counter_has : (P : Counter → Type 0) (cs : List Counter) (entity : Option ℕ) (c : Counter) → AllByRecursion P cs → counter_in cs entity ≡ Some c → P c
counter_has P [] entity c h at = absurd (cc)
counter_has P (x ∷ cs) entity c h at = by (same_entity x.entity entity) at (λ e. counter_has P cs entity c h.1 e)
  where
    by : (b : Bool) → (if b then Some x else counter_in cs entity) ≡ Some c → (counter_in cs entity ≡ Some c → P c) → P c
    by true e more = subst P (some_same x c e) h.0
    by false e more = more e

module _ (scene : Scene) (plan : PlainPlan) (block : ℕ) (registers : List ℕ) (memories : List (List ℕ)) (rounds : List Round) (levels : List Level) (paths : ℕ)
    (tells : TellsScene scene) (told : AreRoundsTold scene plan.registers rounds) (within : AreWithin [] 1 rounds levels paths) (copies : AllByRecursion HasCopy (counters_of (program_seen scene.program.now))) (turns : InTurns registers rounds) where
  of_round : (touched : ℕ → Bool) (r : Ref) (k : Kind) → IsOfRound scene plan.registers rounds touched r k → (c : Counter) → counter_of scene (entity_number r.entity) ≡ Some c
      → CounterTurns (step_of_block plan block registers memories) c (held_at scene.held.now (entity_number r.entity)) levels
  of_round touched r k h c counted = subst (λ (d : Counter). CounterTurns (step_of_block plan block registers memories) d (held_at scene.held.now (entity_number r.entity)) levels) (some_same h.counter c (sym h.counted ∙ counted)) own
    where
      factor_is : (b : Bool) → nat_lt 1 h.counter.factor ≡ b → nat_lt 1 h.round.loop.factor ≡ b
      factor_is b e = ap (λ (n : ℕ). nat_lt 1 n) h.factor ∙ e

      iterator_is : h.counter.entity ≡ Some h.round.loop.iterator
      iterator_is = counter_entity (counters_of (program_seen scene.program.now)) (Some (entity_number r.entity)) h.counter h.counted ∙ ap (λ (o : Option ℕ). Some (entity_number o)) h.is.entity

      own : CounterTurns (step_of_block plan block registers memories) h.counter (held_at scene.held.now (entity_number r.entity)) levels
      own = record {
        width = h.width;
        counter = ap (λ (n : ℕ). kind_at plan.registers n) h.register_is ∙ h.kind_is;
        below =
            subst (λ (n : ℕ). slice_index registers n < turn_count h.counter.low h.counter.high h.counter.factor) (sym h.register_is)
            (subst (λ (n : ℕ). slice_index registers h.round.counter < n) h.count (in_turn registers rounds h.index h.round turns h.there));
        copies = counter_has HasCopy (counters_of (program_seen scene.program.now)) (Some (entity_number r.entity)) h.counter copies h.counted;
        deep = λ many.
            h.held_depth
            ∙ ((level_of scene plan.registers rounds levels paths told within h.index h.round h.there (factor_is true many)).depth ∙ ap (λ (o : Option ℕ). suc (level_with levels o)) (sym iterator_is));
        level = λ many.
            let l = (level_of scene plan.registers rounds levels paths told within h.index h.round h.there (factor_is true many)).level in
            (l.0, (ap (λ (o : Option ℕ). slice_get levels (level_with levels o)) iterator_is ∙ l.1.0, l.1.1 ∙ h.factor));
      }

  pub names_turn : (touched : ℕ → Bool) (r : Ref) (k : Kind) → IsNamedHere scene levels plan.registers rounds touched r k → NameTurns (step_of_block plan block registers memories) scene levels r
  names_turn touched r k (inl h) = record {
    entity = entity_number r.entity;
    resolved = h.is;
    turns = λ c counted. absurd (never c (sym (tells.plain (entity_number r.entity) h.binding) ∙ counted));
  }
    where
      never : (c : Counter) → None ≡ Some c → ⊥
      never c e = cc
  names_turn touched r k (inr h) = record {
    entity = entity_number r.entity;
    resolved = h.is.entity ∙ ap (λ (o : Option ℕ). Some (entity_number o)) (sym h.is.entity);
    turns = of_round touched r k h;
  }
