-- A name of a ready program is one of those that a block may see, at its place in a scene.
use Rattle.std.proofs.Common.{◌≡◌, ◌⊎◌, inl, inr, ℕ, zero, suc, ◌≤◌, ◌<◌, Bool, true, false, List, [], ◌∷◌, length, take, Some, refl, ap, sym, ◌∙◌, subst, arith}
use Rattle.std.specs.Prelude.{slice_get}
use Rattle.dh_value.specs.declared.kinds.Kind.{Kind}
use Rattle.dh_tree.specs.declared.trees.expressions.Ref.{Ref}
use Rattle.dh_tree.specs.Seen.{program_seen}
use Rattle.dh_meaning.specs.Bindings.{binding_in}
use Rattle.dh_meaning.specs.Core.{Turning}
use Rattle.dh_meaning.specs.CoreOf.{depth_of, entity_number}
use Rattle.dh_plan.specs.Correspondence.{Round, loops_round}
use Rattle.dh_sound.specs.Blocks.{factors}
use Rattle.dh_sound.specs.LoopsMatch.{AreSpared}
use Rattle.dh_sound.specs.NamesInScope.{InScope, is_variable, is_iterator}
use Rattle.dh_sound.specs.SameKeys.{IsIteratorName, IsNoIterator}
use Rattle.dh_code.specs.Declarations.{placing_of}
use Rattle.dh_code.specs.Slots.{held_at}
use Rattle.dh_code.specs.Suited.{IsInside}
use Rattle.dh_expressions.specs.declared.paths.Level.{Level}
use Rattle.dh_expressions.specs.declared.scenes.Scene.{Scene}
use Rattle.dh_expressions.specs.Evaluated.{counter_of, known_in}
use Rattle.dh_commands.specs.ShownVariables.{IsSeen, depth_in, level_factors}
use Rattle.dh_blocks.specs.NamedVariables.{IsOfRound, IsNamedHere}
use Rattle.dh_typed_blocks.specs.ScenesTold.{TellsScene, IsRoundTold, AreRoundsTold}
use Rattle.dh_typed_blocks.proofs.Fitting.{IsNamedIn, IsTargetIn}
use Rattle.dh_typed_blocks.specs.PlainPrograms.{IsPlainTarget}

counted_levels : (levels : List Level) → length (level_factors levels) ≡ length levels
counted_levels [] = refl
counted_levels (l ∷ ls) = ap suc (counted_levels ls)

same_some : {A : Type 0} (x y : A) → Some x ≡ Some y → x ≡ y
same_some x y e = cc

round_at : (rounds : List Round) (i : ℕ) (loop : Turning) → slice_get (loops_round rounds) i ≡ Some loop → (r : Round) × ((slice_get rounds i ≡ Some r) × (r.loop ≡ loop))
round_at [] i loop e = absurd cc
round_at (r ∷ rs) zero loop e = (r, (refl, same_some r.loop loop e))
round_at (r ∷ rs) (suc i) loop e = round_at rs i loop e

spared_at : (touched : ℕ → Bool) (loops : List Turning) (i : ℕ) (loop : Turning) → AreSpared touched loops → slice_get loops i ≡ Some loop → touched loop.iterator ≡ false
spared_at touched [] i loop h e = absurd cc
spared_at touched (l ∷ ls) zero loop h e = let same : l ≡ loop = cc in subst (λ (x : Turning). touched x.iterator ≡ false) same h.0
spared_at touched (l ∷ ls) (suc i) loop h e = spared_at touched ls i loop h.1 e

module _ (scene : Scene) (levels : List Level) (rounds : List Round) (tells : TellsScene scene) (top : level_factors levels ≡ factors (loops_round rounds)) where
  pub long_is : length levels ≡ length (factors (loops_round rounds))
  long_is = sym (counted_levels levels) ∙ ap length top

  deep_enough : (d m n : ℕ) → d ≤ m → n ≡ m → d ≤ n
  deep_enough d m n l e = omega (arith, l, e)

  -- a variable inside these loops is seen
  pub seen_here : (r : Ref) → IsInside (placing_of (program_seen scene.program.now)) (factors (loops_round rounds)) (depth_of (known_in scene) r) (entity_number r.entity) → IsPlainTarget (known_in scene) r → IsSeen scene levels (entity_number r.entity)
  seen_here r h plain = record {
    there = subst (λ (n : ℕ). entity_number r.entity < n) (sym tells.long) h.known;
    no_counter = tells.plain (entity_number r.entity) plain;
    deep = deep_enough (depth_in scene (entity_number r.entity)) (length (factors (loops_round rounds))) (length levels) h.deep long_is;
    held = tells.depth (entity_number r.entity) ∙ h.held;
    round = h.round ∙ ap (take (depth_in scene (entity_number r.entity))) (sym top);
  }

  -- what is assigned to inside all loops
  pub full_here : (r : Ref) → IsTargetIn (known_in scene) (placing_of (program_seen scene.program.now)) (loops_round rounds) (length (factors (loops_round rounds))) r → length levels ≤ depth_in scene (entity_number r.entity)
  full_here r h = subst (λ (n : ℕ). n ≤ depth_in scene (entity_number r.entity)) (sym long_is) h.full

  module _ (kinds : List Kind) (told : AreRoundsTold scene kinds rounds) (touched : ℕ → Bool) (spared : AreSpared touched (loops_round rounds))
      (inside : (entity : ℕ) → touched entity ≡ true → length (factors (loops_round rounds)) ≤ depth_in scene entity) where
    free_here : (entity : ℕ) → (touched entity ≡ false) ⊎ (length levels ≤ depth_in scene entity)
    free_here entity = by (touched entity) refl
      where
        by : (b : Bool) → touched entity ≡ b → (touched entity ≡ false) ⊎ (length levels ≤ depth_in scene entity)
        by true e = inr (subst (λ (n : ℕ). n ≤ depth_in scene entity) (sym long_is) (inside entity e))
        by false e = inl e

    round_here : (r : Ref) (k : Kind) (i : ℕ) (round : Round) → slice_get rounds i ≡ Some round → touched round.loop.iterator ≡ false → IsIteratorName (known_in scene) r round.loop → IsNamedIn (known_in scene) (placing_of (program_seen scene.program.now)) (loops_round rounds) r k
        → IsRoundTold scene kinds rounds i round → IsOfRound scene kinds rounds touched r k
    round_here r k i round at left it h t =
        let number : entity_number r.entity ≡ round.loop.iterator = ap entity_number it.entity in
        record {
          index = i;
          round = round;
          there = at;
          is = it;
          counter = t.counter;
          counted = ap (λ (n : ℕ). counter_of scene n) number ∙ t.counted;
          left = left;
          integer = h.integer round.loop it;
          low = t.low;
          factor = t.factor;
          count = t.count;
          register_is = ap (λ (n : ℕ). (held_at scene.held.now n).first) number ∙ t.register_is;
          held_depth = ap (λ (n : ℕ). (held_at scene.held.now n).depth) number ∙ t.held_depth;
          depth = t.depth;
          width = t.width;
          kind_is = t.kind_is;
        }

    -- a name is a variable that is seen, or the iterator of a loop round the block
    pub named_here : (r : Ref) (k : Kind) → IsNamedIn (known_in scene) (placing_of (program_seen scene.program.now)) (loops_round rounds) r k → IsNamedHere scene levels kinds rounds touched r k
    named_here r k h = by h.scope
      where
        by : InScope (known_in scene) (loops_round rounds) r → IsNamedHere scene levels kinds rounds touched r k
        by (is_variable e is none) =
            let number : entity_number r.entity ≡ e = ap entity_number is in
            let plain : IsPlainTarget (known_in scene) r = subst (λ (n : ℕ). IsNoIterator (binding_in (known_in scene).bindings n)) (sym number) none in
            inl (record { is = h.is; seen = seen_here r h.inside plain; kind_is = tells.kind (entity_number r.entity) ∙ h.bound; binding = plain; free = free_here (entity_number r.entity) })
        by (is_iterator i loop at it) =
            let round = round_at rounds i loop at in
            inr (round_here r k i round.0 round.1.0
            (subst (λ (l : Turning). touched l.iterator ≡ false) (sym round.1.1) (spared_at touched (loops_round rounds) i loop spared at))
            (subst (λ (l : Turning). IsIteratorName (known_in scene) r l) (sym round.1.1) it) h (told i round.0 round.1.0))
