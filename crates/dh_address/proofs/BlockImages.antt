-- Each block that the pass makes, in front of which all blocks before stand, is known piece by piece; and it does in a step
-- of the plan what the old one does.
use Rattle.std.proofs.Common.{◌≡◌, ℕ, zero, suc, ◌+◌, ◌<◌, ◌≤◌, inl, Some, List, length, refl, sym, ap, subst, ◌∙◌, arith}
use Rattle.std.specs.Prelude.{[], ◌∷◌, ◌++◌, slice_get, slice_index}
use Rattle.std.specs.List.{AllByRecursion}
use Rattle.std.proofs.lemmas.List.{append_assoc, length-append}
use Rattle.dh_tree.specs.Tables.{Fits}
use Rattle.dh_plan.specs.declared.operations.Operation.{Operation}
use Rattle.dh_plan.specs.declared.operations.PlanBlock.{PlanBlock}
use Rattle.dh_plan.specs.AlikeRuns.{DoesAlike, BlocksDoAlike}
use Rattle.dh_plan.specs.Blocks.{all_set}
use Rattle.dh_plan.specs.Correspondence.{FitKinds}
use Rattle.dh_plan.specs.DoneProgram.{BlocksDoTheSame, RunTheSame}
use Rattle.dh_plan.specs.PlainPlans.{PlainPlan, operations_before, block_operations, first_in, operations_in}
use Rattle.dh_plan.specs.SoundPlans.{Counting, IsStepOf, IsSound, IsFormed}
use Rattle.dh_plan.proofs.FittingValues.{plan_values_fit}
use Rattle.dh_plan.proofs.SameStates.{plans_run_alike}
use Rattle.dh_address.proofs.WaySizes.{HasMaps}
use Rattle.dh_address.specs.Images.{operations_until, around_block, ArePieces, IsBlockImage, IsImage}
use Rattle.dh_address.proofs.EventsAlike.{block_so}
use Rattle.dh_address.proofs.GoodPieces.{AreGoodPieces}
use Rattle.dh_address.proofs.KnownPieces.{IsKnown, AllKnown, all_known}
use Rattle.dh_address.proofs.PieceForms.{image_of}
use Rattle.dh_address.proofs.WordsPass.{ReachesListed, SameWord, words_alike}

-- the plan that was made has these blocks, and all else of the old one
pub image_is : (p q : PlainPlan) → IsImage p q → image_of p q.blocks ≡ q
image_is p q h = λ i. record {
  table = sym h.table i;
  views = sym h.views i;
  registers = sym h.registers i;
  blocks = q.blocks;
  body = sym h.body i;
  meets = sym h.meets i;
  faults = sym h.faults i;
}

-- Numbers of blocks.

until_long : (bs : List PlanBlock) (n : ℕ) → length (operations_until bs n) ≡ operations_before bs n
until_long [] n = refl
until_long (b ∷ bs) zero = refl
until_long (b ∷ bs) (suc n) = length-append b.operations (operations_until bs n) ∙ ap (λ (k : ℕ). length b.operations + k) (until_long bs n)

until_none : (bs : List PlanBlock) → operations_until bs 0 ≡ []
until_none [] = refl
until_none (b ∷ bs) = refl

nothing_more : (os : List Operation) → os ++ [] ≡ os
nothing_more [] = refl
nothing_more (o ∷ os) = ap (λ (ps : List Operation). o ∷ ps) (nothing_more os)

until_next : (bs : List PlanBlock) (n : ℕ) → operations_until bs (suc n) ≡ operations_until bs n ++ block_operations (slice_get bs n)
until_next [] n = nothing n
  where
    nothing : (n : ℕ) → [] ≡ block_operations (slice_get [] n)
    nothing zero = refl
    nothing (suc n) = refl
until_next (b ∷ bs) zero = ap (λ (os : List Operation). b.operations ++ os) (until_none bs) ∙ nothing_more b.operations
until_next (b ∷ bs) (suc n) = ap (λ (os : List Operation). b.operations ++ os) (until_next bs n) ∙ sym (append_assoc b.operations (operations_until bs n) _)

module _ (p : PlainPlan) (maps : HasMaps p) (sound : IsFormed p) (bs : List PlanBlock) (block : ℕ) where
  abbrev pub front : List Operation
  front = operations_until bs block

  pub begins : length front ≡ first_in (image_of p bs) block
  begins = until_long bs block

  -- as the block begins nothing is known
  first_known : IsKnown p maps sound.table bs block front begins (sound.blocks block) [] [] 0 (operations_in p block) front
  first_known = record {
    there = λ j o e. subst (λ (k : ℕ). slice_get (operations_in p block) k ≡ Some o) (nothing j) e;
    numbers_long = refl;
    kinds_long = refl;
    kinds_rest = refl;
    begun = (let b = begins in omega (arith, b));
    all_formed = λ n o l m there. absurd (before n l m begins);
    each = λ v l m h. absurd (past v l m);
  }
    where
      nothing : (j : ℕ) → j ≡ 0 + j
      nothing j = omega arith

      before : (n : ℕ) → first_in (image_of p bs) block ≤ n → n < length front → length front ≡ first_in (image_of p bs) block → ⊥
      before n l m b = omega (arith, l, m, b)

      past : (v : ℕ) → first_in p block ≤ v → v < first_in p block + 0 → ⊥
      past v l m = omega (arith, l, m)

  pub record IsKnownBlock : Type 0 where
    pub numbers : List ℕ
    pub known : AllKnown p maps sound.table bs block front begins (sound.blocks block) numbers [] [] 0 (operations_in p block) front

  pub block_known : IsBlockImage p bs block → IsKnownBlock
  block_known h = record {
    numbers = h.numbers;
    known = all_known p maps sound.table bs block front begins (sound.blocks block) (operations_in p block) [] [] 0 front h.numbers
        (subst (λ (os : List Operation). ArePieces p.registers (around_block p block) (operations_in p block) front os h.numbers) (until_next bs block) h.pieces) first_known;
  }

-- Steps.

module _ (p : PlainPlan) (maps : HasMaps p) (sound : IsSound p) (bs : List PlanBlock) (images : (block : ℕ) → IsBlockImage p bs block) where
  abbrev known : (block : ℕ) → IsKnownBlock p maps sound.formed bs block
  known block = block_known p maps sound.formed bs block (images block)

  module _ (block : ℕ) (loops : List Counting) (step : IsStepOf [] p.body (block ∷ []) loops) (registers : List ℕ) (memories : List (List ℕ)) (fit : FitKinds p.registers registers) (fits : Fits p.table memories)
      (turns : AllByRecursion (λ c. slice_index registers c.counter < c.turns) loops) where
    -- accesses reach banks of their lists
    pub listed_in_step : ReachesListed p maps sound.formed.table bs block (front p maps sound.formed bs block) (begins p maps sound.formed bs block) (sound.formed.blocks block) (known block).known.all_formed registers memories
    listed_in_step i o r spot there uses on leads =
        (sound.steps (block ∷ []) loops step registers memories fit fits turns).listed block i r spot
        (record { active = inl refl; operation = o; there = there; uses = uses; on = on; leads = leads })

    pub words_in_step : AreGoodPieces p maps sound.formed.table bs block (front p maps sound.formed bs block) (begins p maps sound.formed bs block) (sound.formed.blocks block)
        (SameWord p maps sound.formed.table bs block (front p maps sound.formed bs block) (begins p maps sound.formed bs block) (sound.formed.blocks block) (known block).known.all_formed registers memories)
        [] [] 0 (operations_in p block) (front p maps sound.formed bs block)
    words_in_step = words_alike p maps sound.formed.table bs block (front p maps sound.formed bs block) (begins p maps sound.formed bs block) (sound.formed.blocks block) (known block).known.all_formed registers memories
        (plan_values_fit p block registers memories (sound.formed.blocks block) fit fits) listed_in_step (known block).numbers (known block).known

    pub does_alike : DoesAlike p (image_of p bs) block registers memories
    does_alike =
        let so = block_so p maps sound.formed.table bs block (front p maps sound.formed bs block) (begins p maps sound.formed bs block) (sound.formed.blocks block) (known block).known.all_formed registers memories
        (plan_values_fit p block registers memories (sound.formed.blocks block) fit fits) listed_in_step words_in_step
        in
        record { fault = so.fault_is; puts = λ e. so.writes_are; sets = λ e. so.sets_are }

  pub blocks_do_alike : BlocksDoAlike p (image_of p bs)
  blocks_do_alike block loops step registers memories fit fits turns = does_alike block loops step registers memories fit fits turns

  pub blocks_do_the_same : BlocksDoTheSame p (image_of p bs)
  blocks_do_the_same block loops step registers memories fit fits turns =
      let d = does_alike block loops step registers memories fit fits turns in
      record { fault = d.fault; puts = d.puts; sets = λ e. ap (λ ss. all_set ss registers) (d.sets e) }

  pub runs_the_same : RunTheSame p (image_of p bs)
  runs_the_same = plans_run_alike p (image_of p bs) sound.formed refl refl refl blocks_do_alike
