-- The operations of a block stand in the one list of all from its first number on; so a value that an operation of a block
-- takes is one of the same block, and a constant of the list is one of the block.
use Rattle.std.proofs.Common.{◌≡◌, ℕ, zero, suc, ◌+◌, ◌-◌, ◌<◌, ◌≤◌, List, [], ◌∷◌, length, take, drop, Option, Some, None, refl, ap, sym, ◌∙◌, subst, arith}
use Rattle.std.specs.Prelude.{slice_get}
use Rattle.dh_value.specs.declared.words.Word.{Word}
use Rattle.dh_plan.specs.declared.operations.Operation.{Operation}
use Rattle.dh_plan.specs.declared.operations.OperationForm.TheVariants.{Constant}
use Rattle.dh_plan.specs.declared.operations.PlanBlock.{PlanBlock}
use Rattle.dh_plan.specs.Blocks.{in_memories, word_at}
use Rattle.dh_plan.specs.Ordered.{IsBetween}
use Rattle.dh_plan.specs.PlainPlans.{PlainPlan, block_operations, first_in, operations_in}
use Rattle.dh_plan.specs.PlanKinds.{IsFormedBlock}
use Rattle.dh_plan.specs.PlanRuns.{block_values, start_at}
use Rattle.dh_plan.proofs.BlocksSolved.{block_solves}
use Rattle.dh_plan.proofs.ValuesAlike.{memories_look_back}
use Rattle.dh_expressions.proofs.ListPlaces.{place_within}
use Rattle.dh_gathering.specs.Cutting.{AreBlocksOf}
use Rattle.dh_gathering.specs.Growing.{place_among}
use Rattle.dh_used.specs.SourceAims.{ConstantStands}

-- Parts of lists.

dropped : {A : Type 0} (n : ℕ) (xs : List A) (i : ℕ) (x : A) → slice_get (drop n xs) i ≡ Some x → slice_get xs (n + i) ≡ Some x
dropped zero xs i x e = ap (λ (n : ℕ). slice_get xs n) (none i) ∙ e
  where
    none : (i : ℕ) → 0 + i ≡ i
    none i = omega arith
dropped (suc n) [] i x e = absurd (never i e)
  where
    never : (i : ℕ) → slice_get [] i ≡ Some x → ⊥
    never i k = cc
dropped (suc n) (y ∷ xs) i x e = ap (λ (m : ℕ). slice_get (y ∷ xs) m) (next n i) ∙ dropped n xs i x e
  where
    next : (n i : ℕ) → suc n + i ≡ suc (n + i)
    next n i = omega arith

taken : {A : Type 0} (n : ℕ) (xs : List A) (i : ℕ) (x : A) → slice_get (take n xs) i ≡ Some x → slice_get xs i ≡ Some x
taken zero xs i x e = absurd (never i e)
  where
    never : (i : ℕ) → slice_get [] i ≡ Some x → ⊥
    never i k = cc
taken (suc n) [] i x e = e
taken (suc n) (y ∷ xs) zero x e = e
taken (suc n) (y ∷ xs) (suc i) x e = taken n xs i x e

-- what stands in front of something is there
earlier_there : {A : Type 0} (xs : List A) (i j : ℕ) (x : A) → slice_get xs i ≡ Some x → j < i → slice_get xs j ≡ None → ⊥
earlier_there [] i j x e l n = never i e
  where
    never : (i : ℕ) → slice_get [] i ≡ Some x → ⊥
    never i k = cc
earlier_there (y ∷ ys) zero j x e l n = below j l
  where
    below : (j : ℕ) → j < 0 → ⊥
    below j l = omega (arith, l)
earlier_there (y ∷ ys) (suc i) zero x e l n = missing n
  where
    missing : Some y ≡ None → ⊥
    missing k = cc
earlier_there (y ∷ ys) (suc i) (suc j) x e l n = earlier_there ys i j x e (less i j l) n
  where
    less : (i j : ℕ) → suc j < suc i → j < i
    less i j l = omega (arith, l)

-- a block with an operation is one of the plan
pub block_there : {o : Operation} (plan : PlainPlan) (block i : ℕ) → slice_get (operations_in plan block) i ≡ Some o → block < length plan.blocks
block_there {o} plan block i at = by (slice_get plan.blocks block) refl at
  where
    by : (b : Option PlanBlock) → slice_get plan.blocks block ≡ b → slice_get (block_operations b) i ≡ Some o → block < length plan.blocks
    by None e k = absurd (never i k)
      where
        never : (i : ℕ) → slice_get (block_operations None) i ≡ Some o → ⊥
        never i z = cc
    by (Some b) e k = place_within plan.blocks block b e

-- where a constant stands
abbrev pub HasConstant : PlainPlan → (block value : ℕ) → Word → Type 0
HasConstant plan block value word = (place : ℕ) × ((value ≡ first_in plan block + place) × (slice_get (operations_in plan block) place ≡ Some (record { guard = None; form = Constant word })))

module _ (plan : PlainPlan) (os : List Operation) (starts : List ℕ) (cut : AreBlocksOf os starts plan.blocks) (block : ℕ) where
  pub stands_among : (i : ℕ) (o : Operation) → slice_get (operations_in plan block) i ≡ Some o → slice_get os (first_in plan block + i) ≡ Some o
  stands_among i o at =
      ap (λ (n : ℕ). slice_get os (n + i)) (cut.begins block (at_most block (length starts) within))
      ∙ taken (place_among os starts (suc block)) os (place_among os starts block + i) o
      (dropped (place_among os starts block) (take (place_among os starts (suc block)) os) i o (sym (ap (λ (xs : List Operation). slice_get xs i) (cut.own block within)) ∙ at))
    where
      within : block < length starts
      within = subst (λ (n : ℕ). block < n) cut.count (block_there {o = o} plan block i at)

      at_most : (b n : ℕ) → b < n → b ≤ n
      at_most b n l = omega (arith, l)

  pub constant_there : (i : ℕ) (o : Operation) → slice_get (operations_in plan block) i ≡ Some o → (value : ℕ) (word : Word) → IsBetween (first_in plan block) (first_in plan block + i) value → ConstantStands os value word
      → HasConstant plan block value word
  constant_there i o at value word between stands = (value - first_in plan block, (own, by (slice_get (operations_in plan block) (value - first_in plan block)) refl))
    where
      behind : (f n : ℕ) → f ≤ n → n ≡ f + (n - f)
      behind f n l = omega (arith, l)

      own : value ≡ first_in plan block + (value - first_in plan block)
      own = behind (first_in plan block) value between.0

      earlier : (f n i : ℕ) → f ≤ n → n < f + i → n - f < i
      earlier f n i l m = omega (arith, l, m)

      by : (x : Option Operation) → slice_get (operations_in plan block) (value - first_in plan block) ≡ x → slice_get (operations_in plan block) (value - first_in plan block) ≡ Some (record { guard = None; form = Constant word })
      by None e =
          absurd (earlier_there (operations_in plan block) i (value - first_in plan block) o at (earlier (first_in plan block) value i between.0 between.1) e)
      by (Some x) e =
          e
          ∙ (sym (stands_among (value - first_in plan block) x e)
          ∙ (ap (λ (n : ℕ). slice_get os n) (sym own) ∙ stands))

-- It is its value, whatever registers and memories hold.
pub constant_shown : (plan : PlainPlan) (block : ℕ) → IsFormedBlock plan block → (registers : List ℕ) (memories : List (List ℕ)) (value : ℕ) (word : Word) → HasConstant plan block value word
    → word_at (first_in plan block) (block_values plan (start_at plan registers memories) block) value ≡ word
constant_shown plan block formed registers memories value word c =
    let s = start_at plan registers memories in
    let first = first_in plan block in
    ap (λ (n : ℕ). word_at first (block_values plan s block) n) c.1.0
    ∙ (block_solves s (in_memories s first) first (memories_look_back s first) (operations_in plan block) formed.ordered).solve.each c.0 (record { guard = None; form = Constant word }) c.1.1
