-- The blocks of a plan, cut out of the list of all operations, are what was put down for them.
use Rattle.std.proofs.Common.{◌≡◌, ℕ, zero, suc, ◌<◌, ◌≤◌, List, [], ◌∷◌, length, take, drop, replicate, Some, None, refl, ap, sym, ◌∙◌, subst, arith}
use Rattle.std.specs.Prelude.{Option, slice_get, slice_index}
use Rattle.dh_plan.specs.declared.operations.Operation.{Operation}
use Rattle.dh_plan.specs.declared.operations.PlanBlock.{PlanBlock}
use Rattle.dh_plan.specs.PlainPlans.{block_operations, operations_before}
use Rattle.dh_commands.specs.declared.assignments.Values.{Values}
use Rattle.dh_commands.specs.declared.buildings.Building.{Building}
use Rattle.dh_commands.specs.Undone.{NoneGiven, given_at}
use Rattle.dh_gathering.specs.declared.blocks.Made.{Made}
use Rattle.dh_gathering.specs.Cutting.{AreBlocksOf, AreRisingStarts, operations_between}
use Rattle.dh_gathering.specs.Growing.{IsAtRest, IsClear, block_place_in, registers_given}
use Rattle.dh_gathering.specs.MadeBlocks.{BlockStandsAt}

fewer : (n m : ℕ) → suc n < suc m → n < m
fewer n m h = omega (arith, h)

less : (n m : ℕ) → suc n ≤ suc m → n ≤ m
less n m h = omega (arith, h)

never : (n : ℕ) → n < 0 → ⊥
never n h = omega (arith, h)

-- what was made is ready to be cut
pub rest_rises : (m : Made) → IsAtRest m → AreRisingStarts m.building.draft.operations.items m.starts.items
rest_rises m rest = record { first = rest.first; rising = rest.rising }

-- the front of a list whose elements are those of another
front_is : (xs ys : List Operation) → ((n : ℕ) (o : Operation) → slice_get xs n ≡ Some o → slice_get ys n ≡ Some o) → take (length xs) ys ≡ xs
front_is [] ys h = refl
front_is (x ∷ xs) [] h = absurd (none (h 0 x refl))
  where
    none : None ≡ Some x → ⊥
    none e = absurd cc
front_is (x ∷ xs) (y ∷ ys) h = by (h 0 x refl) (front_is xs ys (λ n o at. h (suc n) o at))
  where
    some_or : Option Operation → Operation
    some_or None = x
    some_or (Some o) = o

    by : Some y ≡ Some x → take (length xs) ys ≡ xs → y ∷ take (length xs) ys ≡ x ∷ xs
    by e k = ap (λ (o : Operation). o ∷ take (length xs) ys) (ap some_or e) ∙ ap (λ (l : List Operation). x ∷ l) k

module _ (final : Made) (blocks : List PlanBlock) (cut : AreBlocksOf final.building.draft.operations.items final.starts.items blocks) (block : ℕ) (before after : Building) (stands : BlockStandsAt final block before after) where
  here_within : block ≤ length final.starts.items
  here_within = by block (length final.starts.items) stands.there
    where
      by : (n m : ℕ) → suc n ≤ m → n ≤ m
      by n m h = omega (arith, h)

  here_there : block < length final.starts.items
  here_there = by block (length final.starts.items) stands.there
    where
      by : (n m : ℕ) → suc n ≤ m → n < m
      by n m h = omega (arith, h)

  -- the number of its first operation
  pub first_is : operations_before blocks block ≡ length before.draft.operations.items
  first_is = cut.begins block here_within ∙ stands.begins

  -- and its operations
  pub operations_are : block_operations (slice_get blocks block) ≡ drop (length before.draft.operations.items) after.draft.operations.items
  operations_are =
      cut.own block here_there
      ∙ (ap (λ (n : ℕ). operations_between final.building.draft.operations.items n (block_place_in final (suc block))) stands.begins
      ∙ (ap (λ (n : ℕ). operations_between final.building.draft.operations.items (length before.draft.operations.items) n) stands.ends
      ∙ ap (λ (l : List Operation). drop (length before.draft.operations.items) l) (front_is after.draft.operations.items final.building.draft.operations.items stands.kept.operations)))

-- Values of which none is given are so many registers without one.

none_list : (xs : List (Option ℕ)) → ((i : ℕ) → given_at xs i ≡ None) → xs ≡ replicate (length xs) None
none_list [] h = refl
none_list (x ∷ xs) h = ap (λ (o : Option ℕ). o ∷ xs) (h 0) ∙ ap (λ (l : List (Option ℕ)). None ∷ l) (none_list xs (λ i. h (suc i)))

zero_list : (xs : List ℕ) → ((i : ℕ) → slice_index xs i ≡ 0) → xs ≡ replicate (length xs) 0
zero_list [] h = refl
zero_list (x ∷ xs) h = ap (λ (n : ℕ). n ∷ xs) (h 0) ∙ ap (λ (l : List ℕ). 0 ∷ l) (zero_list xs (λ i. h (suc i)))

pub clear_none : (v : Values) → IsClear v → NoneGiven v (length v.current.items)
clear_none v h = record {
  current = none_list v.current.items h.none;
  log = h.log;
  marks = zero_list v.marks.items h.ready.unmarked ∙ ap (λ (n : ℕ). replicate n 0) h.ready.long;
}

given_replicate : (n i : ℕ) → given_at (replicate n None) i ≡ None
given_replicate zero i = refl
given_replicate (suc n) zero = refl
given_replicate (suc n) (suc i) = given_replicate n i

zero_replicate : (n i : ℕ) → slice_index (replicate n 0) i ≡ 0
zero_replicate zero i = refl
zero_replicate (suc n) zero = refl
zero_replicate (suc n) (suc i) = zero_replicate n i

replicate_long : {A : Type 0} (n : ℕ) (x : A) → length (replicate n x) ≡ n
replicate_long zero x = refl
replicate_long (suc n) x = ap suc (replicate_long n x)

pub none_clear : (v : Values) (count : ℕ) → NoneGiven v count → IsClear v
none_clear v count h = record {
  ready = record {
    unmarked = λ register. ap (λ (l : List ℕ). slice_index l register) h.marks ∙ zero_replicate count register;
    long = ap (λ (l : List ℕ). length l) h.marks ∙ (replicate_long count 0 ∙ sym (ap (λ (l : List (Option ℕ)). length l) h.current ∙ replicate_long count None));
  };
  log = h.log;
  none = λ register. ap (λ (l : List (Option ℕ)). given_at l register) h.current ∙ given_replicate count register;
}

-- as a block begins no variable is given a value
pub none_at_begin : (final : Made) (block : ℕ) (before after : Building) → BlockStandsAt final block before after → NoneGiven before.values (registers_given final)
none_at_begin final block before after stands = subst (λ (n : ℕ). NoneGiven before.values n) stands.variables (clear_none before.values stands.clear)
