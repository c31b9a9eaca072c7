-- What is made grows from block to block, and facts of blocks stay what they are.
use Rattle.std.proofs.Common.{◌≡◌, ◌⊎◌, inl, inr, ℕ, zero, suc, ◌+◌, ◌<◌, ◌≤◌, List, [], ◌∷◌, ◌++◌, length, Some, refl, ap, sym, ◌∙◌, subst, arith}
use Rattle.std.specs.Prelude.{slice_get, slice_index_or}
use Rattle.std.proofs.lemmas.Bool.{cases_lt}
use Rattle.std.proofs.lemmas.List.{length-append}
use Rattle.std.proofs.Math.ListN.{get_or-append, get_or-eq_default}
use Rattle.std.proofs.Math.Seq.{get_or-append_seam}
use Rattle.dh_value.specs.declared.kinds.Kind.{Kind}
use Rattle.dh_value.specs.declared.kinds.Kind.TheVariants as kind
use Rattle.dh_expressions.specs.Copying.{AreNone}
use Rattle.dh_expressions.specs.Drafted.{Extends}
use Rattle.dh_expressions.proofs.Pushing.{extends_again, extends_self}
use Rattle.dh_commands.specs.declared.buildings.Building.{Building}
use Rattle.dh_laid.specs.LaidAccesses.{touched_count}
use Rattle.dh_gathering.specs.declared.blocks.Made.{Made}
use Rattle.dh_gathering.specs.Growing.{AreAllLaid, AreOwned, MadeBlocksGrow, IsAtRest, IsClear, NamesFew, block_place_in, registers_given}
use Rattle.dh_gathering.specs.MadeBlocks.{BlockStandsAt}

not_more : (a b c : ℕ) → a ≤ b → b ≤ c → a ≤ c
not_more a b c h k = omega (arith, h, k)

few_none : (b : Building) → NamesFew b b
few_none b = (refl, same (length b.draft.faults + touched_count b.accesses.touched.items))
  where
    same : (n : ℕ) → n ≤ n
    same n = omega arith

few_then : (a b c : Building) → NamesFew a b → NamesFew b c → NamesFew a c
few_then a b c h k = (
  k.0 ∙ h.0,
  both (length a.draft.faults) (length b.draft.faults) (length c.draft.faults) (touched_count a.accesses.touched.items) (touched_count b.accesses.touched.items) (touched_count c.accesses.touched.items) h.1 k.1,
)
  where
    both : (f g h l m n : ℕ) → g + l ≤ f + m → h + m ≤ g + n → h + l ≤ f + n
    both f g h l m n e k = omega (arith, e, k)

pub grows_none : (m : Made) → MadeBlocksGrow m m
grows_none m = record { draft = extends_self m.building.draft; starts = omega arith; places = λ block within. refl; registers = λ register k at. at; flags = λ register k at. inl at; variables = refl; few = few_none m.building }

flags_then : {X Y Z : Type 0} → (Y → X ⊎ Z) → Y ⊎ Z → X ⊎ Z
flags_then f (inl y) = f y
flags_then f (inr z) = inr z

pub grows_then : (a b c : Made) → MadeBlocksGrow a b → MadeBlocksGrow b c → MadeBlocksGrow a c
grows_then a b c h k = record {
  draft = extends_again a.building.draft b.building.draft c.building.draft h.draft k.draft;
  starts = not_more (length a.starts.items) (length b.starts.items) (length c.starts.items) h.starts k.starts;
  places = λ block within. k.places block (not_more block (length a.starts.items) (length b.starts.items) within h.starts) ∙ h.places block within;
  registers = λ register kind at. k.registers register kind (h.registers register kind at);
  flags = λ register kind at. flags_then (h.flags register kind) (k.flags register kind at);
  variables = k.variables ∙ h.variables;
  few = few_then a.building b.building c.building h.few k.few;
}

-- one block more
pub record AddsBlock (old new : Made) : Type 0 where
  pub draft : Extends old.building.draft new.building.draft
  pub starts : new.starts.items ≡ old.starts.items ++ length old.building.draft.operations.items ∷ []
  pub registers : (register : ℕ) (k : Kind) → slice_get old.registers register ≡ Some k → slice_get new.registers register ≡ Some k
  pub flags : (register : ℕ) (k : Kind) → slice_get new.registers register ≡ Some k → (slice_get old.registers register ≡ Some k) ⊎ (k ≡ kind.Bool)
  pub longer : length old.registers ≤ length new.registers
  pub variables : registers_given new ≡ registers_given old
  pub few : NamesFew old.building new.building
  pub clear : IsClear new.building.values
  pub laid : AreAllLaid new.building
  pub owned : AreOwned new.building
  pub counts : AreNone new.building.accesses.counts.items

module _ (old new : Made) (h : AddsBlock old new) where
  abbrev here : ℕ
  here = length old.building.draft.operations.items

  one_longer : length new.starts.items ≡ suc (length old.starts.items)
  one_longer = ap (λ (l : List ℕ). length l) h.starts ∙ (length-append old.starts.items (here ∷ []) ∙ more (length old.starts.items))
    where
      more : (n : ℕ) → n + 1 ≡ suc n
      more n = omega arith

  -- a start that was there before, the new one, and what lies behind
  place_before : (block : ℕ) → block < length old.starts.items → block_place_in new block ≡ block_place_in old block
  place_before block within =
      ap (λ (l : List ℕ). slice_index_or l block (length new.building.draft.operations.items)) h.starts
      ∙ (get_or-append old.starts.items (here ∷ []) (length new.building.draft.operations.items) block within
      ∙ either old.starts.items block (length new.building.draft.operations.items) (length old.building.draft.operations.items) within)
    where
      either : (xs : List ℕ) (i a b : ℕ) → i < length xs → slice_index_or xs i a ≡ slice_index_or xs i b
      either [] i a b less = absurd (none i less)
        where
          none : (n : ℕ) → n < 0 → ⊥
          none n l = omega (arith, l)
      either (x ∷ xs) zero a b less = refl
      either (x ∷ xs) (suc i) a b less = either xs i a b (fewer i (length xs) less)
        where
          fewer : (n m : ℕ) → suc n < suc m → n < m
          fewer n m l = omega (arith, l)

  place_here : block_place_in new (length old.starts.items) ≡ here
  place_here =
      ap (λ (l : List ℕ). slice_index_or l (length old.starts.items) (length new.building.draft.operations.items)) h.starts
      ∙ get_or-append_seam old.starts.items here [] (length new.building.draft.operations.items)

  place_old_end : block_place_in old (length old.starts.items) ≡ here
  place_old_end = get_or-eq_default old.starts.items here (same (length old.starts.items))
    where
      same : (n : ℕ) → n ≤ n
      same n = omega arith

  pub place_past : (block : ℕ) → suc (length old.starts.items) ≤ block → block_place_in new block ≡ length new.building.draft.operations.items
  place_past block past = get_or-eq_default new.starts.items (length new.building.draft.operations.items) (subst (λ (n : ℕ). n ≤ block) (sym one_longer) past)

  places_same : (block : ℕ) → block ≤ length old.starts.items → block_place_in new block ≡ block_place_in old block
  places_same block within = by (cases_lt block (length old.starts.items))
    where
      last : (n m : ℕ) → n ≤ m → m ≤ n → n ≡ m
      last n m a b = omega (arith, a, b)

      by : (block < length old.starts.items) ⊎ (length old.starts.items ≤ block) → block_place_in new block ≡ block_place_in old block
      by (inl less) = place_before block less
      by (inr past) =
          let is : block ≡ length old.starts.items = last block (length old.starts.items) within past in
          subst (λ (n : ℕ). block_place_in new n ≡ block_place_in old n) (sym is) (place_here ∙ sym place_old_end)

  pub block_grows : MadeBlocksGrow old new
  block_grows = record {
    draft = h.draft;
    starts = subst (λ (n : ℕ). length old.starts.items ≤ n) (sym one_longer) (next (length old.starts.items));
    places = places_same;
    registers = h.registers;
    flags = h.flags;
    variables = h.variables;
    few = h.few;
  }
    where
      next : (n : ℕ) → n ≤ suc n
      next n = omega arith

  pub block_rests : IsAtRest old → IsAtRest new
  block_rests rest = record {
    clear = h.clear;
    laid = h.laid;
    owned = h.owned;
    counts = h.counts;
    first = places_same 0 (least (length old.starts.items)) ∙ rest.first;
    rising = rising;
    variables = subst (λ (n : ℕ). n ≤ length new.registers) (sym h.variables) (not_more (registers_given old) (length old.registers) (length new.registers) rest.variables h.longer);
  }
    where
      least : (n : ℕ) → 0 ≤ n
      least n = omega arith

      same : (n : ℕ) → n ≤ n
      same n = omega arith

      within : (n m : ℕ) → n < m → n ≤ m
      within n m l = omega (arith, l)

      rising : (block : ℕ) → block_place_in new block ≤ block_place_in new (suc block)
      rising block = by (cases_lt block (length old.starts.items))
        where
          by : (block < length old.starts.items) ⊎ (length old.starts.items ≤ block) → block_place_in new block ≤ block_place_in new (suc block)
          by (inl less) =
              subst (λ (n : ℕ). n ≤ block_place_in new (suc block)) (sym (places_same block (within block (length old.starts.items) less)))
              (subst (λ (n : ℕ). block_place_in old block ≤ n) (sym (places_same (suc block) less)) (rest.rising block))
          by (inr past) = subst (λ (n : ℕ). block_place_in new block ≤ n) (sym (place_past (suc block) (more (length old.starts.items) block past))) (at_most (cases_lt (length old.starts.items) block))
            where
              more : (n m : ℕ) → n ≤ m → suc n ≤ suc m
              more n m l = omega (arith, l)

              last : (n m : ℕ) → n ≤ m → m ≤ n → m ≡ n
              last n m a b = omega (arith, a, b)

              at_most : (length old.starts.items < block) ⊎ (block ≤ length old.starts.items) → block_place_in new block ≤ length new.building.draft.operations.items
              at_most (inl beyond) = subst (λ (n : ℕ). n ≤ length new.building.draft.operations.items) (sym (place_past block beyond)) (same (length new.building.draft.operations.items))
              at_most (inr not_beyond) =
                  let is : block ≡ length old.starts.items = last (length old.starts.items) block past not_beyond in
                  subst (λ (n : ℕ). block_place_in new n ≤ length new.building.draft.operations.items) (sym is)
                  (subst (λ (n : ℕ). n ≤ length new.building.draft.operations.items) (sym place_here) h.draft.longer)

  pub block_stands : IsAtRest old → (final : Made) → MadeBlocksGrow new final → BlockStandsAt final (length old.starts.items) old.building new.building
  block_stands rest final more = record {
    begins = more.places (length old.starts.items) (subst (λ (n : ℕ). length old.starts.items ≤ n) (sym one_longer) (next (length old.starts.items))) ∙ place_here;
    ends = more.places (suc (length old.starts.items)) (subst (λ (n : ℕ). suc (length old.starts.items) ≤ n) (sym one_longer) (same (suc (length old.starts.items))))
        ∙ place_past (suc (length old.starts.items)) (same (suc (length old.starts.items)));
    there = subst (λ (n : ℕ). n ≤ length final.starts.items) one_longer more.starts;
    kept = more.draft;
    clear = rest.clear;
    variables = sym (more.variables ∙ h.variables);
  }
    where
      next : (n : ℕ) → n ≤ suc n
      next n = omega arith

      same : (n : ℕ) → n ≤ n
      same n = omega arith
