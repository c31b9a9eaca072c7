-- The numbers of the marked ones, one after the other.
use Rattle.std.proofs.Common.{◌≡◌, ℕ, ◌+◌, ◌<◌, Bool, true, false, inl, inr, Some, None, List, [], ◌∷◌, ◌++◌, length, get_or, sym, ap, subst, ◌∙◌, arith, length-append}
use Rattle.std.specs.Prelude.{slice_get}
use Rattle.std.proofs.Math.ListN.{get_or-append}
use Rattle.std.proofs.Math.Seq.{get_or-append_seam}
use Rattle.std.proofs.lemmas.Bool.{cases_eq}
use Rattle.std.proofs.lemmas.Option.{slice_get_within, slice_get-get_or, get_or_from_slice_get}
use Rattle.dh_cells.proofs.CellsAppended.{get_longer, get_last, get_either}
use Rattle.dh_swept.specs.KeptCells.{RenumbersMarked, behind_if, new_number_in}
use Rattle.dh_swept.specs.NeededCells.{IsMarkedNumber}
use Rattle.dh_swept.specs.SweptNets.{IsKeptNumber}

pub numbering_starts : (flags : List Bool) (at to : List ℕ) → at ≡ [] → to ≡ [] → RenumbersMarked 0 flags at to
numbering_starts flags at to none nothing =
    subst (λ (l : List ℕ). RenumbersMarked 0 flags l to) (sym none)
    (record {
      numbers = ap (λ (l : List ℕ). length l) nothing;
      there = λ j i here. absurd (let f : None ≡ Some i = here in cc);
      marked_ones = λ j i here. absurd (let f : None ≡ Some i = here in cc);
      rises = λ j k a b at_j at_k less. absurd (let f : None ≡ Some a = at_j in cc);
      back = λ j i here. absurd (let f : None ≡ Some i = here in cc);
      kept = λ i less on. absurd (omega (arith, less));
    })

module _ (n : ℕ) (flags : List Bool) (at to : List ℕ) (h : RenumbersMarked n flags at to) where
  stays : (i : ℕ) → i < n → new_number_in to i ≡ new_number_in (to ++ length at ∷ []) i
  stays i less = let long = h.numbers in sym (get_or-append to (length at ∷ []) 0 i (omega (arith, less, long)))

  here : new_number_in (to ++ length at ∷ []) n ≡ length at
  here = ap (λ (k : ℕ). new_number_in (to ++ length at ∷ []) k) (sym h.numbers) ∙ get_or-append_seam to (length at) [] 0

  still_kept : (olds : List ℕ) (i : ℕ) → i < n → IsKeptNumber olds (new_number_in to) i → IsKeptNumber olds (new_number_in (to ++ length at ∷ [])) i
  still_kept olds i less k = subst (λ (j : ℕ). slice_get olds j ≡ Some i) (stays i less) k

  longer : length (to ++ length at ∷ []) ≡ n + 1
  longer = (let long = h.numbers in let both = length-append to (length at ∷ []) in omega (arith, long, both))

  -- the next one is not marked
  passes : get_or flags n false ≡ false → RenumbersMarked (n + 1) flags at (to ++ length at ∷ [])
  passes off = record {
    numbers = longer;
    there = λ j i is. (let less = h.there j i is in omega (arith, less));
    marked_ones = h.marked_ones;
    rises = h.rises;
    back = λ j i is. sym (stays i (h.there j i is)) ∙ h.back j i is;
    kept = λ i less on. elim (cases_eq i n) [
      | inl same ↦ absurd (let no : false ≡ true = sym off ∙ (ap (λ (k : ℕ). get_or flags k false) (sym same) ∙ on) in cc)
      | inr other ↦ (let small : i < n = omega (arith, less, other) in still_kept at i small (h.kept i small on))
    ];
  }

  -- it is
  goes : get_or flags n false ≡ true → RenumbersMarked (n + 1) flags (at ++ n ∷ []) (to ++ length at ∷ [])
  goes on = record {
    numbers = longer;
    there = λ j i is. elim (get_either at n j i is) [
      | inl old ↦ (let less = h.there j i old in omega (arith, less))
      | inr new ↦ (let same = new.1 in omega (arith, same))
    ];
    marked_ones = λ j i is. elim (get_either at n j i is) [
      | inl old ↦ h.marked_ones j i old
      | inr new ↦ subst (λ (k : ℕ). IsMarkedNumber flags k) new.1 on
    ];
    rises = λ j k a b at_j at_k less. elim (get_either at n j a at_j) [
      | inl old_j ↦ elim (get_either at n k b at_k) [
        | inl old_k ↦ h.rises j k a b old_j old_k less
        | inr new_k ↦ (let inside = slice_get_within at j a old_j in let last = new_k.0 in omega (arith, inside, last))
      ]
      | inr new_j ↦ elim (get_either at n k b at_k) [
        | inl old_k ↦ absurd (let small = h.there k b old_k in let is = new_j.1 in omega (arith, small, is, less))
        | inr new_k ↦ absurd (let is = new_j.1 in let was = new_k.1 in omega (arith, is, was, less))
      ]
    ];
    back = λ j i is. elim (get_either at n j i is) [
      | inl old ↦ sym (stays i (h.there j i old)) ∙ h.back j i old
      | inr new ↦ ap (λ (k : ℕ). new_number_in (to ++ length at ∷ []) k) (sym new.1) ∙ (here ∙ sym new.0)
    ];
    kept = λ i less mark. elim (cases_eq i n) [
      | inl same ↦
          subst (λ (k : ℕ). slice_get (at ++ n ∷ []) (new_number_in (to ++ length at ∷ []) k) ≡ Some k) (sym same)
          (ap (λ (k : ℕ). slice_get (at ++ n ∷ []) k) here ∙ get_last at n)
      | inr other ↦
          (let small : i < n = omega (arith, less, other) in
          get_longer at n (new_number_in (to ++ length at ∷ []) i) i (still_kept at i small (h.kept i small mark)))
    ];
  }

-- by the index of a loop
pub numbering_turn : (n : ℕ) (flags : List Bool) (at to after now : List ℕ) (number : ℕ) (default : Bool) → n < length flags → RenumbersMarked n flags at to → number ≡ length at → now ≡ to ++ number ∷ []
    → after ≡ behind_if (get_or flags n default) n at → RenumbersMarked (n + 1) flags after now
numbering_turn n flags at to after now number default less h number_is longer_now put =
    subst (λ (l : List ℕ). RenumbersMarked (n + 1) flags after l) (sym (longer_now ∙ ap (λ (k : ℕ). to ++ k ∷ []) number_is))
    (by (get_or flags n default) (get_or_from_slice_get flags n (get_or flags n default) false (slice_get-get_or flags n default less)) put)
  where
    by : (t : Bool) → get_or flags n false ≡ t → after ≡ behind_if t n at → RenumbersMarked (n + 1) flags after (to ++ length at ∷ [])
    by true on is = subst (λ (l : List ℕ). RenumbersMarked (n + 1) flags l (to ++ length at ∷ [])) (sym is) (goes n flags at to h on)
    by false off is = subst (λ (l : List ℕ). RenumbersMarked (n + 1) flags l (to ++ length at ∷ [])) (sym is) (passes n flags at to h off)
