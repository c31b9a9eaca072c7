-- Items that are kept, one after the other.
use Rattle.std.proofs.Common.{◌≡◌, ℕ, ◌+◌, ◌<◌, inl, inr, Some, List, [], ◌∷◌, ◌++◌, length, get_or, sym, ap, subst, ◌∙◌, arith, length-append}
use Rattle.std.specs.Prelude.{slice_get}
use Rattle.std.proofs.lemmas.Bool.{cases_eq}
use Rattle.std.proofs.lemmas.Option.{slice_get-get_or, get_or_from_slice_get}
use Rattle.dh_cells.proofs.CellsAppended.{get_longer, get_last}
use Rattle.dh_swept.specs.KeptCells.{AreBelow, AreKeptItems}

pub keeping_starts : {A : Type 0} (rename : A → A) (at : List ℕ) (olds news : List A) → news ≡ [] → AreKeptItems 0 rename at olds news
keeping_starts {A = A} rename at olds news none = record { long = ap (λ (l : List A). length l) none; each = λ j i x small here there. absurd (omega (arith, small)) }

-- the old number of the next one is below the bound
pub next_is_below : (at : List ℕ) (bound n d : ℕ) → AreBelow bound at → n < length at → get_or at n d < bound
next_is_below at bound n d below less = below n (get_or at n d) (slice_get-get_or at n d less)

-- by the index of a loop
pub keeping_turn : {A : Type 0} (n : ℕ) (rename : A → A) (at : List ℕ) (olds news after : List A) (d : ℕ) (other : A) → n < length at → AreKeptItems n rename at olds news
    → after ≡ news ++ rename (get_or olds (get_or at n d) other) ∷ [] → AreKeptItems (n + 1) rename at olds after
keeping_turn {A = A} n rename at olds news after d other less h is =
    subst (λ (l : List A). AreKeptItems (n + 1) rename at olds l) (sym is)
    (record {
      long = (let long = h.long in let longer = length-append news (rename (get_or olds (get_or at n d) other) ∷ []) in omega (arith, long, longer));
      each = λ j i x small here there. elim (cases_eq j n) [
        | inl same ↦
            let place : get_or at n d ≡ i = get_or_from_slice_get at n i d (ap (λ (k : ℕ). slice_get at k) (sym same) ∙ here) in
            let item : get_or olds (get_or at n d) other ≡ x = ap (λ (k : ℕ). get_or olds k other) place ∙ get_or_from_slice_get olds i x other there in
            ap (λ (k : ℕ). slice_get (news ++ rename (get_or olds (get_or at n d) other) ∷ []) k) (same ∙ sym h.long)
            ∙ (get_last news (rename (get_or olds (get_or at n d) other)) ∙ ap (λ (y : A). Some (rename y)) item)
        | inr apart ↦ get_longer news (rename (get_or olds (get_or at n d) other)) j (rename x) (h.each j i x (omega (arith, small, apart)) here there)
      ];
    })
