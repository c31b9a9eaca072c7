-- Steps of loops, from what is left of the list.
use Rattle.std.proofs.Common.{◌≡◌, ℕ, zero, suc, add-one, ◌+◌, ◌<◌, ◌==◌, true, false, if◌then◌else◌, List, [], ◌∷◌, ◌++◌, length, get_or, slice_index, drop, refl, ap, sym, ◌∙◌, ◌⊎◌, inl, inr}
use Rattle.std.proofs.lemmas.Bool.{eqb-true, eq-eqb, cases_Bool}
use Rattle.std.proofs.lemmas.List.{get_or-set_same, get_or-set_other}
use mathlib.Core.Path.{fun_ext}
use Rattle.std.proofs.Math.Seq.{drop-cons}
use Rattle.std.specs.Prelude.{slice_set}
use Rattle.dh_events.specs.Tables.{table_at, with_number}

pub at_item : {X : Type 0} (xs : List X) (i : ℕ) (x : X) → i < length xs → x ≡ get_or xs i x → drop i xs ≡ x ∷ drop (i + 1) xs
at_item xs i x within is = drop-cons xs i x within ∙ (ap (λ y. y ∷ drop (suc i) xs) (sym is) ∙ ap (λ n. x ∷ drop n xs) (sym (add-one i)))

pub at_place : {X : Type 0} (xs : List X) (i : ℕ) (d : X) → i < length xs → drop i xs ≡ get_or xs i d ∷ drop (i + 1) xs
at_place xs i d within = drop-cons xs i d within ∙ ap (λ n. get_or xs i d ∷ drop n xs) (sym (add-one i))

-- a 0 behind a list is found where nothing is
pub zero_more : (xs : List ℕ) (e : ℕ) → slice_index (xs ++ 0 ∷ []) e ≡ slice_index xs e
zero_more [] zero = refl
zero_more [] (suc e) = refl
zero_more (x ∷ xs) zero = refl
zero_more (x ∷ xs) (suc e) = zero_more xs e

pub zeros_more : (xs : List ℕ) → table_at (xs ++ 0 ∷ []) ≡ table_at xs
zeros_more xs = fun_ext (λ e. zero_more xs e)

other_number : (a b : ℕ) → (a == b) ≡ false → b ≡ a → ⊥
other_number a b f i = let g : (a == b) ≡ true = eq-eqb a b (sym i) in cc

pub index_set : (xs : List ℕ) (k v m : ℕ) → k < length xs → slice_index (slice_set xs k v) m ≡ (if k == m then v else slice_index xs m)
index_set xs k v m within = by_test (cases_Bool (k == m))
  where
    by_test : ((k == m) ≡ true) ⊎ ((k == m) ≡ false) → slice_index (slice_set xs k v) m ≡ (if k == m then v else slice_index xs m)
    by_test (inl e) = ap (λ j. slice_index (slice_set xs k v) j) (sym (eqb-true k m e)) ∙ (get_or-set_same xs k v 0 within ∙ sym (ap (λ b. if b then v else slice_index xs m) e))
    by_test (inr e) = get_or-set_other xs k m v 0 (λ i. elim (other_number k m e i) [ ]) ∙ sym (ap (λ b. if b then v else slice_index xs m) e)

-- a number that is set
pub number_set : (xs : List ℕ) (place number : ℕ) → place < length xs → table_at (slice_set xs place number) ≡ with_number (table_at xs) place number
number_set xs place number within = fun_ext (λ e. index_set xs place number e within)
