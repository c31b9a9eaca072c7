-- Elements of lists by their places: with one more behind, and with one changed.
use Rattle.std.proofs.Common.{◌≡◌, ℕ, zero, suc, ◌<◌, ◌≤◌, ◌⊎◌, inl, inr, List, Some, None, refl, sym, ap, ◌∙◌, arith, length, drop, get_or, append_assoc, append-nil}
use Rattle.std.specs.Prelude.{[], ◌∷◌, ◌++◌, slice_get, slice_set, Option}
use Rattle.std.proofs.Math.Seq.{drop-cons}

abbrev some_or : {A : Type 0} → A → Option A → A
some_or x None = x
some_or x (Some y) = y

pub some_same : {A : Type 0} (x y : A) → Some x ≡ Some y → x ≡ y
some_same x y e = ap (λ o. some_or x o) e

-- a place with one more behind
pub place_of_more : {A : Type 0} (xs : List A) (y z : A) (k : ℕ) → slice_get (xs ++ y ∷ []) k ≡ Some z → (slice_get xs k ≡ Some z) ⊎ ((k ≡ length xs) × (z ≡ y))
place_of_more [] y z zero e = inr (refl, sym (some_same y z e))
place_of_more [] y z (suc k) e = absurd (cc)
place_of_more (x ∷ xs) y z zero e = inl e
place_of_more (x ∷ xs) y z (suc k) e = further (place_of_more xs y z k e)
  where
    further : (slice_get xs k ≡ Some z) ⊎ ((k ≡ length xs) × (z ≡ y)) → (slice_get xs k ≡ Some z) ⊎ ((suc k ≡ suc (length xs)) × (z ≡ y))
    further (inl e) = inl e
    further (inr h) = inr (ap suc h.0, h.1)

pub set_here : {A : Type 0} (xs : List A) (n : ℕ) (y : A) → n < length xs → slice_get (slice_set xs n y) n ≡ Some y
set_here [] n y within = absurd (none n within)
  where
    none : (n : ℕ) → n < 0 → ⊥
    none n h = omega (arith, h)
set_here (x ∷ xs) zero y within = refl
set_here (x ∷ xs) (suc n) y within = set_here xs n y (less n (length xs) within)
  where
    less : (n l : ℕ) → suc n < suc l → n < l
    less n l h = omega (arith, h)

pub set_other : {A : Type 0} (xs : List A) (n m : ℕ) (y : A) → (m ≡ n → ⊥) → slice_get (slice_set xs n y) m ≡ slice_get xs m
set_other [] n m y other = refl
set_other (x ∷ xs) zero zero y other = absurd (other refl)
set_other (x ∷ xs) zero (suc m) y other = refl
set_other (x ∷ xs) (suc n) zero y other = refl
set_other (x ∷ xs) (suc n) (suc m) y other = set_other xs n m y (λ e. other (ap suc e))

pub set_long : {A : Type 0} (xs : List A) (n : ℕ) (y : A) → length (slice_set xs n y) ≡ length xs
set_long [] n y = refl
set_long (x ∷ xs) zero y = refl
set_long (x ∷ xs) (suc n) y = ap suc (set_long xs n y)

-- an element that is there
pub there : {A : Type 0} (xs : List A) (k : ℕ) → k < length xs → (x : A) × (slice_get xs k ≡ Some x)
there [] k within = absurd (none k within)
  where
    none : (n : ℕ) → n < 0 → ⊥
    none n h = omega (arith, h)
there (x ∷ xs) zero within = (x, refl)
there (x ∷ xs) (suc k) within = there xs k (less k (length xs) within)
  where
    less : (n l : ℕ) → suc n < suc l → n < l
    less n l h = omega (arith, h)

pub place_within : {A : Type 0} (xs : List A) (k : ℕ) (x : A) → slice_get xs k ≡ Some x → k < length xs
place_within [] k x e = absurd (cc)
place_within (y ∷ xs) zero x e = some (length xs)
  where
    some : (l : ℕ) → 0 < suc l
    some l = omega arith
place_within (y ∷ xs) (suc k) x e = more k (length xs) (place_within xs k x e)
  where
    more : (n l : ℕ) → n < l → suc n < suc l
    more n l h = omega (arith, h)

-- Elements are added in their order: what is added so far is in front of what is left.

none_left : {A : Type 0} (xs : List A) (i : ℕ) → length xs ≤ i → drop i xs ≡ []
none_left [] zero over = refl
none_left [] (suc i) over = refl
none_left (x ∷ xs) zero over = absurd (some (length xs) over)
  where
    some : (n : ℕ) → suc n ≤ 0 → ⊥
    some n h = omega (arith, h)
none_left (x ∷ xs) (suc i) over = none_left xs i (lower (length xs) i over)
  where
    lower : (n i : ℕ) → suc n ≤ suc i → n ≤ i
    lower n i h = omega (arith, h)

pub listed_more : {A : Type 0} (xs : List A) (i : ℕ) (now new all : List A) (x : A) → i < length xs → x ≡ get_or xs i x → new ≡ now ++ x ∷ [] → now ++ drop i xs ≡ all → new ++ drop (suc i) xs ≡ all
listed_more xs i now new all x there is added h =
    ap (λ l. l ++ drop (suc i) xs) added
    ∙ (append_assoc now (x ∷ []) (drop (suc i) xs) ∙ (ap (λ l. now ++ l) (sym (drop-cons xs i x there ∙ ap (λ z. z ∷ drop (suc i) xs) (sym is))) ∙ h))

pub listed_end : {A : Type 0} (xs : List A) (i : ℕ) (now all : List A) → length xs ≤ i → now ++ drop i xs ≡ all → now ≡ all
listed_end xs i now all over h = sym (append-nil now) ∙ (ap (λ l. now ++ l) (sym (none_left xs i over)) ∙ h)
