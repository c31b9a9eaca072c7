-- Ranges of lists.
use Rattle.std.proofs.Common.{◌≡◌, ℕ, zero, suc, ◌-◌, ◌<◌, ◌≤◌, List, [], ◌∷◌, length, take, drop, get_or, refl, ap, sym, subst, arith}
use Rattle.std.specs.Prelude.{Vec, slice_range}
use Rattle.std.specs.Global.{Global}
use Rattle.std.specs.List.{AllByRecursion}
use Rattle.std.proofs.lemmas.List.{length-take-le, length-drop}

pub length_range : {A : Type 0} (xs : List A) (a b : ℕ) → b ≤ length xs → length (slice_range xs a b) ≡ b - a
length_range xs a b within = length-take-le (b - a) (drop a xs) (subst (λ (n : ℕ). b - a ≤ n) (sym (length-drop a xs)) (omega (arith, within)))

pub all_taken : {A : Type 0} (P : A → Type 0) (xs : List A) (n : ℕ) → AllByRecursion P xs → AllByRecursion P (take n xs)
all_taken P [] zero h = tt
all_taken P [] (suc n) h = tt
all_taken P (x ∷ xs) zero h = tt
all_taken P (x ∷ xs) (suc n) h = (h.0, all_taken P xs n h.1)

pub all_dropped : {A : Type 0} (P : A → Type 0) (xs : List A) (n : ℕ) → AllByRecursion P xs → AllByRecursion P (drop n xs)
all_dropped P [] zero h = tt
all_dropped P [] (suc n) h = tt
all_dropped P (x ∷ xs) zero h = h
all_dropped P (x ∷ xs) (suc n) h = all_dropped P xs n h.1

pub all_in_range : {A : Type 0} (P : A → Type 0) (xs : List A) (a b : ℕ) → AllByRecursion P xs → AllByRecursion P (slice_range xs a b)
all_in_range P xs a b h = all_taken P (drop a xs) (b - a) (all_dropped P xs a h)

-- equal vectors have equal items
pub items_same : {A : Type 0} (a b : Vec A Global) → a ≡ b → a.items ≡ b.items
items_same {A} a b e = ap (λ (v : Vec A Global). v.items) e

-- an element that is there, whatever stands for one that is not
pub get_whatever : {A : Type 0} (xs : List A) (k : ℕ) (d e : A) → k < length xs → get_or xs k d ≡ get_or xs k e
get_whatever [] k d e within = absurd (none k within)
  where
    none : (n : ℕ) → n < 0 → ⊥
    none n e = omega (arith, e)
get_whatever (x ∷ xs) zero d e within = refl
get_whatever (x ∷ xs) (suc k) d e within = get_whatever xs k d e (less k (length xs) within)
  where
    less : (m l : ℕ) → suc m < suc l → m < l
    less m l e = omega (arith, e)

pub drop_past : {A : Type 0} (xs : List A) (k : ℕ) → length xs ≤ k → drop k xs ≡ []
drop_past [] zero past = refl
drop_past [] (suc k) past = refl
drop_past (x ∷ xs) zero past = absurd (none (length xs) past)
  where
    none : (n : ℕ) → suc n ≤ 0 → ⊥
    none n e = omega (arith, e)
drop_past (x ∷ xs) (suc k) past = drop_past xs k (less (length xs) past)
  where
    less : (l : ℕ) → suc l ≤ suc k → l ≤ k
    less l e = omega (arith, e)

pub drop_none : {A : Type 0} (xs : List A) (i : ℕ) → i ≤ 0 → drop i xs ≡ xs
drop_none [] zero h = refl
drop_none [] (suc i) h = refl
drop_none (x ∷ xs) zero h = refl
drop_none (x ∷ xs) (suc i) h = absurd (never i h)
  where
    never : (i : ℕ) → suc i ≤ 0 → ⊥
    never i h = omega (arith, h)
