-- Lists of the values of a function below a number, and what keeps the number of distinct keys.
use Rattle.std.proofs.Common.{◌≡◌, ℕ, zero, suc, ◌<◌, ◌≤◌, ◌||◌, Bool, true, false, if◌then◌else◌, List, [], ◌∷◌, ◌++◌, length, map, slice_index, refl, ap, sym, ◌∙◌, subst, arith, inl, inr}
use Rattle.std.specs.Prelude.{cond}
use Rattle.std.specs.List.{filter}
use Rattle.std.specs.Set.{distinct_count, unique_keys, is_member}
use Rattle.std.proofs.lemmas.Bool.{cases_lt}
use Rattle.dh_ports.specs.Banks.{each_below}
use Rattle.dh_ports.proofs.ClaimFacts.{index_first, index_last}

absurd : {A : Type 0} → ⊥ → A
absurd e = elim e [ ]

none_below : (b : ℕ) → b < 0 → ⊥
none_below b e = omega (arith, e)

-- Lists.

longer : {A : Type 0} (xs : List A) (x : A) → length (xs ++ x ∷ []) ≡ suc (length xs)
longer [] x = refl
longer (y ∷ xs) x = ap suc (longer xs x)

pub each_long : {A : Type 0} (f : ℕ → A) (n : ℕ) → length (each_below f n) ≡ n
each_long f zero = refl
each_long f (suc n) = longer (each_below f n) (f n) ∙ ap suc (each_long f n)

pub each_at : (f : ℕ → ℕ) (n b : ℕ) → b < n → slice_index (each_below f n) b ≡ f b
each_at f zero b e = absurd (none_below b e)
each_at f (suc n) b e =
    elim (cases_lt b n) [
      | inl less ↦ index_first (each_below f n) (f n) b (subst (λ (m : ℕ). b < m) (sym (each_long f n)) less) ∙ each_at f n b less
      | inr past ↦ index_last (each_below f n) (f n) b (equal b n e past ∙ sym (each_long f n)) ∙ ap f (sym (equal b n e past))
    ]
  where
    equal : (b n : ℕ) → b < suc n → n ≤ b → b ≡ n
    equal b n e f = omega (arith, e, f)

pub same_lists : (n : ℕ) (xs ys : List ℕ) → length xs ≡ n → length ys ≡ n → ((b : ℕ) → b < n → slice_index xs b ≡ slice_index ys b) → xs ≡ ys
same_lists zero [] [] e f h = refl
same_lists zero [] (y ∷ ys) e f h = cc
same_lists zero (x ∷ xs) ys e f h = cc
same_lists (suc n) [] ys e f h = cc
same_lists (suc n) (x ∷ xs) [] e f h = cc
same_lists (suc n) (x ∷ xs) (y ∷ ys) e f h =
    ap (λ z. z ∷ xs) (h 0 (first n)) ∙ ap (λ l. y ∷ l) (same_lists n xs ys (less _ _ e) (less _ _ f) (λ b i. h (suc b) (next b n i)))
  where
    less : (m n : ℕ) → suc m ≡ suc n → m ≡ n
    less m n e = omega (arith, e)

    first : (n : ℕ) → 0 < suc n
    first n = omega arith

    next : (b n : ℕ) → b < n → suc b < suc n
    next b n e = omega (arith, e)

-- a list of which each item is the value of a function at its place
pub each_told : (f : ℕ → ℕ) (n : ℕ) (xs : List ℕ) → length xs ≡ n → ((b : ℕ) → b < n → slice_index xs b ≡ f b) → xs ≡ each_below f n
each_told f n xs e h = same_lists n xs (each_below f n) e (each_long f n) (λ b i. h b i ∙ sym (each_at f n b i))

map_join : {A B : Type 0} (f : A → B) (xs ys : List A) → map f (xs ++ ys) ≡ map f xs ++ map f ys
map_join f [] ys = refl
map_join f (x ∷ xs) ys = ap (λ l. f x ∷ l) (map_join f xs ys)

pub each_mapped : {A B : Type 0} (f : A → B) (h : ℕ → A) (n : ℕ) → each_below (λ k. f (h k)) n ≡ map f (each_below h n)
each_mapped f h zero = refl
each_mapped f h (suc n) = ap (λ l. l ++ f (h n) ∷ []) (each_mapped f h n) ∙ sym (map_join f (each_below h n) (h n ∷ []))

pub map_twice : {A B C : Type 0} (f : A → B) (g : B → C) (xs : List A) → map g (map f xs) ≡ map (λ x. g (f x)) xs
map_twice f g [] = refl
map_twice f g (x ∷ xs) = ap (λ l. g (f x) ∷ l) (map_twice f g xs)

-- Filters.

pub filter_same : {A : Type 0} (p q : A → Bool) (xs : List A) → ((x : A) → p x ≡ q x) → filter p xs ≡ filter q xs
filter_same p q [] e = refl
filter_same p q (x ∷ xs) e = ap (λ b. cond b (x ∷ filter p xs) (filter p xs)) (e x) ∙ ap (λ l. cond (q x) (x ∷ l) l) (filter_same p q xs e)

pub mapped_filter : {A B : Type 0} (f : A → B) (p : B → Bool) (xs : List A) → filter p (map f xs) ≡ map f (filter (λ x. p (f x)) xs)
mapped_filter f p [] = refl
mapped_filter f p (x ∷ xs) = by (p (f x)) (mapped_filter f p xs)
  where
    by : (b : Bool) → filter p (map f xs) ≡ map f (filter (λ y. p (f y)) xs) → cond b (f x ∷ filter p (map f xs)) (filter p (map f xs)) ≡ map f (cond b (x ∷ filter (λ y. p (f y)) xs) (filter (λ y. p (f y)) xs))
    by true h = ap (λ l. f x ∷ l) h
    by false h = h

-- Distinct keys.

both_same : (a b c d : Bool) → a ≡ b → c ≡ d → (a || c) ≡ (b || d)
both_same a b c d h k = ap (λ t. t || c) h ∙ ap (λ t. b || t) k

member_mapped : {X A B : Type 0} (eq : A → A → Bool) (same : B → B → Bool) (f : X → A) (g : X → B) (xs : List X) (y : X) → ((x z : X) → eq (f x) (f z) ≡ same (g x) (g z)) → is_member eq (map f xs) (f y) ≡ is_member same (map g xs) (g y)
member_mapped eq same f g [] y e = refl
member_mapped eq same f g (x ∷ xs) y e = both_same (eq (f y) (f x)) (same (g y) (g x)) (is_member eq (map f xs) (f y)) (is_member same (map g xs) (g y)) (e y x) (member_mapped eq same f g xs y e)

module _ {K : Type 0} (eq : K → K → Bool) where
  distinct_step : (y : K) (xs : List K) → distinct_count eq (y ∷ xs) ≡ (if is_member eq xs y then distinct_count eq xs else suc (distinct_count eq xs))
  distinct_step y xs = by (is_member eq xs y) (unique_keys eq xs)
    where
      by : (b : Bool) (l : List K) → length (cond b l (y ∷ l)) ≡ (if b then length l else suc (length l))
      by true l = refl
      by false l = refl

-- keys that are one where others are
pub distinct_mapped : {X A B : Type 0} (eq : A → A → Bool) (same : B → B → Bool) (f : X → A) (g : X → B) (xs : List X) → ((x z : X) → eq (f x) (f z) ≡ same (g x) (g z)) → distinct_count eq (map f xs) ≡ distinct_count same (map g xs)
distinct_mapped eq same f g [] e = refl
distinct_mapped eq same f g (x ∷ xs) e =
    distinct_step eq (f x) (map f xs)
    ∙ (ap (λ (b : Bool). if b then distinct_count eq (map f xs) else suc (distinct_count eq (map f xs))) (member_mapped eq same f g xs x e)
    ∙ (ap (λ n. if is_member same (map g xs) (g x) then n else suc n) (distinct_mapped eq same f g xs e) ∙ sym (distinct_step same (g x) (map g xs))))
