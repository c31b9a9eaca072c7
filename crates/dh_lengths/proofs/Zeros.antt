-- Levels of 0 behind others.
use Rattle.std.proofs.Common.{◌≡◌, ℕ, zero, suc, ◌+◌, ◌≤◌, drop, List, [], ◌∷◌, ◌++◌, replicate, length, append-nil, append_assoc, refl, ap, sym, ◌∙◌, arith}
use mathlib.Core.Path.{fun_ext}
use Rattle.std.specs.Prelude.{slice_index, if◌then◌else◌, nat_lt}
use Rattle.dh_lengths.specs.HeldLevels.{read_in, zero_levels}

pub one_zero : (xs : List ℕ) → xs ++ 0 ∷ [] ≡ xs ++ zero_levels 1
one_zero xs = refl

pub no_zeros : (xs : List ℕ) → xs ≡ xs ++ zero_levels 0
no_zeros xs = sym (append-nil xs)

zeros_sum : (m n : ℕ) → zero_levels m ++ zero_levels n ≡ zero_levels (m + n)
zeros_sum zero n = ap zero_levels (from_none n)
  where
    from_none : (n : ℕ) → n ≡ 0 + n
    from_none n = omega arith
zeros_sum (suc m) n = ap (λ l. 0 ∷ l) (zeros_sum m n) ∙ ap zero_levels (shift m n)
  where
    shift : (m n : ℕ) → suc (m + n) ≡ suc m + n
    shift m n = omega arith

pub more_zeros : (xs : List ℕ) (m n : ℕ) → (xs ++ zero_levels m) ++ zero_levels n ≡ xs ++ zero_levels (m + n)
more_zeros xs m n = append_assoc xs (zero_levels m) (zero_levels n) ∙ ap (λ l. xs ++ l) (zeros_sum m n)

pub next_zero : (xs : List ℕ) (m : ℕ) → (xs ++ zero_levels m) ++ zero_levels 1 ≡ xs ++ zero_levels (suc m)
next_zero xs m = more_zeros xs m 1 ∙ ap (λ n. xs ++ zero_levels n) (more m)
  where
    more : (m : ℕ) → m + 1 ≡ suc m
    more m = omega arith

-- they are found where nothing is
index_zeros : (n k : ℕ) → slice_index (zero_levels n) k ≡ 0
index_zeros zero k = refl
index_zeros (suc n) zero = refl
index_zeros (suc n) (suc k) = index_zeros n k

pub index_more : (xs : List ℕ) (n k : ℕ) → slice_index (xs ++ zero_levels n) k ≡ slice_index xs k
index_more [] n k = index_zeros n k
index_more (x ∷ xs) n zero = refl
index_more (x ∷ xs) n (suc k) = index_more xs n k

pub read_more : (xs : List ℕ) (n first : ℕ) → read_in (xs ++ zero_levels n) first ≡ read_in xs first
read_more xs n first = fun_ext (λ k. ap (λ m. if nat_lt k first then 0 else m) (index_more xs n k))

pub zeros_long : (xs : List ℕ) (n : ℕ) → length (xs ++ zero_levels n) ≡ length xs + n
zeros_long [] n = many n
  where
    many : (n : ℕ) → length (zero_levels n) ≡ 0 + n
    many zero = refl
    many (suc n) = ap suc (many n) ∙ shift n
      where
        shift : (n : ℕ) → suc (0 + n) ≡ 0 + suc n
        shift n = omega arith
zeros_long (x ∷ xs) n = ap suc (zeros_long xs n) ∙ shift (length xs) n
  where
    shift : (m n : ℕ) → suc (m + n) ≡ suc m + n
    shift m n = omega arith

-- Loops.

pub zero_turn : (xs ys all : List ℕ) (m n k : ℕ) → ys ≡ xs ++ zero_levels m → k ≡ m + n → xs ++ zero_levels k ≡ all → ys ++ zero_levels n ≡ all
zero_turn xs ys all m n k more sum so = ap (λ l. l ++ zero_levels n) more ∙ (more_zeros xs m n ∙ (ap (λ j. xs ++ zero_levels j) (sym sum) ∙ so))

pub three_zeros : (xs ys zs ws : List ℕ) (a b c : ℕ) → ys ≡ xs ++ zero_levels a → zs ≡ ys ++ zero_levels b → ws ≡ zs ++ zero_levels c → ws ≡ xs ++ zero_levels (a + (b + c))
three_zeros xs ys zs ws a b c e f g =
    g ∙ (ap (λ l. l ++ zero_levels c) (f ∙ (ap (λ l. l ++ zero_levels b) e ∙ more_zeros xs a b)) ∙ (more_zeros xs (a + b) c ∙ ap (λ n. xs ++ zero_levels n) (regroup a b c)))
  where
    regroup : (a b c : ℕ) → a + b + c ≡ a + (b + c)
    regroup a b c = omega arith

pub no_more : (xs ys : List ℕ) (k : ℕ) → k ≡ 0 → xs ++ zero_levels k ≡ ys → xs ≡ ys
no_more xs ys k none so = sym (append-nil xs) ∙ (ap (λ n. xs ++ zero_levels n) (sym none) ∙ so)

pub drop_past : {A : Type 0} (xs : List A) (i : ℕ) → length xs ≤ i → drop i xs ≡ []
drop_past [] zero h = refl
drop_past [] (suc i) h = refl
drop_past (x ∷ xs) zero h = elim (never (length xs) h) [ ]
  where
    never : (n : ℕ) → suc n ≤ 0 → ⊥
    never n e = omega (arith, e)
drop_past (x ∷ xs) (suc i) h = drop_past xs i (omega (arith, h))
