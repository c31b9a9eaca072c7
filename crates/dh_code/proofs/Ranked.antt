-- Ranks of paths: where they stand among those of all beginnings, their bound, and that they differ.
use Rattle.std.proofs.Common.{◌≡◌, ℕ, zero, suc, ◌+◌, ◌*◌, ◌<◌, ◌≤◌, List, [], ◌∷◌, length, take, refl, ap, sym, ◌∙◌, ◌⊎◌, inl, inr, arith}
use Rattle.std.specs.Prelude.{slice_index}
use Rattle.std.proofs.lemmas.Bool.{cases_lt}
use Rattle.std.proofs.Math.Nat.{mul-le-mul_right}
use Rattle.dh_meaning.specs.Paths.{Path}
use Rattle.dh_code.specs.Ranks.{IsPath, copies_in, rank_behind, ranks_behind}

-- the rank of a beginning
pub rank_at : (r : ℕ) (fs : List ℕ) (p : Path) (d : ℕ) → d ≤ length fs → IsPath fs p → slice_index (ranks_behind r fs p) d ≡ rank_behind r (take d fs) (take d p)
rank_at r [] [] zero deep h = refl
rank_at r [] [] (suc d) deep h = absurd (none d deep)
  where
    none : (n : ℕ) → suc n ≤ 0 → ⊥
    none n e = omega (arith, e)
rank_at r [] (c ∷ p) d deep h = absurd h
rank_at r (f ∷ fs) [] d deep h = absurd h
rank_at r (f ∷ fs) (c ∷ p) zero deep h = refl
rank_at r (f ∷ fs) (c ∷ p) (suc d) deep h = rank_at (r * f + c) fs p d (less d (length fs) deep) h.1
  where
    less : (m l : ℕ) → suc m ≤ suc l → m ≤ l
    less m l e = omega (arith, e)

pub path_begins : (fs : List ℕ) (p : Path) (d : ℕ) → IsPath fs p → IsPath (take d fs) (take d p)
path_begins [] [] zero h = tt
path_begins [] [] (suc d) h = tt
path_begins [] (c ∷ p) d h = absurd h
path_begins (f ∷ fs) [] d h = absurd h
path_begins (f ∷ fs) (c ∷ p) zero h = tt
path_begins (f ∷ fs) (c ∷ p) (suc d) h = (h.0, path_begins fs p d h.1)

-- below the number of paths
pub rank_below : (r : ℕ) (fs : List ℕ) (p : Path) → IsPath fs p → rank_behind r fs p < (r + 1) * copies_in fs
rank_below r [] [] h = omega arith
rank_below r [] (c ∷ p) h = absurd h
rank_below r (f ∷ fs) [] h = absurd h
rank_below r (f ∷ fs) (c ∷ p) h = by (rank_behind (r * f + c) fs p) (copies_in fs) (rank_below (r * f + c) fs p h.1)
  where
    row : r * f + c + 1 ≤ (r + 1) * f
    row = let e = h.0 in omega (arith, e)

    by : (n k : ℕ) → n < (r * f + c + 1) * k → n < (r + 1) * (f * k)
    by n k e =
        let m : (r * f + c + 1) * k ≤ ((r + 1) * f) * k = mul-le-mul_right k row in
        let a : ((r + 1) * f) * k ≡ (r + 1) * (f * k) = grouped (r + 1) f k in
        omega (arith, e, m, a)
      where
        grouped : (x y z : ℕ) → (x * y) * z ≡ x * (y * z)
        grouped x y z = omega arith

-- a quotient and a remainder are those of one number alone
parts : (a b f c d : ℕ) → c < f → d < f → a * f + c ≡ b * f + d → a ≡ b
parts a b f c d h k e = by (cases_lt a b) (cases_lt b a)
  where
    beyond : (x y u v : ℕ) → x < y → u < f → x * f + u ≡ y * f + v → ⊥
    beyond x y u v l s t =
        let m : (x + 1) * f ≤ y * f = mul-le-mul_right f (omega (arith, l)) in
        omega (arith, m, s, t)

    by : (a < b) ⊎ (b ≤ a) → (b < a) ⊎ (a ≤ b) → a ≡ b
    by (inl l) y = absurd (beyond a b c d l h e)
    by (inr l) (inl m) = absurd (beyond b a d c m k (sym e))
    by (inr l) (inr m) = omega (arith, l, m)

-- paths of one rank are one
pub ranks_differ : (r s : ℕ) (fs : List ℕ) (p q : Path) → IsPath fs p → IsPath fs q → rank_behind r fs p ≡ rank_behind s fs q → (r ≡ s) × (p ≡ q)
ranks_differ r s [] [] [] h k e = (e, refl)
ranks_differ r s [] [] (d ∷ q) h k e = absurd k
ranks_differ r s [] (c ∷ p) q h k e = absurd h
ranks_differ r s (f ∷ fs) [] q h k e = absurd h
ranks_differ r s (f ∷ fs) (c ∷ p) [] h k e = absurd k
ranks_differ r s (f ∷ fs) (c ∷ p) (d ∷ q) h k e =
    let i = ranks_differ (r * f + c) (s * f + d) fs p q h.1 k.1 e in
    let same : r ≡ s = parts r s f c d h.0 k.0 i.0 in
    let last : c ≡ d = remainders r s c d same i.0 in
    (same, ap (λ x. x ∷ p) last ∙ ap (λ x. d ∷ x) i.1)
  where
    remainders : (x y u v : ℕ) → x ≡ y → x * f + u ≡ y * f + v → u ≡ v
    remainders x y u v m t = let n : x * f ≡ y * f = ap (λ z. z * f) m in omega (arith, n, t)
