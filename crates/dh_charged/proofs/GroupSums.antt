-- Numbers of groups and sums over groups: where each number is none, or no more than what a group of its own carries, the
-- numbers together are no more than what all groups carry.
use Rattle.std.proofs.Common.{◌≡◌, ◌⊎◌, inl, inr, ℕ, zero, suc, ◌+◌, ◌<◌, ◌≤◌, List, [], ◌∷◌, ap, sym, ◌∙◌, arith}
use Rattle.dh_meaning.specs.Paths.{Path}
use Rattle.dh_meets.specs.Charges.{sum_over}
use Rattle.dh_carried.proofs.Pigeons.{Has}

-- the first numbers together
abbrev pub sum_below : (count : ℕ → ℕ) → (n : ℕ) → ℕ
sum_below count zero = 0
sum_below count (suc n) = sum_below count n + count n

module _ (h : Path → ℕ) where
  -- a list without one of its members, and what the others carry
  record Out (x : Path) (ys : List Path) : Type 0 where
    pub rest : List Path
    pub sum : sum_over ys h ≡ h x + sum_over rest h
    pub others : (z : Path) → Has z ys → (z ≡ x → ⊥) → Has z rest

  out : (x : Path) (ys : List Path) → Has x ys → Out x ys
  out x [] at = elim at [ ]
  out x (y ∷ ys) (inl e) = record { rest = ys; sum = ap (λ (z : Path). h z + sum_over ys h) (sym e); others = first }
    where
      first : (z : Path) → (z ≡ y) ⊎ Has z ys → (z ≡ x → ⊥) → Has z ys
      first z (inl same) other = absurd (other (same ∙ sym e))
      first z (inr there) other = there
  out x (y ∷ ys) (inr at) =
      let o = out x ys at in
      record { rest = y ∷ o.rest; sum = moved (h y) (h x) (sum_over ys h) (sum_over o.rest h) o.sum; others = more o }
    where
      moved : (a b c d : ℕ) → c ≡ b + d → a + c ≡ b + (a + d)
      moved a b c d e = omega (arith, e)

      more : (o : Out x ys) (z : Path) → (z ≡ y) ⊎ Has z ys → (z ≡ x → ⊥) → (z ≡ y) ⊎ Has z o.rest
      more o z (inl same) other = inl same
      more o z (inr there) other = inr (o.others z there other)

  module _ (rank : Path → ℕ) where
    -- a group of this number that carries at least so much
    pub record Carrier (xs : List Path) (g most : ℕ) : Type 0 where
      pub member : Path
      pub there : Has member xs
      pub own : rank member ≡ g
      pub carries : most ≤ h member

    abbrev pub HasCarrier : List Path → (g most : ℕ) → Type 0
    HasCarrier xs g most = (most ≡ 0) ⊎ Carrier xs g most

  module _ (rank : Path → ℕ) (count : ℕ → ℕ) where
    abbrev AreCarried : List Path → (n : ℕ) → Type 0
    AreCarried xs n = (g : ℕ) → g < n → HasCarrier rank xs g (count g)

    -- the group of a further number carries for none of those before
    one_more : (xs : List Path) (n most : ℕ) → ((ys : List Path) → AreCarried ys n → sum_below count n ≤ sum_over ys h) → AreCarried xs n → Carrier rank xs n most → sum_below count n + most ≤ sum_over xs h
    one_more xs n most rest each c = both _ _ _ _ _ (out c.member xs c.there).sum (rest (out c.member xs c.there).rest (λ g l. apart g l (each g l))) c.carries
      where
        both : (a m s r b : ℕ) → s ≡ b + r → a ≤ r → m ≤ b → a + m ≤ s
        both a m s r b e f g = omega (arith, e, f, g)

        differs : (a b : ℕ) → a < b → a ≡ b → ⊥
        differs a b l e = omega (arith, l, e)

        apart : (g : ℕ) → g < n → HasCarrier rank xs g (count g) → HasCarrier rank (out c.member xs c.there).rest g (count g)
        apart g l (inl z) = inl z
        apart g l (inr d) = inr (record { member = d.member; there = (out c.member xs c.there).others d.member d.there (λ e. differs g n l (sym d.own ∙ (ap rank e ∙ c.own))); own = d.own; carries = d.carries })

    sums_within : (n : ℕ) (xs : List Path) → AreCarried xs n → sum_below count n ≤ sum_over xs h
    sums_within zero xs each = least (sum_over xs h)
      where
        least : (m : ℕ) → 0 ≤ m
        least m = omega arith
    sums_within (suc n) xs each = by (each n (own n)) (λ ys f. sums_within n ys f)
      where
        own : (m : ℕ) → m < suc m
        own m = omega arith

        before : (g m : ℕ) → g < m → g < suc m
        before g m l = omega (arith, l)

        none_more : (a b c : ℕ) → b ≡ 0 → a ≤ c → a + b ≤ c
        none_more a b c e l = omega (arith, e, l)

        by : HasCarrier rank xs n (count n) → ((ys : List Path) → AreCarried ys n → sum_below count n ≤ sum_over ys h) → sum_below count n + count n ≤ sum_over xs h
        by (inl none) rest = none_more _ _ _ none (rest xs (λ g l. each g (before g n l)))
        by (inr c) rest = one_more xs n (count n) rest (λ g l. each g (before g n l)) c

    pub carried_within : (xs : List Path) (n most : ℕ) → AreCarried xs n → Carrier rank xs n most → sum_below count n + most ≤ sum_over xs h
    carried_within xs n most each c = one_more xs n most (λ ys f. sums_within n ys f) each c
