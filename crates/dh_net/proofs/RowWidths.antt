-- The width of row numbers is the least that has the rows. Widths are tried from 1 on, so the first
-- that has them is the least; there is one, since a number is below 2 to its own power.
use Rattle.std.proofs.Common.{◌≡◌, ℕ, ◌+◌, ◌<◌, ◌≤◌, ◌^◌, zero, suc, arith, true, Bool, refl, if◌then◌else◌}
use Rattle.std.specs.Prelude.{nat_le}
use Rattle.std.proofs.Common.{subst, inl, inr, false}
use Rattle.std.proofs.lemmas.Bool.{leb-true, le-leb, cases_lt}
use Rattle.std.proofs.Math.Pow.{pow-lt}
use Rattle.dh_net.specs.RowWidths.{IsRowWidth, row_width_from, row_width_of}

-- two least widths are equal
one_width : (rows a b : ℕ) → IsRowWidth rows a → IsRowWidth rows b → a ≡ b
one_width rows a b p q =
    let low : a ≤ b = p.none_less b q.least q.all in
    let high : b ≤ a = q.none_less a p.least p.all in
    omega arith

-- a number is below 2 to its own power
below_power : (n : ℕ) → n < 2 ^ n
below_power zero = omega arith
below_power (suc n) =
    let h : n < 2 ^ n = below_power n in
    let more : 2 ^ n < 2 ^ suc n = pow-lt (omega arith) in
    omega arith

too_many : (rows w v : ℕ) → nat_le rows (2 ^ w) ≡ false → rows ≤ 2 ^ v → v ≡ w → ⊥
too_many rows w v e q same =
    let h : rows ≤ 2 ^ w = subst (λ (k : ℕ). rows ≤ 2 ^ k) same q in
    let t : nat_le rows (2 ^ w) ≡ true = le-leb rows (2 ^ w) h in
    cc

next : (rows w : ℕ) → nat_le rows (2 ^ w) ≡ false → ((v : ℕ) → 1 ≤ v → rows ≤ 2 ^ v → w ≤ v) → (v : ℕ) → 1 ≤ v → rows ≤ 2 ^ v → w + 1 ≤ v
next rows w e least v p q =
    let low : w ≤ v = least v p q in
    elim (cases_lt w v) [ inl small ↦ omega arith | inr large ↦ absurd (too_many rows w v e q (omega arith)) ]

from_is : (n rows w : ℕ) → 1 ≤ w → rows ≤ 2 ^ (w + n) → ((v : ℕ) → 1 ≤ v → rows ≤ 2 ^ v → w ≤ v) → IsRowWidth rows (row_width_from n rows w)
from_is zero rows w h all least = record { least = h; all = subst (λ (v : ℕ). rows ≤ 2 ^ v) (omega arith) all; none_less = least }
from_is (suc n) rows w h all least = by_test (nat_le rows (2 ^ w)) refl (λ l. from_is n rows (w + 1) (omega arith) (subst (λ (v : ℕ). rows ≤ 2 ^ v) (omega arith) all) l)
  where
    by_test : (t : Bool) → nat_le rows (2 ^ w) ≡ t → (((v : ℕ) → 1 ≤ v → rows ≤ 2 ^ v → w + 1 ≤ v) → IsRowWidth rows (row_width_from n rows (w + 1))) → IsRowWidth rows (if t then w else row_width_from n rows (w + 1))
    by_test true e more = record { least = h; all = leb-true rows (2 ^ w) e; none_less = least }
    by_test false e more = more (next rows w e least)

pub row_width_met : (rows : ℕ) → IsRowWidth rows (row_width_of rows)
unfolding row_width_of
row_width_met rows =
    let low : rows < 2 ^ rows = below_power rows in
    let more : 2 ^ rows < 2 ^ (1 + rows) = pow-lt (omega arith) in
    from_is rows rows 1 (omega arith) (omega arith) (λ v p q. p)

pub row_width_is : (rows w : ℕ) → IsRowWidth rows w → w ≡ row_width_of rows
row_width_is rows w h = one_width rows w (row_width_of rows) h (row_width_met rows)
