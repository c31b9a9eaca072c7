-- Numbers digit by digit: a factor from its highest bit on, a quotient with one bit more, and row-major numbers.
use Rattle.std.proofs.Common.{◌≡◌, ℕ, zero, suc, ◌+◌, ◌-◌, ◌*◌, ◌/◌, ◌%◌, ◌^◌, ◌<◌, ◌≤◌, nat_le, true, false, sym, ap, ◌∙◌, subst, arith}
use Rattle.std.proofs.lemmas.Bool.Decides.{nat_tests}
use Rattle.std.proofs.lemmas.Nat.{div-add-mod', div-mul-add, mod-mul-add}
use Rattle.std.proofs.Math.Nat.{div-div-eq-div-mul, div-mul-le_self, mul-le-mul_right}

-- what the bits of a factor from this one on are
abbrev pub high : (factor by : ℕ) → ℕ
high factor by = factor / 2 ^ by * 2 ^ by

pub double : (by : ℕ) → 2 ^ suc by ≡ 2 ^ by * 2
double by = omega arith

half_quotient : (factor by : ℕ) → factor / 2 ^ suc by ≡ factor / 2 ^ by / 2
half_quotient factor by = ap (λ m. factor / m) (double by) ∙ sym (div-div-eq-div-mul factor (2 ^ by) 2)

-- a bit that is set, or not, comes to those above
split : (q p : ℕ) → q * p ≡ q / 2 * (p * 2) + q % 2 * p
split q p = of (q / 2) (q % 2) (div-add-mod' q 2)
  where
    of : (h b : ℕ) → h * 2 + b ≡ q → q * p ≡ h * (p * 2) + b * p
    of h b e = subst (λ n. n * p ≡ h * (p * 2) + b * p) e (omega arith)

pub high_on : (factor by : ℕ) → factor / 2 ^ by % 2 ≡ 1 → high factor by ≡ high factor (suc by) + 2 ^ by
high_on factor by on =
    split (factor / 2 ^ by) (2 ^ by)
    ∙ (ap (λ b. factor / 2 ^ by / 2 * (2 ^ by * 2) + b * 2 ^ by) on
    ∙ (ap (λ q. q * (2 ^ by * 2) + 1 * 2 ^ by) (sym (half_quotient factor by)) ∙ (ap (λ m. factor / 2 ^ suc by * m + 1 * 2 ^ by) (sym (double by)) ∙ omega arith)))

pub high_off : (factor by : ℕ) → factor / 2 ^ by % 2 ≡ 0 → high factor by ≡ high factor (suc by)
high_off factor by off =
    split (factor / 2 ^ by) (2 ^ by)
    ∙ (ap (λ b. factor / 2 ^ by / 2 * (2 ^ by * 2) + b * 2 ^ by) off
    ∙ (ap (λ q. q * (2 ^ by * 2) + 0 * 2 ^ by) (sym (half_quotient factor by)) ∙ (ap (λ m. factor / 2 ^ suc by * m + 0 * 2 ^ by) (sym (double by)) ∙ omega arith)))

pub high_most : (factor by : ℕ) → high factor by ≤ factor
high_most factor by = div-mul-le_self factor (2 ^ by)

-- One bit of a quotient. What is divided is q * (p + p) + r, with r below p + p.

pub holds : (p r : ℕ) → nat_le p r ≡ true → p ≤ r
holds p r e = grind (arith, nat_tests)

pub fails : (p r : ℕ) → nat_le p r ≡ false → r < p
fails p r e = grind (arith, nat_tests)

pub less_left : (p r : ℕ) → r < p + p → nat_le p r ≡ true → r - p < p
less_left p r l e = let h = holds p r e in omega (arith, l, h)

pub all_left : (p r : ℕ) → nat_le p r ≡ false → r < p
all_left p r e = fails p r e

pub same_on : (q p r : ℕ) → nat_le p r ≡ true → (q * 2 + 1) * p + (r - p) ≡ q * (p + p) + r
same_on q p r e = let h = holds p r e in omega (arith, h)

pub same_off : (q p r : ℕ) → (q * 2 + 0) * p + r ≡ q * (p + p) + r
same_off q p r = omega arith

-- a number below a bound, as its quotient
pub quotient_less : (q p r bound : ℕ) → 1 ≤ p → q * p + r < bound → q < bound
quotient_less q zero r bound some l = absurd (omega (arith, some))
quotient_less q (suc p) r bound some l = let m : q ≤ q * suc p = mul_more q p in omega (arith, l, m)
  where
    mul_more : (q p : ℕ) → q ≤ q * suc p
    mul_more q p = omega arith

pub quotient_is : (q banks r : ℕ) → r < banks → (q * banks + r) / banks ≡ q
quotient_is q banks r l = div-mul-add q banks r l

pub remainder_is : (q banks r : ℕ) → r < banks → (q * banks + r) % banks ≡ r
remainder_is q banks r l = mod-mul-add q banks r l

-- Row-major numbers: a digit more keeps the number within what its digits allow.
pub digit_within : (s factor digit rest bound : ℕ) → digit < factor → (s + 1) * (factor * rest) ≤ bound → (s * factor + digit + 1) * rest ≤ bound
digit_within s factor digit rest bound l h = of (mul-le-mul_right rest (grow (s * factor)))
  where
    grow : (t : ℕ) → t + digit + 1 ≤ t + factor
    grow t = omega (arith, l)

    of : (s * factor + digit + 1) * rest ≤ (s * factor + factor) * rest → (s * factor + digit + 1) * rest ≤ bound
    of m = let e : (s + 1) * (factor * rest) ≡ (s * factor + factor) * rest = omega arith in omega (arith, m, h, e)

pub within_less : (s rest bound : ℕ) → 1 ≤ rest → (s + 1) * rest ≤ bound → s < bound
within_less s zero bound some h = absurd (omega (arith, some))
within_less s (suc rest) bound some h = let m : s + 1 ≤ (s + 1) * suc rest = omega arith in omega (arith, h, m)

pub digit_joined : (s factor digit rest n : ℕ) → (s * factor + digit) * rest + n ≡ s * (factor * rest) + (digit * rest + n)
digit_joined s factor digit rest n = omega arith
