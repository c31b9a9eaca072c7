-- Powers of two past the width of a machine's numbers: no number of 64 bits has a bit from the 64th on, nor reaches
-- the 64th power.
use Rattle.std.proofs.Common.{◌≡◌, ℕ, ◌*◌, ◌/◌, ◌%◌, ◌^◌, ◌<◌, ◌≤◌, ◌==◌, ◌↔◌, ◌⊎◌, inl, inr, IsTrue, min, nat_lt, false, sym, ap, ◌∙◌, subst, arith, pow_mono}
use Rattle.std.proofs.lemmas.Bool.{cases_lt}
use Rattle.std.proofs.lemmas.Bool.Decides.{nat_tests}
use Rattle.std.proofs.Math.Nat.{mod-eq_of_lt}
use Rattle.dh_value.proofs.Masks.{shr_none}

off : (by : ℕ) → 64 ≤ by → nat_lt by 64 ≡ false
off by e = grind (arith, nat_tests)

pub bit_past : (n by : ℕ) → n < 2 ^ 64 → 64 ≤ by → nat_lt by 64 ≡ (n / 2 ^ by % 2 == 1)
bit_past n by small e = off by e ∙ ap (λ (q : ℕ). q % 2 == 1) (shr_none n by small e)

past : (n by : ℕ) → n < 2 ^ 64 → 64 ≤ by → n < 2 ^ by
past n by small e = let more : 2 ^ 64 ≤ 2 ^ by = pow_mono e in omega (arith, more, small)

pub few_past : (n by : ℕ) → n < 2 ^ 64 → 64 ≤ by → IsTrue (nat_lt by 64) ↔ (2 ^ by ≤ n)
few_past n by small e = let o = off by e in ((λ t. absurd (cc)), (λ l. let m = past n by small e in absurd (omega (arith, l, m))))

pub power_past : (n by : ℕ) → n < 2 ^ 64 → 64 ≤ by → IsTrue (nat_lt by 64) ↔ (n ≡ 2 ^ by)
power_past n by small e = let o = off by e in ((λ t. absurd (cc)), (λ l. let m = past n by small e in absurd (omega (arith, l, m))))

near : (by n : ℕ) → n < 2 ^ 64 → 2 ^ by ≤ n → by < 64
near by n small l = of (cases_lt by 64)
  where
    of : (by < 64) ⊎ (64 ≤ by) → by < 64
    of (inl h) = h
    of (inr h) = let m = past n by small h in absurd (omega (arith, l, m))

pub half_least : (by m size : ℕ) → size < 2 ^ 64 → 2 ^ by ≤ size → m ≡ min by 63 → 1 * 2 ^ m % 2 ^ 64 ≡ min size (2 ^ by)
half_least by m size small l e =
    let few = near by size small l in
    let same : m ≡ by = omega (arith, e, few) in
    subst (λ (n : ℕ). 1 * 2 ^ n % 2 ^ 64 ≡ min size (2 ^ by)) (sym same) (ap (λ (n : ℕ). n % 2 ^ 64) one ∙ (mod-eq_of_lt below ∙ least))
  where
    one : 1 * 2 ^ by ≡ 2 ^ by
    one = omega arith

    below : 2 ^ by < 2 ^ 64
    below = omega (arith, l, small)

    least : 2 ^ by ≡ min size (2 ^ by)
    least = omega (arith, l)
