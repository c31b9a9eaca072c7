-- Masks and shifts of numbers of 64 bits, as remainders and quotients by powers of 2. With the two
-- halves of 2 ^ 64 = 2 ^ (64 - w) * 2 ^ w, each is a law of std on the digits of a number in base 2.
use Rattle.std.proofs.Common.{◌≡◌, ℕ, ◌+◌, ◌-◌, ◌*◌, ◌/◌, ◌%◌, ◌^◌, ◌<◌, ◌≤◌, ◌↔◌, ◌⊎◌, inl, inr, ⊎_elim, IsTrue, nat_eq, nat_le, not, bit_or, sym, ap, ◌∙◌, arith}
use Rattle.std.proofs.lemmas.Bool.{cases_lt}
use Rattle.std.proofs.lemmas.Bool.Decides.{nat_tests}
use Rattle.std.proofs.lemmas.Nat.{le-div, pow_pos, pow-add, or_shifted, or_comm}
use Rattle.std.proofs.lemmas.Nat.Bits.{ones_shr}
use Rattle.std.proofs.Math.Nat.{div-eq_of_lt, mul-mod_left}
use Rattle.std.proofs.Math.Pow.{pow_mono, mod-mod-pow}

-- the greatest number of w bits
pub greatest : (w : ℕ) → w ≤ 64 → (2 ^ 64 - 1) / 2 ^ (64 - w) ≡ 2 ^ w - 1
greatest w h =
    let same : 64 - (64 - w) ≡ w = omega arith in
    ones_shr 64 (64 - w) (omega arith) ∙ ap (λ n. 2 ^ n - 1) same

-- 2 ^ 64 in multiples of 2 ^ w
pub whole : (w : ℕ) → w ≤ 64 → 2 ^ 64 ≡ 2 ^ (64 - w) * 2 ^ w
whole w h = let sum : 64 ≡ 64 - w + w = omega arith in ap (λ n. 2 ^ n) sum ∙ pow-add 2 (64 - w) w

-- to keep 64 bits first changes no lower one
pub cut_first : (n w : ℕ) → w ≤ 64 → n % 2 ^ 64 % 2 ^ w ≡ n % 2 ^ w
cut_first n w h = let sum : 64 ≡ 64 - w + w = omega arith in ap (λ k. n % 2 ^ k % 2 ^ w) sum ∙ mod-mod-pow n (64 - w) w

-- nothing is left of a number shifted out of its width
pub shl_none : (x by w : ℕ) → w ≤ by → x * 2 ^ by % 2 ^ w ≡ 0
shl_none x by w h =
    let sum : by ≡ by - w + w = omega arith in
    let parts : 2 ^ by ≡ 2 ^ (by - w) * 2 ^ w = ap (λ n. 2 ^ n) sum ∙ pow-add 2 (by - w) w in
    let times : x * 2 ^ by ≡ x * 2 ^ (by - w) * 2 ^ w = omega (arith, ap (λ n. x * n) parts) in
    ap (λ n. n % 2 ^ w) times ∙ mul-mod_left (x * 2 ^ (by - w)) (2 ^ w)

pub shr_none : (x by : ℕ) → x < 2 ^ 64 → 64 ≤ by → 0 ≡ x / 2 ^ by
shr_none x by small h = sym (div-eq_of_lt (let more : 2 ^ 64 ≤ 2 ^ by = pow_mono h in omega arith))

-- the highest of w bits is set from half of 2 ^ w on
pub half : (w : ℕ) → 1 ≤ w → 2 ^ w ≡ 2 ^ (w - 1) + 2 ^ (w - 1)
half w h = let sum : w ≡ 1 + (w - 1) = omega arith in ap (λ n. 2 ^ n) sum ∙ pow-add 2 1 (w - 1) ∙ omega arith

-- a quotient is 0 below the divisor, and only there
none_tells : (n m : ℕ) → 0 < m → ((n / m ≡ 0) × (n < m)) ⊎ ((0 < n / m) × (m ≤ n))
none_tells n m p = ⊎_elim (λ l. inl (div-eq_of_lt l, l)) (λ g. inr (le-div 1 n m p (omega arith), g)) (cases_lt n m)

pub none_below : (n m : ℕ) → 0 < m → IsTrue (nat_eq (n / m) 0) ↔ (n < m)
none_below n m p = by (none_tells n m p)
  where
    by : ((n / m ≡ 0) × (n < m)) ⊎ ((0 < n / m) × (m ≤ n)) → IsTrue (nat_eq (n / m) 0) ↔ (n < m)
    by (inl h) = grind (arith, nat_tests)
    by (inr h) = grind (arith, nat_tests)

pub some_above : (n m : ℕ) → 0 < m → IsTrue (not (nat_eq (n / m) 0)) ↔ (m ≤ n)
some_above n m p = by (none_tells n m p)
  where
    by : ((n / m ≡ 0) × (n < m)) ⊎ ((0 < n / m) × (m ≤ n)) → IsTrue (not (nat_eq (n / m) 0)) ↔ (m ≤ n)
    by (inl h) = grind (arith, nat_tests)
    by (inr h) = grind (arith, nat_tests)

-- every number of 128 bits is below
pub wide : (n w : ℕ) → n < 2 ^ 128 → 128 ≤ w → IsTrue (nat_le 128 w) ↔ (n < 2 ^ w)
wide n w h g = let more : 2 ^ 128 ≤ 2 ^ w = pow_mono g in let less : n < 2 ^ w = omega arith in grind (arith, nat_tests)

-- every bit from w on is set beside the lower ones
pub high_set : (n w : ℕ) → w ≤ 64 → n < 2 ^ w → bit_or n (2 ^ 64 - 1 - (2 ^ w - 1)) ≡ n + (2 ^ 64 - 2 ^ w)
high_set n w h small =
    let p : 0 < 2 ^ w = pow_pos w in
    let k = 2 ^ (64 - w) in
    let one : 0 < k = pow_pos (64 - w) in
    let all : 2 ^ 64 ≡ k * 2 ^ w = whole w h in
    let less : (k - 1) * 2 ^ w + 2 ^ w ≡ k * 2 ^ w = step k (2 ^ w) one in
    let is : 2 ^ 64 - 1 - (2 ^ w - 1) ≡ (k - 1) * 2 ^ w = omega arith in
    ap (bit_or n) is ∙ or_comm n ((k - 1) * 2 ^ w) ∙ or_shifted (k - 1) w n small ∙ omega arith
  where
    step : (k m : ℕ) → 0 < k → (k - 1) * m + m ≡ k * m
    step k m h = let sum : k ≡ k - 1 + 1 = omega arith in sym (ap (λ n. n * m) sum ∙ omega arith)
