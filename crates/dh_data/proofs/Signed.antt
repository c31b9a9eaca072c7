-- Two's complement in w bits. The greatest word of w bits is 2^w - 1; half of it parts the words
-- whose number is their value from those whose number is 2^w less.
use Rattle.std.proofs.Common.{◌≡◌, ℕ, ◌-◌, ◌*◌, ◌/◌, ◌<◌, ◌≤◌, ◌^◌, nat_lt, false, if◌then◌else◌, pos, negsuc, ◌-ℤ◌, ap, ◌∙◌, arith}
use Rattle.std.proofs.lemmas.Bool.{lt-ltb, false_from_ne_true, ltb-true}
use Rattle.std.proofs.lemmas.Int.{ints}
use Rattle.std.proofs.lemmas.Nat.{pow_pos}
use Rattle.std.proofs.lemmas.Nat.Bits.{ones_shr}
use Rattle.std.proofs.Math.Pow.{pow_mono}
use mir.Syntax.{w64}
use mir.Val.{to_z, of_z}

-- the greatest word
pub greatest_word : (w : ℕ) → w ≤ 64 → (2 ^ 64 - 1) / 2 ^ (64 - w) ≡ 2 ^ w - 1
greatest_word w h =
    let same : 64 - (64 - w) ≡ w = omega (arith, h) in
    ones_shr 64 (64 - w) (omega arith) ∙ ap (λ n. 2 ^ n - 1) same

pub word_within : (bits w : ℕ) → w ≤ 64 → bits < 2 ^ w → bits ≤ (2 ^ 64 - 1) / 2 ^ (64 - w)
word_within bits w h small =
    let g : (2 ^ 64 - 1) / 2 ^ (64 - w) ≡ 2 ^ w - 1 = greatest_word w h in
    let p : 0 < 2 ^ w = pow_pos w in
    omega (arith, g, small, p)

low_half : (bits g P : ℕ) → g ≡ P - 1 → 0 < P → P ≤ 2 ^ 64 → bits ≤ g / 2 → to_z w64 bits ≡ (if nat_lt (2 * bits) P then pos bits else pos bits -ℤ pos P)
low_half bits g P is least most low =
    let below : 2 * bits < P = omega (arith, is, least, low) in
    let small : bits < 2 ^ 63 = omega (arith, below, most) in
    rw (lt-ltb (2 * bits) P below) (omega (arith, ints, small))

high_half : (bits g P : ℕ) → g ≡ P - 1 → 0 < P → P ≤ 2 ^ 64 → bits < P → g / 2 < bits
    → to_z w64 (of_z w64 (negsuc 0 -ℤ to_z w64 (g - bits))) ≡ (if nat_lt (2 * bits) P then pos bits else pos bits -ℤ pos P)
high_half bits g P is least most small high =
    let above : P ≤ 2 * bits = omega (arith, is, least, high) in
    let no : nat_lt (2 * bits) P ≡ false = false_from_ne_true _ (λ h. let below : 2 * bits < P = ltb-true (2 * bits) P h in absurd (omega (arith, above, below))) in
    let less : g - bits < 2 ^ 63 = omega (arith, is, least, most, small, above) in
    rw no (omega (arith, ints, less, is, least, small, above))

pub positive : (bits w : ℕ) → w ≤ 64 → bits ≤ (2 ^ 64 - 1) / 2 ^ (64 - w) / 2 → to_z w64 bits ≡ (if nat_lt (2 * bits) (2 ^ w) then pos bits else pos bits -ℤ pos (2 ^ w))
positive bits w h low = low_half bits ((2 ^ 64 - 1) / 2 ^ (64 - w)) (2 ^ w) (greatest_word w h) (pow_pos w) (pow_mono h) low

pub negative : (bits w : ℕ) → w ≤ 64 → bits < 2 ^ w → (2 ^ 64 - 1) / 2 ^ (64 - w) / 2 < bits
    → to_z w64 (of_z w64 (negsuc 0 -ℤ to_z w64 ((2 ^ 64 - 1) / 2 ^ (64 - w) - bits))) ≡ (if nat_lt (2 * bits) (2 ^ w) then pos bits else pos bits -ℤ pos (2 ^ w))
negative bits w h small high = high_half bits ((2 ^ 64 - 1) / 2 ^ (64 - w)) (2 ^ w) (greatest_word w h) (pow_pos w) (pow_mono h) small high
