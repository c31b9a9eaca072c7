-- A number of 64 bits is below each greater power of two.
use Rattle.std.proofs.Common.{◌≡◌, ℕ, ◌^◌, ◌<◌, ◌≤◌, nat_lt, nat_le, arith, pow_mono}
use Rattle.std.proofs.lemmas.Bool.Decides.{nat_tests}

pub below_past : (n bits : ℕ) → n < 2 ^ 64 → 64 ≤ bits → nat_le 64 bits ≡ nat_lt n (2 ^ bits)
below_past n bits small past = let more : 2 ^ 64 ≤ 2 ^ bits = pow_mono past in let less : n < 2 ^ bits = omega (arith, more, small) in grind (arith, nat_tests)
