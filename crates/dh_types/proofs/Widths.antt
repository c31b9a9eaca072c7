-- Numbers of so many bits.
use Rattle.std.proofs.Common.{ℕ, ◌^◌, ◌<◌, ◌≤◌, ◌↔◌, IsTrue, nat_le, arith}
use Rattle.std.proofs.lemmas.Bool.Decides.{nat_tests}
use Rattle.std.proofs.Math.Pow.{pow_mono}

-- every number of 64 bits is within a width of as many
pub all_within : (n w : ℕ) → n < 2 ^ 64 → 64 ≤ w → IsTrue (nat_le 64 w) ↔ (n < 2 ^ w)
all_within n w h g = let more : 2 ^ 64 ≤ 2 ^ w = pow_mono g in let less : n < 2 ^ w = omega arith in grind (arith, nat_tests)
