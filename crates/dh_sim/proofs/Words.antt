-- Masking and cutting off. The mask that keeps w low bits is 2^w - 1, and to take what is below 2^64
-- first changes nothing of what is below 2^w.
use Rattle.std.proofs.Common.{◌≡◌, ℕ, ◌+◌, ◌-◌, ◌%◌, ◌/◌, ◌^◌, ◌≤◌, ap, ◌∙◌, arith}
use Rattle.std.specs.Prelude.{bit_and}
use Rattle.std.proofs.lemmas.Nat.Bits.{ones_shr}
use Rattle.std.proofs.lemmas.Nat.{and_mask}

pub low_mask : (x w : ℕ) → w ≤ 64 → bit_and x ((2 ^ 64 - 1) / 2 ^ (64 - w)) ≡ x % 2 ^ w
low_mask x w h =
    let e : 64 - (64 - w) ≡ w = omega arith in
    ap (λ m. bit_and x m) (ones_shr 64 (64 - w) (omega arith) ∙ ap (λ k. 2 ^ k - 1) e) ∙ and_mask x w
