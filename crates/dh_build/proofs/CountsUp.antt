-- One more on so many bits.
use Rattle.std.proofs.Common.{◌≡◌, ℕ, ◌+◌, ◌*◌, ◌%◌, ◌^◌, ◌<◌, ◌≤◌, ap, ◌∙◌, arith}
use Rattle.std.proofs.Math.Nat.{mod-eq_of_lt}
use Rattle.std.proofs.Math.Pow.{pow_mono}
use Rattle.dh_value.proofs.Masks.{cut_first}

pub counted : (n w : ℕ) → w < 64 → (n + 1) % 2 ^ 64 % (1 * 2 ^ w % 2 ^ 64) ≡ (n + 1) % 2 ^ w
counted n w less =
    let under : w ≤ 63 = omega (arith, less) in
    let most : 2 ^ w ≤ 2 ^ 63 = pow_mono under in
    let one : 1 * 2 ^ w ≡ 2 ^ w = omega arith in
    let small : 2 ^ w < 2 ^ 64 = omega (arith, most) in
    let is : 1 * 2 ^ w % 2 ^ 64 ≡ 2 ^ w = ap (λ (k : ℕ). k % 2 ^ 64) one ∙ mod-eq_of_lt small in
    ap (λ (k : ℕ). (n + 1) % 2 ^ 64 % k) is ∙ cut_first (n + 1) w (omega (arith, less))
