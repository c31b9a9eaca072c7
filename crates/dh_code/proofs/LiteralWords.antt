-- Literals in two's complement.
use Rattle.std.proofs.Common.{◌≡◌, ℕ, ◌+◌, ◌-◌, ◌*◌, ◌/◌, ◌%◌, ◌^◌, ◌<◌, ◌≤◌, pos, ◌+ℤ◌, ◌-ℤ◌, Bool, true, false, refl, sym, ap, ◌∙◌, arith}
use Rattle.std.proofs.lemmas.Nat.{div-add-mod', pow_pos}
use Rattle.std.proofs.Math.Nat.{mod-lt}
use borrow.Author.Differences.{same_in, same_out, sum_is_lem, neg_is}
use Rattle.dh_value.specs.declared.kinds.Kind.{Kind}
use Rattle.dh_value.specs.declared.kinds.Kind.TheVariants as kind
use Rattle.dh_value.specs.Words.{IsKind, width_of, with_bits}
use Rattle.dh_value.proofs.Residues.{Above, residue_is}
use Rattle.dh_value.proofs.Values.{difference_bits}
use Rattle.dh_meaning.specs.Effects.{bits_of}

above_opposite : (m n : ℕ) → 0 < m → Above m (pos 0 -ℤ pos n) (m - n % m)
above_opposite m n p = record { times = n / m + 1; is = sum (n / m) (n % m) (div-add-mod' n m) (mod-lt n p) }
  where
    sum : (d r : ℕ) → d * m + r ≡ n → r < m → (pos 0 -ℤ pos n) +ℤ pos ((d + 1) * m) ≡ pos (m - r)
    sum d r e h = omega (arith, same_in, same_out, sum_is_lem, neg_is)

opposite_bits : (k : Kind) (n : ℕ) → IsKind k → n ≤ 2 ^ 64 → (0 + (2 ^ 64 - n)) % 2 ^ 64 % 2 ^ width_of k ≡ (2 ^ width_of k - n % 2 ^ width_of k) % 2 ^ width_of k
opposite_bits k n sized small =
    difference_bits (kind.Unsigned (width_of k)) (kind.Unsigned (width_of k)) 0 n sized refl small
    ∙ residue_is (2 ^ width_of k) (pos 0 -ℤ pos n) (2 ^ width_of k - n % 2 ^ width_of k) (pow_pos (width_of k)) (above_opposite (2 ^ width_of k) n (pow_pos (width_of k)))

pub negative_low : (k : Kind) (negative : Bool) (n bits width low : ℕ) → IsKind k → n < 2 ^ 64 → negative ≡ true → bits ≡ (0 + (2 ^ 64 - n)) % 2 ^ 64 → width ≡ width_of k → low ≡ bits % 2 ^ width
    → with_bits k low ≡ with_bits k (bits_of k negative n)
negative_low k negative n bits width low sized small is found wide kept =
    let no_more : n ≤ 2 ^ 64 = omega (arith, small) in
    ap (λ b. with_bits k b) (kept ∙ (ap (λ w. bits % 2 ^ w) wide ∙ (ap (λ b. b % 2 ^ width_of k) found ∙ opposite_bits k n sized no_more))) ∙ ap (λ t. with_bits k (bits_of k t n)) (sym is)

pub other_low : (k : Kind) (negative : Bool) (n bits width low : ℕ) → negative ≡ false → bits ≡ n → width ≡ width_of k → low ≡ bits % 2 ^ width → with_bits k low ≡ with_bits k (bits_of k negative n)
other_low k negative n bits width low is found wide kept =
    ap (λ b. with_bits k b) (kept ∙ (ap (λ w. bits % 2 ^ w) wide ∙ ap (λ b. b % 2 ^ width_of k) found)) ∙ ap (λ t. with_bits k (bits_of k t n)) (sym is)
