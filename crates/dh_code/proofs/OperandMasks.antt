-- The mask that an operand carries keeps the lowest bits of its kind.
use Rattle.std.proofs.Common.{◌≡◌, ℕ, ◌%◌, ◌^◌, ◌<◌, bit_and, ap, sym, ◌∙◌, subst}
use Rattle.std.proofs.lemmas.Nat.{and_mask, pow_pos}
use Rattle.std.proofs.Math.Nat.{mod-lt}
use Rattle.dh_value.specs.declared.kinds.Kind.{Kind}
use Rattle.dh_value.specs.Words.{IsKind, IsWord, width_of, with_bits}
use Rattle.dh_value.proofs.Masks.{greatest}
use Rattle.dh_code.specs.Operated.{lowest_word, mask_of}

pub masked : (kind : Kind) (n mask : ℕ) → IsKind kind → mask ≡ mask_of kind → bit_and n mask ≡ n % 2 ^ width_of kind
masked kind n mask sized is = ap (λ m. bit_and n m) (is ∙ greatest (width_of kind) sized.1) ∙ and_mask n (width_of kind)

pub masked_word : (kind : Kind) (n mask : ℕ) → IsKind kind → mask ≡ mask_of kind → with_bits kind (bit_and n mask) ≡ lowest_word kind n
masked_word kind n mask sized is = ap (λ b. with_bits kind b) (masked kind n mask sized is)

pub masked_is_word : (kind : Kind) (n mask : ℕ) → IsKind kind → mask ≡ mask_of kind → IsWord (with_bits kind (bit_and n mask))
masked_is_word kind n mask sized is = record {
  sized = sized;
  fits = subst (λ (b : ℕ). b < 2 ^ width_of kind) (sym (masked kind n mask sized is)) (mod-lt n (pow_pos (width_of kind)));
}
