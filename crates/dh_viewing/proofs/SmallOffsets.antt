-- An offset that leads from an index of a dimension to another index of it is small: its multiple by the factor is
-- below the size. So a test of the offset by itself, against a constant, loses nothing, and behind it the sum needs
-- no more bits than the size and a sign.
use Rattle.std.proofs.Common.{◌≡◌, ℕ, suc, ◌+◌, ◌-◌, ◌*◌, ◌/◌, ◌<◌, ◌≤◌, true, inl, inr, sym, ap, ◌∙◌, arith}
use Rattle.std.specs.Prelude.{ℤ, pos, negsuc, ◌+ℤ◌, ◌*ℤ◌, unsigned_abs}
use Rattle.std.proofs.lemmas.Bool.{cases_lt}
use Rattle.std.proofs.lemmas.Int.{ints}
use Rattle.std.proofs.Math.IntN.{pos-*ℤ-pos, pos-*ℤ-negsuc}
use Rattle.std.proofs.Math.Nat.{div-lt_iff_lt-mul, mul_comm}
use Rattle.dh_tree.specs.ViewElements.{is_index}
use Rattle.dh_viewing.proofs.BankDigits.{natural_of}

few_steps : (k x size : ℕ) → 1 ≤ k → x * k < size → x ≤ (size - 1) / k
few_steps k x size l h = elim (cases_lt ((size - 1) / k) x) [
  | inl over ↦ (let m = (div-lt_iff_lt-mul {k = k} {x = size - 1} {y = x} l).0 over in absurd (omega (arith, m, h)))
  | inr fits ↦ fits
]

steps_of : (k size : ℕ) (e : ℤ) (n r : ℕ) → (pos k *ℤ e) +ℤ pos n ≡ pos r → n < size → r < size → unsigned_abs e * k < size
steps_of k size (pos x) n r is below there =
    let z : k * x + n ≡ r = (let p = pos-*ℤ-pos k x in omega (arith, ints, p, is)) in
    omega (arith, z, there, mul_comm x k)
steps_of k size (negsuc x) n r is below there =
    let z : r + k * suc x ≡ n = (let p = pos-*ℤ-negsuc k x in omega (arith, ints, p, is)) in
    omega (arith, z, below, mul_comm (suc x) k)

pub small_offset : (size k : ℕ) (e i : ℤ) → 1 ≤ k → is_index size i ≡ true → is_index size ((pos k *ℤ e) +ℤ i) ≡ true → unsigned_abs e ≤ (size - 1) / k
small_offset size k e i l inside there =
    let n = natural_of size i inside in
    let r = natural_of size ((pos k *ℤ e) +ℤ i) there in
    let z : (pos k *ℤ e) +ℤ pos n.n ≡ pos r.n = ap (λ (y : ℤ). (pos k *ℤ e) +ℤ y) (sym n.is) ∙ r.is in
    few_steps k (unsigned_abs e) size l (steps_of k size e n.n r.n z n.below r.below)
