-- Residues. A number z has the residue n modulo m where some j * m more make it the natural n. So
-- these j add up under sums and differences, and of a product (p - s) * (q - t) with s and t
-- multiples of m, all is a multiple but p * q.
use Rattle.std.proofs.Common.{◌≡◌, ℕ, ◌+◌, ◌-◌, ◌*◌, ◌/◌, ◌%◌, ◌<◌, ◌≤◌, ℤ, pos, negsuc, ◌+ℤ◌, ◌-ℤ◌, ◌*ℤ◌, unsigned_abs, refl, sym, ap, ◌∙◌, arith}
use Rattle.std.proofs.lemmas.Int.{ints, int_rem_euclid_is}
use Rattle.std.proofs.Math.Nat.{mod-eq_of_lt, mod-lt}
use Rattle.std.proofs.lemmas.Nat.{div-add-mod'}
use borrow.Author.Differences.{up, down, same_in, same_out, sum_is_lem, neg_is, product_is}
use Rattle.dh_value.specs.Words.{residue}

-- j multiples of m above z lies the natural n
pub record Above (m : ℕ) (z : ℤ) (n : ℕ) : Type 0 where
  pub times : ℕ
  pub is : z +ℤ pos (times * m) ≡ pos n

pub residue_is : (m : ℕ) (z : ℤ) (n : ℕ) → 0 < m → Above m z n → residue m z ≡ n % m
residue_is m z n p a = ap unsigned_abs (int_rem_euclid_is z (pos m) m a.times n p refl a.is)

pub residue_small : (m : ℕ) (z : ℤ) (n : ℕ) → Above m z n → n < m → residue m z ≡ n
residue_small m z n a h = residue_is m z n (omega arith) a ∙ mod-eq_of_lt h

pub residue-lt : (m : ℕ) (z : ℤ) → 0 < m → residue m z < m
residue-lt m (pos a) p = mod-lt a p
residue-lt m (negsuc a) p = omega arith

-- the residue of a negative number lies above it
pub above_negative : (m a : ℕ) → 0 < m → Above m (negsuc a) (m - 1 - a % m)
above_negative m a p = record { times = a / m + 1; is = sum (a / m) (a % m) (div-add-mod' a m) (mod-lt a p) }
  where
    sum : (d r : ℕ) → d * m + r ≡ a → r < m → negsuc a +ℤ pos ((d + 1) * m) ≡ pos (m - 1 - r)
    sum d r e h = omega (arith, ints)

-- and modulo a divisor of the modulus
pub above_coarser : (v m k : ℕ) (z : ℤ) (n : ℕ) → v ≡ k * m → Above v z n → Above m z n
above_coarser v m k z n e a = record { times = a.times * k; is = ap (λ t. z +ℤ pos t) (again a.times) ∙ a.is }
  where
    again : (t : ℕ) → t * k * m ≡ t * v
    again t = let more : t * (k * m) ≡ t * v = ap (λ n. t * n) (sym e) in omega arith

module _ (m : ℕ) (x y : ℤ) (p q : ℕ) (a : Above m x p) (b : Above m y q) where
  sum_is : (i j : ℕ) → x +ℤ pos (i * m) ≡ pos p → y +ℤ pos (j * m) ≡ pos q → (x +ℤ y) +ℤ pos ((i + j) * m) ≡ pos (p + q)
  sum_is i j e f = omega (arith, same_in, same_out, sum_is_lem)

  pub above_sum : Above m (x +ℤ y) (p + q)
  above_sum = record { times = a.times + b.times; is = sum_is a.times b.times a.is b.is }

  -- v is some multiple of m, added so that the difference of naturals goes below none
  difference_is : (i j v k : ℕ) → x +ℤ pos (i * m) ≡ pos p → y +ℤ pos (j * m) ≡ pos q → v ≡ k * m → q ≤ v → (x -ℤ y) +ℤ pos ((i + k) * m) ≡ pos (p + (v - q) + j * m)
  difference_is i j v k e f g h = omega (arith, same_in, same_out, sum_is_lem, neg_is)

  pub above_difference : (v k : ℕ) → v ≡ k * m → q ≤ v → Above m (x -ℤ y) (p + (v - q) + b.times * m)
  above_difference v k g h = record { times = a.times + k; is = difference_is a.times b.times v k a.is b.is g h }

  product_of : (s t : ℕ) → x +ℤ pos s ≡ pos p → y +ℤ pos t ≡ pos q → (x *ℤ y) +ℤ pos (s * q + t * p) ≡ pos (p * q + s * t)
  product_of s t e f =
      let first : up x + s ≡ p + down x = omega (arith, same_out, sum_is_lem, e) in
      let second : up y + t ≡ q + down y = omega (arith, same_out, sum_is_lem, f) in
      let above = ap (λ n. n * up y) first in
      let below = ap (λ n. n * down y) first in
      let left = ap (λ n. p * n) second in
      let right = ap (λ n. s * n) second in
      omega (arith, same_in, sum_is_lem, product_is)

  pub above_product : Above m (x *ℤ y) (p * q + a.times * (b.times * m) * m)
  above_product =
      let s = a.times * m in
      let t = b.times * m in
      let is : (x *ℤ y) +ℤ pos (s * q + t * p) ≡ pos (p * q + s * t) = product_of s t a.is b.is in
      let sums : (a.times * q + b.times * p) * m ≡ s * q + t * p = sums_of a.times b.times in
      let products : p * q + a.times * (b.times * m) * m ≡ p * q + s * t = products_of a.times b.times in
      record { times = a.times * q + b.times * p; is = ap (λ n. (x *ℤ y) +ℤ pos n) sums ∙ is ∙ ap pos (sym products) }
    where
      sums_of : (i j : ℕ) → (i * q + j * p) * m ≡ i * m * q + j * m * p
      sums_of i j = omega arith

      products_of : (i j : ℕ) → p * q + i * (j * m) * m ≡ p * q + i * m * (j * m)
      products_of i j = omega arith
