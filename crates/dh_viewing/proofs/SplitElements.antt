-- The elements of a split in the dimension that it splits: of one row of its banks each copy has as many as it has
-- banks.
use Rattle.std.proofs.Common.{◌≡◌, ℕ, ◌+◌, ◌*◌, ◌/◌, ◌%◌, ◌<◌, ◌≤◌, sym, ap, subst, ◌∙◌, arith}
use Rattle.std.proofs.lemmas.Nat.{div-mul-add, mod-mul-add, div-add-mod'}
use Rattle.std.proofs.Math.Nat.{mul_assoc, mod-lt, mod-eq_of_lt, mul-div_cancel, mul_comm}
use Rattle.dh_tree.proofs.BankElements.{place_below, row_below}
use Rattle.dh_tree.specs.ViewElements.{dealt_index}

-- `factor` copies share `banks` banks and `size` elements
pub record Shared (banks factor share size part : ℕ) : Type 0 where
  pub factors : 1 ≤ factor
  pub shares : 1 ≤ share
  pub all_banks : share * factor ≡ banks
  pub all_elements : part * factor ≡ size
  -- the banks of a copy divide its elements
  pub rows : ℕ
  pub row_wise : rows * share ≡ part

module _ {banks factor share size part : ℕ} (s : Shared banks factor share size part) where
  pub share_is : banks / factor ≡ share
  share_is = ap (λ n. n / factor) (sym s.all_banks) ∙ mul-div_cancel share s.factors

  -- the place in a row of the banks
  pub column : (a b : ℕ) → a < factor → a * share + b % share < banks
  column a b h =
      let l = place_below a share (b % share) factor h (mod-lt b {m = share} s.shares) in
      let e = s.all_banks in
      omega (arith, l, e, mul_comm factor share)

  pub dealt_column : (a b : ℕ) → a < factor → dealt_index banks share a b % banks ≡ a * share + b % share
  dealt_column a b h = ap (λ n. n % banks) (regroup (b / share * banks) (a * share) (b % share)) ∙ mod-mul-add (b / share) banks (a * share + b % share) (column a b h)
    where
      regroup : (x y z : ℕ) → x + y + z ≡ x + (y + z)
      regroup x y z = omega arith

  -- it is one of the dimension
  pub dealt_below : (a b : ℕ) → a < factor → b < part → dealt_index banks share a b < size
  dealt_below a b h l =
      let row : b / share < s.rows = row_below b s.rows share (subst (λ (n : ℕ). b < n) (sym s.row_wise) l) in
      let place = place_below (b / share) banks (a * share + b % share) s.rows row (column a b h) in
      let all : s.rows * banks ≡ size =
      ap (λ n. s.rows * n) (sym s.all_banks) ∙ (sym (mul_assoc s.rows share factor) ∙ (ap (λ n. n * factor) s.row_wise ∙ s.all_elements))
      in
      omega (arith, place, all)

  -- the first row of a bank: its number is the place in the row
  pub first_row : (bank : ℕ) → dealt_index banks share (bank / share) (bank % share) ≡ bank
  first_row bank =
      let c = mod-lt bank {m = share} s.shares in
      let none : bank % share / share ≡ 0 = small (bank % share) share c in
      let stays : bank % share % share ≡ bank % share = mod-eq_of_lt c in
      ap (λ n. n * banks + bank / share * share + bank % share % share) none
      ∙ (ap (λ n. 0 * banks + bank / share * share + n) stays ∙ (zero_first banks (bank / share * share) (bank % share) ∙ div-add-mod' bank share))
    where
      small : (n w : ℕ) → n < w → n / w ≡ 0
      small n w l = ap (λ k. k / w) (sym (nothing w n)) ∙ div-mul-add 0 w n l
        where
          nothing : (w n : ℕ) → 0 * w + n ≡ n
          nothing w n = omega arith

      zero_first : (w x y : ℕ) → 0 * w + x + y ≡ x + y
      zero_first w x y = omega arith
