-- How many bits a number takes: each power of two below that many is at most the number, and the next one is above
-- it. So every part that a long division takes away is below the size of its dimension.
use Rattle.std.proofs.Common.{◌≡◌, ℕ, zero, suc, ◌-◌, ◌*◌, ◌/◌, ◌%◌, ◌^◌, ◌<◌, ◌≤◌, ◌⊎◌, inl, inr, refl, sym, ap, ◌∙◌, subst, arith, pow_mono}
use Rattle.std.specs.Int.Count.{leading_of_zero}
use Rattle.std.proofs.lemmas.Bool.{cases_lt}
use Rattle.std.proofs.lemmas.Nat.{leading_length, leading_top, pow_pos}
use Rattle.std.proofs.Math.Nat.{mod-eq_of_lt, mul-le-mul_left, le-mul_of_pos_right}
use Rattle.dh_tree.specs.declared.tables.Dim.{Dim}
use Rattle.dh_tree.specs.Shapes.{IsDim}
use Rattle.dh_tree.proofs.BankElements.{whole}
use Rattle.dh_rows.specs.MadeOperations.{bits_in, power_in}

pub bits_above : (n : ℕ) → n < 2 ^ 64 → n < 2 ^ bits_in n
bits_above n small =
    let (m, e, above, least) = leading_length 64 n small in
    let own : m ≡ bits_in n = omega (arith, e) in
    subst (λ i. n < 2 ^ i) own above

pub bits_least : (n by : ℕ) → n < 2 ^ 64 → by < bits_in n → 2 ^ by ≤ n
bits_least n by small l = of (cases_lt 0 n)
  where
    some : 0 < n → 2 ^ by ≤ n
    some h =
        let (j, e, least, above) = leading_top 64 n h small in
        let below : by ≤ j = omega (arith, e, l) in
        let more : 2 ^ by ≤ 2 ^ j = pow_mono below in
        omega (arith, more, least)

    of : (0 < n) ⊎ (n ≤ 0) → 2 ^ by ≤ n
    of (inl h) = some h
    of (inr h) =
        let none : n ≡ 0 = omega (arith, h) in
        let gone : bits_in n ≡ 0 = ap (λ m. bits_in m) none ∙ (ap (λ z. 64 - z) (leading_of_zero 64) ∙ refl) in
        absurd (omega (arith, l, gone))

pub bits_most : (n : ℕ) → bits_in n ≤ 64
bits_most n = omega arith

pub power_most : (n : ℕ) → power_in n < 64
power_most n = let l = bits_most n in omega (arith, l)

power_one : (n p : ℕ) → n ≡ 2 ^ p → (n ≡ 1 → ⊥) → 1 ≤ p
power_one n zero e h = absurd (h (e ∙ refl))
power_one n (suc p) e h = omega arith

pub power_least : (n : ℕ) → n ≡ 2 ^ power_in n → (n ≡ 1 → ⊥) → 1 ≤ power_in n
power_least n e h = power_one n (power_in n) e h

less_part : (banks rows part : ℕ) → 1 ≤ banks → 1 ≤ rows → part ≤ rows - 1 → banks * part < rows * banks
less_part banks zero part some more l = absurd (omega (arith, more))
less_part banks (suc rows) part some more l = grow (less part rows (omega (arith, l)))
  where
    less : (a b : ℕ) → a ≤ b → banks * a ≤ banks * b
    less a b h = mul-le-mul_left banks h

    grow : banks * part ≤ banks * rows → banks * part < suc rows * banks
    grow h = omega (arith, h, some)

pub part_small : (d : Dim) (width by : ℕ) → IsDim d → d.size < 2 ^ width → width ≤ 64 → by < bits_in (d.size / d.banks - 1) → d.banks * 2 ^ by < d.size
part_small d width by h fits few l =
    let all = whole d.size d.banks h.divides in
    let most : 2 ^ width ≤ 2 ^ 64 = pow_mono few in
    let rows_less : d.size / d.banks ≤ d.size / d.banks * d.banks = le-mul_of_pos_right (d.size / d.banks) h.banks in
    let least = bits_least (d.size / d.banks - 1) by (omega (arith, all, most, rows_less, fits)) l in
    let some = pow_pos by in
    subst (λ n. d.banks * 2 ^ by < n) all (less_part d.banks (d.size / d.banks) (2 ^ by) h.banks (omega (arith, least, some)) least)

pub part_fits : (d : Dim) (width by : ℕ) → IsDim d → d.size < 2 ^ width → width ≤ 64 → by < bits_in (d.size / d.banks - 1) → d.banks * 2 ^ by % 2 ^ 64 < 2 ^ width
part_fits d width by h fits few l =
    let small = part_small d width by h fits few l in
    let most : 2 ^ width ≤ 2 ^ 64 = pow_mono few in
    subst (λ n. n < 2 ^ width) (sym (mod-eq_of_lt (below most small))) (omega (arith, small, fits))
  where
    below : 2 ^ width ≤ 2 ^ 64 → d.banks * 2 ^ by < d.size → d.banks * 2 ^ by < 2 ^ 64
    below most small = omega (arith, most, small, fits)
