-- The width of a counter, bit by bit. With the bits below b the width is the least one of at most b that has each
-- number below the count, if any has; a number that has bit b asks for one more than b.
use Rattle.std.proofs.Common.{◌≡◌, ℕ, ◌+◌, ◌-◌, ◌^◌, ◌<◌, ◌≤◌, ⊎_elim, Bool, true, false, sym, ap, ◌∙◌, subst, arith}
use Rattle.std.specs.Prelude.{nat_lt, if◌then◌else◌}
use Rattle.std.proofs.lemmas.Bool.{cases_lt}
use Rattle.std.proofs.lemmas.Bool.Decides.{nat_tests}
use Rattle.std.proofs.lemmas.Nat.{pow_pos}
use Rattle.std.proofs.Math.Pow.{pow_mono}
use Rattle.dh_value.specs.Words.{IsWidth}
use Rattle.dh_value.proofs.Masks.{half}
use Rattle.dh_expressions.specs.Multiples.{IsCounterWidth, width_told}

pub record WidthSoFar (count bits width : ℕ) : Type 0 where
  pub some : 1 ≤ width
  pub few : width ≤ bits
  pub holds : count - 1 < 2 ^ bits → count ≤ 2 ^ width
  pub least : (w : ℕ) → IsWidth w → count ≤ 2 ^ w → width ≤ w

pub width_first : (count : ℕ) → WidthSoFar count 1 1
width_first count = record {
  some = omega arith;
  few = omega arith;
  holds = λ small. omega (arith, small);
  least = λ w sized fits. sized.0;
}

twice : (b : ℕ) → 2 ^ (b + 1) ≡ 2 ^ b + 2 ^ b
twice b = half (b + 1) (omega arith) ∙ ap (λ j. 2 ^ j + 2 ^ j) (omega arith)

module _ (count b width : ℕ) (h : WidthSoFar count b width) where
  stays : count - 1 < 2 ^ b → WidthSoFar count (b + 1) width
  stays small = record {
    some = h.some;
    few = let f = h.few in omega (arith, f);
    holds = λ less. h.holds small;
    least = h.least;
  }

  grows : 1 ≤ b → 2 ^ b ≤ count - 1 → WidthSoFar count (b + 1) (b + 1)
  grows some large = record {
    some = omega arith;
    few = omega arith;
    holds = λ less. let e = twice b in omega (arith, less, large, e);
    least = λ w sized fits. ⊎_elim (λ below. absurd (never w below fits)) (λ above. above) (cases_lt w (b + 1));
  }
    where
      never : (w : ℕ) → w < b + 1 → count ≤ 2 ^ w → ⊥
      never w below fits =
          let less : 2 ^ w ≤ 2 ^ b = pow_mono (omega (arith, below)) in
          let p = pow_pos b in
          omega (arith, less, large, fits, p)

  pub width_more : 1 ≤ b → WidthSoFar count (b + 1) (width_told (count - 1) b width)
  width_more some = ⊎_elim (λ small. subst (λ (t : Bool). WidthSoFar count (b + 1) (if t then width else b + 1)) (sym (below small)) (stays small))
      (λ large. subst (λ (t : Bool). WidthSoFar count (b + 1) (if t then width else b + 1)) (sym (above large)) (grows some large))
      (cases_lt (count - 1) (2 ^ b))
    where
      below : count - 1 < 2 ^ b → nat_lt (count - 1) (2 ^ b) ≡ true
      below small = grind (arith, nat_tests)

      above : 2 ^ b ≤ count - 1 → nat_lt (count - 1) (2 ^ b) ≡ false
      above large = grind (arith, nat_tests)

pub width_last : (count width : ℕ) → count < 2 ^ 64 → WidthSoFar count 64 width → IsCounterWidth count width
width_last count width small h = record {
  sized = (h.some, h.few);
  holds = h.holds (omega (arith, small));
  least = h.least;
}
