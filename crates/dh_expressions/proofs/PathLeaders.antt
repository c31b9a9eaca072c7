-- The number of a leader, summed loop by loop in 64 bits: a sum that is capped on the way is the sum capped once,
-- and the cap is gone where the path's own number is a lower one.
use Rattle.std.proofs.Common.{◌≡◌, ℕ, suc, ◌+◌, ◌-◌, ◌^◌, ◌<◌, ◌≤◌, List, [], ◌∷◌, length, drop, get_or, Bool, refl, sym, ap, ◌∙◌, arith}
use Rattle.std.specs.Prelude.{min}
use Rattle.std.proofs.Math.Seq.{drop-cons}
use Rattle.dh_code.proofs.Ranges.{drop_past}
use Rattle.dh_expressions.specs.declared.paths.Level.{Level}
use Rattle.dh_expressions.specs.Levels.{part_number, parts_from}

capped : (a p r most : ℕ) → min (min (a + min p most) most + r) most ≡ min (a + (p + r)) most
capped a p r most = grind arith

-- one loop more, whose part is told by its flag
pub parts_more : (levels : List Level) (counts : ℕ → Bool) (number a part next i whole : ℕ) (d : Level) (b : Bool) → i < length levels → b ≡ counts i
    → part ≡ min (part_number (get_or levels i d) b number) (2 ^ 64 - 1)
    → next ≡ min (a + part) (2 ^ 64 - 1)
    → min (a + parts_from (drop i levels) counts i number) (2 ^ 64 - 1) ≡ whole
    → min (next + parts_from (drop (i + 1) levels) counts (i + 1) number) (2 ^ 64 - 1) ≡ whole
parts_more levels counts number a part next i whole d b within flag own sum e =
    ap (λ n. min (n + parts_from (drop (i + 1) levels) counts (i + 1) number) (2 ^ 64 - 1)) sum
    ∙ (ap (λ p. min (min (a + p) (2 ^ 64 - 1) + parts_from (drop (i + 1) levels) counts (i + 1) number) (2 ^ 64 - 1)) (own ∙ ap (λ f. min (part_number (get_or levels i d) f number) (2 ^ 64 - 1)) flag)
    ∙ (capped a (part_number (get_or levels i d) (counts i) number) (parts_from (drop (i + 1) levels) counts (i + 1) number) (2 ^ 64 - 1)
    ∙ (ap (λ (ls : List Level). min (a + parts_from ls counts i number) (2 ^ 64 - 1)) (sym split) ∙ e)))
  where
    split : drop i levels ≡ get_or levels i d ∷ drop (i + 1) levels
    split = drop-cons levels i d within ∙ ap (λ (n : ℕ). get_or levels i d ∷ drop n levels) (let e : suc i ≡ i + 1 = omega arith in e)

last : (a p number most : ℕ) → a ≤ most → number ≤ most → min (a + 0) most ≡ min p most → min a number ≡ min p number
last a p number most small own e = grind (arith, small, own, e)

pub parts_last : (levels : List Level) (counts : ℕ → Bool) (number a i p : ℕ) → length levels ≤ i → a < 2 ^ 64 → number < 2 ^ 64
    → min (a + parts_from (drop i levels) counts i number) (2 ^ 64 - 1) ≡ min p (2 ^ 64 - 1) → min a number ≡ min p number
parts_last levels counts number a i p past small own e =
    last a p number (2 ^ 64 - 1) (omega (arith, small)) (omega (arith, own))
    (ap (λ (ls : List Level). min (a + parts_from ls counts i number) (2 ^ 64 - 1)) (sym (drop_past levels i past)) ∙ e)

-- what counts the same loops gives the same sum
pub parts_same : (levels : List Level) (f g : ℕ → Bool) (i number : ℕ) → ((level : ℕ) → i ≤ level → level < i + length levels → f level ≡ g level)
    → parts_from levels f i number ≡ parts_from levels g i number
parts_same [] f g i number same = refl
parts_same (l ∷ ls) f g i number same =
    ap (λ b. part_number l b number + parts_from ls f (i + 1) number) (same i (omega arith) (first (length ls)))
    ∙ ap (λ n. part_number l (g i) number + n) (parts_same ls f g (i + 1) number (λ level low high. same level (omega (arith, low)) (within level (length ls) high)))
  where
    first : (n : ℕ) → i < i + suc n
    first n = omega arith

    within : (level n : ℕ) → level < i + 1 + n → level < i + suc n
    within level n high = omega (arith, high)
