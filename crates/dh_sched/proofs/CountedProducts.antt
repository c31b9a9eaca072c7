-- Multiplications counted one by one: those counted so far and those to come are together those of the block. An
-- operation moves from the latter to the former, by cases on whether it is a multiplication at the clock in question.
use Rattle.std.proofs.Common.{◌≡◌, ℕ, suc, ◌+◌, ◌<◌, ◌≤◌, Bool, true, false, List, drop, refl, ap, subst, arith}
use Rattle.std.specs.Prelude.{◌∷◌, ◌==◌, ◌&&◌, if◌then◌else◌}
use Rattle.std.proofs.lemmas.Bool.Decides.{nat_tests}
use Rattle.dh_plan.specs.declared.operations.Operation.{Operation}
use Rattle.dh_plan.specs.LegalSchedules.{is_product, products_at}
use Rattle.dh_sched.specs.Sorts.{CountsWithinLimit, CountsProduct}

-- one more of what is counted is one less of what is to come
pub moved : (b : Bool) (x y p all : ℕ) → y ≡ (if b then suc x else x) → x + (if b then suc p else p) ≡ all → y + p ≡ all
moved true x y p all e h = omega (arith, e, h)
moved false x y p all e h = omega (arith, e, h)

pub counted_turn : (os : List Operation) (cs : List ℕ) (i c limit : ℕ) (o : Operation) (before after all : ℕ → ℕ)
    → drop i os ≡ o ∷ drop (i + 1) os → drop i cs ≡ c ∷ drop (i + 1) cs → CountsProduct o before after c limit true
    → ((clock : ℕ) → before clock + products_at clock (drop i os) (drop i cs) ≡ all clock)
    → (clock : ℕ) → after clock + products_at clock (drop (i + 1) os) (drop (i + 1) cs) ≡ all clock
counted_turn os cs i c limit o before after all here there counts so clock =
    let at : before clock + products_at clock (o ∷ drop (i + 1) os) (c ∷ drop (i + 1) cs) ≡ all clock =
    subst (λ (xs : List Operation). before clock + products_at clock xs (c ∷ drop (i + 1) cs) ≡ all clock) here
    (subst (λ (ys : List ℕ). before clock + products_at clock (drop i os) ys ≡ all clock) there (so clock)) in
    moved (is_product o.form && (c == clock)) (before clock) (after clock) (products_at clock (drop (i + 1) os) (drop (i + 1) cs)) (all clock) (counts.1 clock) at

-- no clock has more than the limit after one more that the limit allows
pub still_few : (before after : ℕ → ℕ) (clock limit : ℕ) → CountsWithinLimit before after clock limit true → (other : ℕ) → before other ≤ limit → after other ≤ limit
still_few before after clock limit counts other few =
    let is = counts.1 other in
    let less = counts.0 in
    by_place (other == clock) (before other) (before clock) (after other) limit is few less (λ same. ap before (equal other clock same))
  where
    by_place : (b : Bool) (x z y limit : ℕ) → y ≡ (if b then suc x else x) → x ≤ limit → z < limit → (b ≡ true → x ≡ z) → y ≤ limit
    by_place true x z y limit e few less same = let s = same refl in omega (arith, e, few, less, s)
    by_place false x z y limit e few less same = omega (arith, e, few)

    equal : (x y : ℕ) → (x == y) ≡ true → x ≡ y
    equal x y h = grind (arith, nat_tests)
