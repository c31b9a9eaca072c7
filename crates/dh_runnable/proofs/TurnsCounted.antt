-- The turns of a loop that breaks no rule on bounds and exceeds no limit on copies: it has a copy, its iterator's values
-- are below its upper bound and so are numbers of 64 bits, and the paths inside it can be numbered. The copies of a place
-- inside a loop are those round the loop times its factor, also where the factor is 1 and adds no level.
use Rattle.std.proofs.Common.{◌≡◌, ℕ, ◌+◌, ◌*◌, ◌-◌, ◌<◌, ◌≤◌, ◌^◌, ◌==◌, ◌&&◌, not, min, nat_lt, Bool, true, false, if◌then◌else◌, List, [], ◌∷◌, ◌++◌, Option, Some, None, refl, ap, sym, ◌∙◌, subst, arith}
use Rattle.std.proofs.Math.Nat.{div-mul-le_self}
use Rattle.std.proofs.lemmas.Bool.Decides.{nat_tests}
use Rattle.dh_base.specs.Limits.{greatest_of, most_copies}
use Rattle.dh_base.specs.declared.limits.Excess.{Excess}
use Rattle.dh_base.specs.declared.limits.Limit.{Limit}
use Rattle.dh_base.specs.declared.limits.Limit.TheVariants as limit
use Rattle.dh_tree.specs.declared.breaches.Breach.{Breach}
use Rattle.dh_tree.specs.declared.trees.expressions.Ref.{Ref}
use Rattle.dh_tree.specs.Excesses.{most_counted, excess_at, or_else}
use Rattle.dh_tree.specs.Indices.{divides, turns_breaches}
use Rattle.dh_tree.specs.Kinds.{when}
use Rattle.dh_tree.specs.PlainTrees.{Placed, Unrolled}
use Rattle.dh_tree.specs.Scopes.{entity_number}
use Rattle.dh_tree.proofs.EmptyLists.{first_none, second_none, not_none}
use Rattle.dh_meaning.specs.CoreOf.{Known, depth_of}
use Rattle.dh_meaning.specs.Phases.{turn_count}
use Rattle.dh_code.specs.Declarations.{factors_inside}
use Rattle.dh_code.specs.Ranks.{copies_in}
use Rattle.dh_sem.specs.Runnable.{CanTurn}
use Rattle.dh_code.specs.Slots.{Placing}
use Rattle.dh_code.specs.Suited.{IsInside}

-- Limits.

pub first_within : (a b : Option Excess) → or_else a b ≡ None → a ≡ None
first_within None b e = refl
first_within (Some x) b e = cc

pub second_within : (a b : Option Excess) → or_else a b ≡ None → b ≡ None
second_within None b e = e
second_within (Some x) b e = absurd cc

pub within_limit : (l : Limit) (count : ℕ) → excess_at l count ≡ None → count ≤ greatest_of l
within_limit l count e = by (nat_lt (greatest_of l) count) (record { limit = l; count = min count most_counted }) refl e
  where
    by : (b : Bool) (x : Excess) → nat_lt (greatest_of l) count ≡ b → (if b then Some x else None) ≡ None → count ≤ greatest_of l
    by true x t h = absurd cc
    by false x t h = grind (arith, nat_tests, t)

-- Copies.

last_copies : (loops : List ℕ) (factor : ℕ) → copies_in (loops ++ factor ∷ []) ≡ copies_in loops * factor
last_copies [] factor = omega arith
last_copies (x ∷ loops) factor = ap (λ n. x * n) (last_copies loops factor) ∙ grouped x (copies_in loops) factor
  where
    grouped : (a b c : ℕ) → a * (b * c) ≡ a * b * c
    grouped a b c = omega arith

pub copies_inside : (loops : List ℕ) (factor : ℕ) → 1 ≤ factor → copies_in (factors_inside loops factor) ≡ copies_in loops * factor
copies_inside loops factor l = by (nat_lt 1 factor) refl
  where
    one : nat_lt 1 factor ≡ false → factor ≡ 1
    one t = grind (arith, nat_tests, t, l)

    once : (n f : ℕ) → f ≡ 1 → n ≡ n * f
    once n f e = subst (λ (x : ℕ). n ≡ n * x) (sym e) (omega arith)

    by : (b : Bool) → nat_lt 1 factor ≡ b → copies_in (if b then loops ++ factor ∷ [] else loops) ≡ copies_in loops * factor
    by true t = last_copies loops factor
    by false t = once (copies_in loops) factor (one t)

-- Bounds.

when_none : (b : Bool) (x : Breach) → when b (x ∷ []) ≡ [] → b ≡ false
when_none true x e = not_none _ _ e
when_none false x e = refl

left_of : (a b : Bool) → not (not a && b) ≡ false → a ≡ false
left_of false b e = refl
left_of true b e = cc

-- a loop without a breach has a copy, and its bounds are in order
pub record KeepsTurns (low high : Placed) (factor : Unrolled) : Type 0 where
  pub some : 1 ≤ factor.value
  pub ordered : low.value ≤ high.value

pub turns_kept : (low high : Placed) (factor : Unrolled) → turns_breaches low high factor ≡ [] → KeepsTurns low high factor
turns_kept low high factor e =
    let order = when_none (nat_lt high.value low.value) _ (first_none (when (nat_lt high.value low.value) _) _ e) in
    let divided = when_none (not (divides factor.value (high.value - low.value))) _ (second_none (when (nat_lt high.value low.value) _) _ e) in
    record {
      some = not_nothing factor.value (left_of (factor.value == 0) _ divided);
      ordered = in_order high.value low.value order;
    }
  where
    not_nothing : (n : ℕ) → (n == 0) ≡ false → 1 ≤ n
    not_nothing n t = grind (arith, nat_tests, t)

    in_order : (h l : ℕ) → nat_lt h l ≡ false → l ≤ h
    in_order h l t = grind (arith, nat_tests, t)

-- the values of an iterator are no greater than the upper bound
counted_within : (low high factor : ℕ) → low ≤ high → high < 2 ^ 64 → low + turn_count low high factor * factor ≤ 2 ^ 64 - 1
counted_within low high factor l h = let d = div-mul-le_self (high - low) factor in bounded low high (turn_count low high factor * factor) l h d
  where
    bounded : (a b c : ℕ) → a ≤ b → b < 2 ^ 64 → c ≤ b - a → a + c ≤ 2 ^ 64 - 1
    bounded a b c i j k = omega (arith, i, j, k)

-- Loops.

-- the turns of such a loop inside loops of these factors, whose iterator is declared inside its own factor
pub can_turn : (known : Known) (p : Placing) (loops : List ℕ) (iterator : Ref) (low high : Placed) (factor : Unrolled) → IsInside p (factors_inside loops factor.value) (depth_of known iterator) (entity_number iterator.entity)
    → KeepsTurns low high factor → high.value < 2 ^ 64 → excess_at limit.Copies (copies_in loops * factor.value) ≡ None
    → CanTurn p loops (record { iterator = entity_number iterator.entity; depth = depth_of known iterator; low = low.value; factor = factor.value; count = turn_count low.value high.value factor.value })
can_turn known p loops iterator low high factor inside keeps small few =
    let same = copies_inside loops factor.value keeps.some in
    let most = within_limit limit.Copies (copies_in loops * factor.value) few in
    record {
      iterator = inside;
      some_factor = keeps.some;
      counted = counted_within low.value high.value factor.value keeps.ordered small;
      few = subst (λ (n : ℕ). n ≤ most_copies) (sym same) most;
    }
