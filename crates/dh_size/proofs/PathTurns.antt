-- Copies of loops, while the loops are gone through from the outside.
use Rattle.std.proofs.Common.{◌≡◌, ℕ, suc, ◌+◌, ◌-◌, ◌*◌, ◌/◌, ◌%◌, ◌^◌, ◌≤◌, min, Bool, true, false, if◌then◌else◌, List, [], ◌∷◌, drop, refl, ap, sym, ◌∙◌, subst, arith}
use Rattle.std.specs.Prelude.{Option, Some, None, slice_index_or}
use Rattle.std.specs.Option.{option_eq}
use lib.Dec.{eqb}
use Rattle.std.proofs.Math.Nat.{min-eq_left, mul_comm}
use Rattle.std.proofs.lemmas.Nat.{div-mul-add}
use Rattle.dh_tree.specs.declared.trees.counters.Counter.{Counter}
use Rattle.dh_tree.specs.Memories.{same_entity}
use Rattle.dh_meets.specs.Charges.{loop_factors, level_of_loop}
use Rattle.dh_ports.specs.Banks.{copy_of, path_of_number}
use Rattle.dh_ports.specs.Copies.{copies_round}
use Rattle.dh_ports.proofs.PathNumbers.{one_more}
use Rattle.dh_size.proofs.SummedParts.{cut_times}

-- the test of the code on entities
pub tests_same : (o : Option ℕ) (e : ℕ) → same_entity o (Some e) ≡ option_eq eqb o (Some e)
tests_same None e = refl
tests_same (Some n) e = refl

abbrev most : ℕ
most = 2 ^ 64 - 1

-- All copies.

-- a product of the code, which the copies of what is left complete
pub record CopiesLeft (loops rest : List Counter) (copies : ℕ) : Type 0 where
  pub fits : copies ≤ most
  pub times : min (copies * copies_round rest) most ≡ min (copies_round loops) most

pub copies_first : (loops : List Counter) → CopiesLeft loops loops 1
copies_first loops = record { fits = omega arith; times = ap (λ n. min n most) (once (copies_round loops)) }
  where
    once : (n : ℕ) → 1 * n ≡ n
    once n = omega arith

pub copies_turn : (loops : List Counter) (i : ℕ) (c : Counter) (copies next : ℕ) → drop i loops ≡ c ∷ drop (i + 1) loops → next ≡ min (copies * c.factor) most
    → CopiesLeft loops (drop i loops) copies → CopiesLeft loops (drop (i + 1) loops) next
copies_turn loops i c copies next here so l = record {
  fits = subst (λ (n : ℕ). n ≤ most) (sym so) (least (copies * c.factor) most);
  times =
      ap (λ n. min (n * copies_round rest) most) so
      ∙ (ap (λ n. min n most) (mul_comm (min (copies * c.factor) most) (copies_round rest))
      ∙ (cut_times (copies_round rest) (copies * c.factor) most
      ∙ (ap (λ n. min n most) (grouped (copies_round rest) copies c.factor) ∙ (ap (λ l. min (copies * copies_round l) most) (sym here) ∙ l.times))));
}
  where
    rest : List Counter
    rest = drop (i + 1) loops

    least : (n m : ℕ) → min n m ≤ m
    least n m = omega arith

    grouped : (r a f : ℕ) → r * (a * f) ≡ a * (f * r)
    grouped r a f = omega arith

pub copies_done : (loops rest : List Counter) (copies : ℕ) → rest ≡ [] → copies_round loops ≤ 256 → CopiesLeft loops rest copies → copies ≡ copies_round loops
copies_done loops rest copies none few l =
    sym (min-eq_left l.fits) ∙ (ap (λ n. min n most) (once copies) ∙ (ap (λ x. min (copies * copies_round x) most) (sym none) ∙ (l.times ∙ min-eq_left (within (copies_round loops) few))))
  where
    once : (n : ℕ) → n ≡ n * 1
    once n = omega arith

    within : (n : ℕ) → n ≤ 256 → n ≤ 2 ^ 64 - 1
    within n e = omega (arith, e)

-- The copy of one loop.

-- what stands in the loops that are left has so many copies, and the copy that is looked for is found among them
pub record CopyLeft (loops rest : List Counter) (number iterator stride : ℕ) : Type 0 where
  pub counted : stride ≡ copies_round rest
  pub some : 1 ≤ stride
  pub same : copy_of rest (path_of_number (loop_factors rest) number) (Some iterator) ≡ copy_of loops (path_of_number (loop_factors loops) number) (Some iterator)

pub copy_first : (loops : List Counter) (number iterator stride : ℕ) → stride ≡ copies_round loops → 1 ≤ stride → CopyLeft loops loops number iterator stride
copy_first loops number iterator stride e f = record { counted = e; some = f; same = refl }

module _ (loops : List Counter) (i : ℕ) (c : Counter) (number iterator stride : ℕ) (here : drop i loops ≡ c ∷ drop (i + 1) loops) (l : CopyLeft loops (drop i loops) number iterator stride) where
  counted : stride ≡ c.factor * copies_round (drop (i + 1) loops)
  counted = l.counted ∙ ap copies_round here

  both : (1 ≤ c.factor) × (1 ≤ copies_round (drop (i + 1) loops))
  both = one_more c.factor (loop_factors (drop (i + 1) loops)) (subst (λ (n : ℕ). 1 ≤ n) counted l.some)

  pub factor_some : 1 ≤ c.factor
  factor_some = both.0

  pub stride_is : (next : ℕ) → next ≡ stride / c.factor → next ≡ copies_round (drop (i + 1) loops)
  stride_is next e = e ∙ (ap (λ n. n / c.factor) (counted ∙ turned c.factor (copies_round (drop (i + 1) loops))) ∙ div-mul-add (copies_round (drop (i + 1) loops)) c.factor 0 both.0)
    where
      turned : (f n : ℕ) → f * n ≡ n * f + 0
      turned f n = omega arith

  pub stride_some : (next : ℕ) → next ≡ stride / c.factor → 1 ≤ next
  stride_some next e = subst (λ (n : ℕ). 1 ≤ n) (sym (stride_is next e)) both.1

  copy_here : copy_of (drop i loops) (path_of_number (loop_factors (drop i loops)) number) (Some iterator) ≡ slice_index_or ((number / copies_round (drop (i + 1) loops)) % c.factor ∷ path_of_number (loop_factors (drop (i + 1) loops)) number) (if same_entity c.entity (Some iterator) then 0 else suc (level_of_loop (drop (i + 1) loops) (Some iterator))) 0
  copy_here = ap (λ x. copy_of x (path_of_number (loop_factors x) number) (Some iterator)) here

  pub copy_found : (next result : ℕ) → next ≡ stride / c.factor → same_entity c.entity (Some iterator) ≡ true → result ≡ (number / next) % c.factor → result ≡ copy_of loops (path_of_number (loop_factors loops) number) (Some iterator)
  copy_found next result e found so =
      so
      ∙ (ap (λ n. (number / n) % c.factor) (stride_is next e)
      ∙ (sym (copy_here ∙ ap (λ (b : Bool). slice_index_or ((number / copies_round (drop (i + 1) loops)) % c.factor ∷ path_of_number (loop_factors (drop (i + 1) loops)) number) (if b then 0 else suc (level_of_loop (drop (i + 1) loops) (Some iterator))) 0) found) ∙ l.same))

  pub copy_next : (next : ℕ) → next ≡ stride / c.factor → same_entity c.entity (Some iterator) ≡ false → CopyLeft loops (drop (i + 1) loops) number iterator next
  copy_next next e other = record {
    counted = stride_is next e;
    some = stride_some next e;
    same = sym (copy_here ∙ ap (λ (b : Bool). slice_index_or ((number / copies_round (drop (i + 1) loops)) % c.factor ∷ path_of_number (loop_factors (drop (i + 1) loops)) number) (if b then 0 else suc (level_of_loop (drop (i + 1) loops) (Some iterator))) 0) other) ∙ l.same;
  }

pub copy_none : (loops behind : List Counter) (number iterator stride : ℕ) → behind ≡ [] → CopyLeft loops behind number iterator stride → 0 ≡ copy_of loops (path_of_number (loop_factors loops) number) (Some iterator)
copy_none loops behind number iterator stride none l = sym (ap (λ x. copy_of x (path_of_number (loop_factors x) number) (Some iterator)) none) ∙ l.same
