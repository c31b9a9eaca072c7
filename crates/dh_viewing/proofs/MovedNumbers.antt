-- Indices moved one after the other, and what that is as a whole.
use Rattle.std.proofs.Common.{◌≡◌, ℕ, suc, ◌+◌, ◌<◌, ◌&&◌, Bool, true, false, if◌then◌else◌, List, [], ◌∷◌, ◌++◌, length, drop, get_or, Option, Some, None, refl, sym, ap, subst, ◌∙◌, add-one, arith}
use Rattle.std.specs.Prelude.{ℤ, pos, ◌+ℤ◌, ◌*ℤ◌}
use Rattle.std.proofs.Math.Seq.{drop-cons, append_snoc}
use Rattle.dh_tree.specs.declared.tables.Dim.{Dim}
use Rattle.dh_viewing.specs.declared.numbers.Index.{Index}
use Rattle.dh_viewing.specs.Moved.{moved_number, with_first_number, moved_numbers, with_front_numbers}
use Rattle.dh_viewing.specs.Numbers.{numbers_in}
use Rattle.dh_tree.specs.ViewElements.{is_index, is_inside, inside_of, sums, multiples}

-- Behind the first i indices.
pub record Moving (ds : List Dim) (ks : List ℕ) (es is : List ℤ) (i : ℕ) (index : Index) : Type 0 where
  pub long : index.len ≡ i
  pub leads : with_front_numbers (numbers_in index) (moved_numbers (drop i ds) (drop i ks) (drop i es) (drop i is)) ≡ moved_numbers ds ks es is

behind_none : (o : Option (List ℤ)) → with_front_numbers [] o ≡ o
behind_none None = refl
behind_none (Some zs) = refl

pub moving_starts : (ds : List Dim) (ks : List ℕ) (es is : List ℤ) (index : Index) → numbers_in index ≡ [] → index.len ≡ 0 → Moving ds ks es is 0 index
moving_starts ds ks es is index none long =
    record { long = long; leads = ap (λ zs. with_front_numbers zs (moved_numbers ds ks es is)) none ∙ behind_none (moved_numbers ds ks es is) }

-- one index more
module _ (ds : List Dim) (ks : List ℕ) (es is : List ℤ) where
  rest : (i : ℕ) → Option (List ℤ)
  rest i = moved_numbers (drop i ds) (drop i ks) (drop i es) (drop i is)

  rest_is : (i : ℕ) (d : Dim) → i < length ds → i < length ks → i < length es → i < length is
      → moved_numbers (drop i ds) (drop i ks) (drop i es) (drop i is)
      ≡ with_first_number (moved_number (get_or ds i d).size (get_or ks i 0) (get_or es i (pos 0)) (get_or is i (pos 0))) (moved_numbers (drop (suc i) ds) (drop (suc i) ks) (drop (suc i) es) (drop (suc i) is))
  rest_is i d a b c e =
      let f : drop i ds ≡ get_or ds i d ∷ drop (suc i) ds = drop-cons ds i d a in
      let g : drop i ks ≡ get_or ks i 0 ∷ drop (suc i) ks = drop-cons ks i 0 b in
      let h : drop i es ≡ get_or es i (pos 0) ∷ drop (suc i) es = drop-cons es i (pos 0) c in
      let j : drop i is ≡ get_or is i (pos 0) ∷ drop (suc i) is = drop-cons is i (pos 0) e in
      cc

  behind_more : (front : List ℤ) (z : ℤ) (o : Option (List ℤ)) → with_front_numbers front (with_first_number (Some z) o) ≡ with_front_numbers (front ++ z ∷ []) o
  behind_more front z None = refl
  behind_more front z (Some zs) = ap Some (sym (append_snoc front z zs))

  pub moves_on : (i : ℕ) (d : Dim) (index next : Index) (z : ℤ) → i < length ds → length ks ≡ length ds → length es ≡ length ds → length is ≡ length ds
      → Moving ds ks es is i index → Some z ≡ moved_number (get_or ds i d).size (get_or ks i 0) (get_or es i (pos 0)) (get_or is i (pos 0))
      → numbers_in next ≡ numbers_in index ++ z ∷ [] → next.len ≡ index.len + 1 → Moving ds ks es is (i + 1) next
  moves_on i d index next z below k_long e_long i_long m one numbers long =
      let step = rest_is i d below (omega (arith, below, k_long)) (omega (arith, below, e_long)) (omega (arith, below, i_long)) in
      record {
        long = omega (arith, long, m.long);
        leads =
            subst (λ (n : ℕ). with_front_numbers (numbers_in next) (moved_numbers (drop n ds) (drop n ks) (drop n es) (drop n is)) ≡ moved_numbers ds ks es is) (sym (add-one i))
            (ap (λ (front : List ℤ). with_front_numbers front (moved_numbers (drop (suc i) ds) (drop (suc i) ks) (drop (suc i) es) (drop (suc i) is))) numbers
            ∙ (sym (behind_more (numbers_in index) z (moved_numbers (drop (suc i) ds) (drop (suc i) ks) (drop (suc i) es) (drop (suc i) is)))
            ∙ (ap (λ (o : Option ℤ). with_front_numbers (numbers_in index) (with_first_number o (moved_numbers (drop (suc i) ds) (drop (suc i) ks) (drop (suc i) es) (drop (suc i) is)))) one
            ∙ (ap (λ (o : Option (List ℤ)). with_front_numbers (numbers_in index) o) (sym step) ∙ m.leads))));
      }

-- As a whole.

inside_first : (a b : Bool) → (z : ℤ) (o : Option (List ℤ)) → (if a then with_first_number (if b then Some z else None) o else None) ≡ with_first_number (if a then (if b then Some z else None) else None) o
inside_first true b z o = refl
inside_first false b z o = refl

both : (a b c e : Bool) (z : ℤ) (zs : List ℤ)
    → with_first_number (if a then (if b then Some z else None) else None) (if c then (if e then Some zs else None) else None)
    ≡ (if a && c then (if b && e then Some (z ∷ zs) else None) else None)
both true true true true z zs = refl
both true true true false z zs = refl
both true true false e z zs = refl
both true false true e z zs = refl
both true false false e z zs = refl
both false b c e z zs = refl

-- what is moved is what the offsets lead to, where all of it is within the dimensions
pub moved_is : (ds : List Dim) (ks : List ℕ) (es is : List ℤ) → length ks ≡ length ds → length es ≡ length ds → length is ≡ length ds
    → moved_numbers ds ks es is ≡ (if is_inside ds is then inside_of ds (sums (multiples ks es) is) else None)
moved_is [] [] [] [] a b c = refl
moved_is [] (k ∷ ks) es is a b c = absurd (omega (arith, a))
moved_is [] [] (e ∷ es) is a b c = absurd (omega (arith, b))
moved_is [] [] [] (i ∷ is) a b c = absurd (omega (arith, c))
moved_is (d ∷ ds) [] es is a b c = absurd (omega (arith, a))
moved_is (d ∷ ds) (k ∷ ks) [] is a b c = absurd (omega (arith, b))
moved_is (d ∷ ds) (k ∷ ks) (e ∷ es) [] a b c = absurd (omega (arith, c))
moved_is (d ∷ ds) (k ∷ ks) (e ∷ es) (i ∷ is) a b c =
    ap (λ (o : Option (List ℤ)). with_first_number (moved_number d.size k e i) o) (moved_is ds ks es is (less _ _ a) (less _ _ b) (less _ _ c))
    ∙ both (is_index d.size i) (is_index d.size ((pos k *ℤ e) +ℤ i)) (is_inside ds is) (is_inside ds (sums (multiples ks es) is)) ((pos k *ℤ e) +ℤ i) (sums (multiples ks es) is)
  where
    less : (m n : ℕ) → suc m ≡ suc n → m ≡ n
    less m n e = omega (arith, e)
