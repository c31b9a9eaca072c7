-- Indices looked at one after the other.
use Rattle.std.proofs.Common.{◌≡◌, ℕ, suc, ◌+◌, ◌<◌, ◌&&◌, Bool, true, false, List, ◌∷◌, length, drop, get_or, sym, ap, subst, ◌∙◌, add-one, arith}
use Rattle.std.specs.Prelude.{ℤ, pos}
use Rattle.std.proofs.Math.Seq.{drop-cons}
use Rattle.dh_tree.specs.declared.tables.Dim.{Dim}
use Rattle.dh_tree.specs.ViewElements.{is_index, is_inside}

inside_from : (ds : List Dim) (is : List ℤ) (i : ℕ) (d : Dim) → i < length ds → length is ≡ length ds
    → is_inside (drop i ds) (drop i is) ≡ (is_index (get_or ds i d).size (get_or is i (pos 0)) && is_inside (drop (suc i) ds) (drop (suc i) is))
inside_from ds is i d below long =
    let e : drop i ds ≡ get_or ds i d ∷ drop (suc i) ds = drop-cons ds i d below in
    let f : drop i is ≡ get_or is i (pos 0) ∷ drop (suc i) is = drop-cons is i (pos 0) (omega (arith, below, long)) in
    cc

pub not_inside : (ds : List Dim) (is : List ℤ) (i : ℕ) (d : Dim) (b : Bool) → i < length ds → length is ≡ length ds → is_inside (drop i ds) (drop i is) ≡ is_inside ds is
    → b ≡ is_index (get_or ds i d).size (get_or is i (pos 0)) → b ≡ false → false ≡ is_inside ds is
not_inside ds is i d b below long h one false_is =
    ap (λ x. x && is_inside (drop (suc i) ds) (drop (suc i) is)) (sym false_is ∙ one) ∙ (sym (inside_from ds is i d below long) ∙ h)

pub inside_next : (ds : List Dim) (is : List ℤ) (i : ℕ) (d : Dim) (b : Bool) → i < length ds → length is ≡ length ds → is_inside (drop i ds) (drop i is) ≡ is_inside ds is
    → b ≡ is_index (get_or ds i d).size (get_or is i (pos 0)) → b ≡ true → is_inside (drop (i + 1) ds) (drop (i + 1) is) ≡ is_inside ds is
inside_next ds is i d b below long h one so =
    subst (λ (n : ℕ). is_inside (drop n ds) (drop n is) ≡ is_inside ds is) (sym (add-one i))
    (ap (λ x. x && is_inside (drop (suc i) ds) (drop (suc i) is)) (sym so ∙ one) ∙ (sym (inside_from ds is i d below long) ∙ h))
