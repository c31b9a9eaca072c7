-- Walks over indices.
use Rattle.std.proofs.Common.{◌≡◌, ℕ, ◌+◌, ◌<◌, ◌&&◌, Bool, true, false, List, [], ◌∷◌, ◌++◌, length, map, drop, get_or, Option, Some, None, refl, sym, ap, ◌∙◌, suc}
use Rattle.std.specs.Option.{is_some}
use Rattle.dh_value.specs.declared.kinds.Kind.{Kind}
use Rattle.dh_tree.specs.declared.breaches.Breach.{Breach}
use Rattle.dh_tree.specs.declared.trees.expressions.Expr.{Expr}
use Rattle.dh_tree.specs.LeastBreach.{least_of}
use Rattle.dh_tree.specs.PlainTrees.{Term, term, Terms, term_then}
use Rattle.dh_tree.specs.Seen.{term_seen, terms}
use Rattle.dh_tree.specs.Kinds.{Facts, found, place_of, all_found, all_integer, count_of, index_breaches, typed_term, typed_terms}
use Rattle.dh_tree.specs.KindBreaches.{term_kind_breaches, indices_kind_breaches}
use Rattle.dh_types.specs.Facts.{has_integer}
use Rattle.dh_base.proofs.ListItems.{at_item}
use Rattle.dh_tree.proofs.Leasts.{least_append}

integer_first : (t : Term) (rest : Terms) → all_integer (term_then t rest) ≡ (has_integer (found t) && all_integer rest)
integer_first (term place None form) rest = refl
integer_first (term place (Some k) form) rest = refl

found_first : (t : Term) (rest : Terms) → all_found (term_then t rest) ≡ (is_some (found t) && all_found rest)
found_first (term place kind form) rest = refl

by_true : (a b : Bool) → a ≡ true → (a && b) ≡ b
by_true true b e = refl
by_true false b e = cc

by_false : (a b : Bool) → a ≡ false → (a && b) ≡ false
by_false true b e = cc
by_false false b e = refl

-- a test of all indices, by the test of each
module _ (all : Terms → Bool) (one : Option Kind → Bool) (first : (t : Term) (rest : Terms) → all (term_then t rest) ≡ (one (found t) && all rest)) where
  ahead : (xs : List Expr) (i : ℕ) (x : Expr) → i < length xs → x ≡ get_or xs i x → all (terms (map term_seen (drop i xs))) ≡ (one (found (term_seen x)) && all (terms (map term_seen (drop (i + 1) xs))))
  ahead xs i x within is = ap (λ l. all (terms (map term_seen l))) (at_item xs i x within is) ∙ first (term_seen x) (terms (map term_seen (drop (i + 1) xs)))

  next : (xs : List Expr) (i : ℕ) (x : Expr) (t : Bool) → i < length xs → x ≡ get_or xs i x → t ≡ one (found (term_seen x)) → t ≡ true → all (terms (map term_seen (drop i xs))) ≡ all (terms (map term_seen xs))
      → all (terms (map term_seen (drop (i + 1) xs))) ≡ all (terms (map term_seen xs))
  next xs i x t within is test holds so = sym (by_true _ (all (terms (map term_seen (drop (i + 1) xs)))) (sym test ∙ holds)) ∙ sym (ahead xs i x within is) ∙ so

  ended : (xs : List Expr) (i : ℕ) (x : Expr) (t : Bool) → i < length xs → x ≡ get_or xs i x → t ≡ one (found (term_seen x)) → t ≡ false → all (terms (map term_seen (drop i xs))) ≡ all (terms (map term_seen xs))
      → false ≡ all (terms (map term_seen xs))
  ended xs i x t within is test fails so = sym (by_false _ (all (terms (map term_seen (drop (i + 1) xs)))) (sym test ∙ fails)) ∙ sym (ahead xs i x within is) ∙ so

pub integer_next : (xs : List Expr) (i : ℕ) (x : Expr) (t : Bool) → i < length xs → x ≡ get_or xs i x → t ≡ has_integer (found (term_seen x)) → t ≡ true → all_integer (terms (map term_seen (drop i xs))) ≡ all_integer (terms (map term_seen xs))
    → all_integer (terms (map term_seen (drop (i + 1) xs))) ≡ all_integer (terms (map term_seen xs))
integer_next = next all_integer has_integer integer_first

pub integer_ended : (xs : List Expr) (i : ℕ) (x : Expr) (t : Bool) → i < length xs → x ≡ get_or xs i x → t ≡ has_integer (found (term_seen x)) → t ≡ false → all_integer (terms (map term_seen (drop i xs))) ≡ all_integer (terms (map term_seen xs))
    → false ≡ all_integer (terms (map term_seen xs))
integer_ended = ended all_integer has_integer integer_first

pub found_next : (xs : List Expr) (i : ℕ) (x : Expr) (t : Bool) → i < length xs → x ≡ get_or xs i x → t ≡ is_some (found (term_seen x)) → t ≡ true → all_found (terms (map term_seen (drop i xs))) ≡ all_found (terms (map term_seen xs))
    → all_found (terms (map term_seen (drop (i + 1) xs))) ≡ all_found (terms (map term_seen xs))
found_next = next all_found is_some found_first

pub found_ended : (xs : List Expr) (i : ℕ) (x : Expr) (t : Bool) → i < length xs → x ≡ get_or xs i x → t ≡ is_some (found (term_seen x)) → t ≡ false → all_found (terms (map term_seen (drop i xs))) ≡ all_found (terms (map term_seen xs))
    → false ≡ all_found (terms (map term_seen xs))
found_ended = ended all_found is_some found_first

-- as many indices as there are in the list
pub counted : (xs : List Expr) → count_of (terms (map term_seen xs)) ≡ length xs
counted [] = refl
counted (x ∷ xs) = ap (λ n. suc n) (counted xs)

pub terms_listed : (facts : Facts) (ts : List Term) → typed_terms facts (terms ts) ≡ terms (map (typed_term facts None) ts)
terms_listed facts [] = refl
terms_listed facts (t ∷ ts) = ap (λ r. term_then (typed_term facts None t) r) (terms_listed facts ts)

-- one turn of a walk that keeps the breaches of indices
pub kept_next : (facts : Facts) (xs : List Expr) (i : ℕ) (x : Expr) (first a b c : Option Breach) → i < length xs → x ≡ get_or xs i x
    → b ≡ least_of a (index_breaches (found (term_seen x)) (place_of (term_seen x))) → c ≡ least_of b (term_kind_breaches facts (term_seen x))
    → least_of a (indices_kind_breaches facts (terms (map term_seen (drop i xs)))) ≡ least_of first (indices_kind_breaches facts (terms (map term_seen xs)))
    → least_of c (indices_kind_breaches facts (terms (map term_seen (drop (i + 1) xs)))) ≡ least_of first (indices_kind_breaches facts (terms (map term_seen xs)))
kept_next facts xs i x first a b c within is one two so =
    let rest = indices_kind_breaches facts (terms (map term_seen (drop (i + 1) xs))) in
    ap (λ k. least_of k rest) (two ∙ ap (λ k. least_of k (term_kind_breaches facts (term_seen x))) one)
    ∙ sym (least_append (least_of a (index_breaches (found (term_seen x)) (place_of (term_seen x)))) (term_kind_breaches facts (term_seen x)) rest)
    ∙ sym (least_append a (index_breaches (found (term_seen x)) (place_of (term_seen x))) (term_kind_breaches facts (term_seen x) ++ rest))
    ∙ sym (ap (λ l. least_of a (indices_kind_breaches facts (terms (map term_seen l)))) (at_item xs i x within is))
    ∙ so
