-- Lists of names one after the other, and the least of breaches one after the other.
use Rattle.std.proofs.Common.{◌≡◌, ℕ, Bool, true, false, List, [], ◌∷◌, ◌++◌, map, Option, Some, None, refl, ap, if◌then◌else◌}
use Rattle.std.specs.Option.{is_some}
use Rattle.std.specs.Str.{bytes_eq}
use Rattle.dh_tree.specs.PlainTrees.{Term, term_then}
use Rattle.dh_tree.specs.Seen.{terms}
use Rattle.dh_tree.specs.Scopes.{ScopeEntry, entity_of}
use Rattle.dh_tree.specs.Breaches.{term_breaches, terms_breaches, list_breaches}
use Rattle.dh_tree.specs.Resolved.{resolved_term, resolved_terms}

-- the first list is looked into first
pub found_first : (xs ys : List ScopeEntry) (name : List ℕ) (n : ℕ) → entity_of xs name ≡ Some n → entity_of (xs ++ ys) name ≡ Some n
found_first [] ys name n h = cc
found_first (x ∷ xs) ys name n h = by (bytes_eq name x.name) (found_first xs ys name n) h
  where
    by : (b : Bool) → (entity_of xs name ≡ Some n → entity_of (xs ++ ys) name ≡ Some n) → (if b then Some x.entity else entity_of xs name) ≡ Some n → (if b then Some x.entity else entity_of (xs ++ ys) name) ≡ Some n
    by true rest e = e
    by false rest e = rest e

pub found_next : (xs ys : List ScopeEntry) (name : List ℕ) → entity_of xs name ≡ None → entity_of (xs ++ ys) name ≡ entity_of ys name
found_next [] ys name h = refl
found_next (x ∷ xs) ys name h = by (bytes_eq name x.name) (found_next xs ys name) h
  where
    by : (b : Bool) → (entity_of xs name ≡ None → entity_of (xs ++ ys) name ≡ entity_of ys name) → (if b then Some x.entity else entity_of xs name) ≡ None → (if b then Some x.entity else entity_of (xs ++ ys) name) ≡ entity_of ys name
    by true rest e = cc
    by false rest e = rest e

pub terms_listed : (bs : List ScopeEntry) (ts : List Term) → resolved_terms bs (terms ts) ≡ terms (map (resolved_term bs) ts)
terms_listed bs [] = refl
terms_listed bs (t ∷ ts) = ap (λ r. term_then (resolved_term bs t) r) (terms_listed bs ts)

pub breaches_listed : (bs : List ScopeEntry) (ts : List Term) → terms_breaches bs (terms ts) ≡ list_breaches bs ts
breaches_listed bs [] = refl
breaches_listed bs (t ∷ ts) = ap (λ r. term_breaches bs t ++ r) (breaches_listed bs ts)

-- what is not visible at all is not in the second list
pub absent_own : (xs ys : List ScopeEntry) (name : List ℕ) → entity_of (xs ++ ys) name ≡ None → entity_of ys name ≡ None
absent_own [] ys name h = h
absent_own (x ∷ xs) ys name h = by (bytes_eq name x.name) (absent_own xs ys name) h
  where
    by : (b : Bool) → (entity_of (xs ++ ys) name ≡ None → entity_of ys name ≡ None) → (if b then Some x.entity else entity_of (xs ++ ys) name) ≡ None → entity_of ys name ≡ None
    by true rest e = cc
    by false rest e = rest e

pub absent : (o : Option ℕ) → is_some o ≡ false → o ≡ None
absent None e = refl
absent (Some n) e = cc
