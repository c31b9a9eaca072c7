-- A command that keeps values sets no other variables than its own, which follow one another from a first one on.
use Rattle.std.proofs.Common.{◌≡◌, ℕ, suc, ◌+◌, ◌==◌, ◌&&◌, nat_le, nat_lt, false, if◌then◌else◌, List, [], ◌∷◌, length, take, refl, sym, ap, ◌∙◌, subst, arith, ℤ}
use Rattle.std.proofs.lemmas.Bool.Decides.{nat_tests}
use Rattle.dh_meaning.specs.Core.{CoreTerms, no_terms, term_and, count_terms, keep}
use Rattle.dh_meaning.specs.Effects.{Begun, Effect, Variables, kept_at, set_from, set_variable, values_of}
use Rattle.dh_meaning.specs.Levels.{assigns_to}
use Rattle.dh_meaning.specs.Paths.{Path, same_path}

-- a variable that is none of so many is not the first of them, nor one of the others
range_left : (entity first count : ℕ) → (nat_le first entity && nat_lt entity (first + suc count)) ≡ false → ((entity == first) ≡ false) × ((nat_le (suc first) entity && nat_lt entity (suc first + count)) ≡ false)
range_left entity first count h = (grind (arith, nat_tests, h), grind (arith, nat_tests, h))

one_set : (variables : Variables) (entity other : ℕ) (path p : Path) (value : ℤ) → (entity == other) ≡ false → set_variable variables other path value entity p ≡ variables entity p
one_set variables entity other path p value h = ap (λ t. if t && same_path p path then value else variables entity p) h

pub others_set : (variables : Variables) (entity first : ℕ) (path p : Path) (zs : List ℤ) → (nat_le first entity && nat_lt entity (first + length zs)) ≡ false → set_from variables first path zs entity p ≡ variables entity p
others_set variables entity first path p [] h = refl
others_set variables entity first path p (z ∷ zs) h =
    let r = range_left entity first (length zs) h in
    others_set (set_variable variables first path z) entity (suc first) path p zs r.1 ∙ one_set variables entity first path p z r.0

pub values_long : (b : Begun) (v : Variables) (path : Path) (ts : CoreTerms) → length (values_of b v path ts) ≡ count_terms ts
values_long b v path no_terms = refl
values_long b v path (term_and t ts) = ap suc (values_long b v path ts)

-- at a path
pub others_kept : (b : Begun) (depth first : ℕ) (values : CoreTerms) (entity : ℕ) (p : Path) → assigns_to entity (keep depth first values) ≡ false
    → (path : Path) (e : Effect) → (kept_at b depth first values path e).variables entity p ≡ e.variables entity p
others_kept b depth first values entity p h path e =
    others_set e.variables entity first (take depth path) p (values_of b e.variables path values)
    (subst (λ (n : ℕ). (nat_le first entity && nat_lt entity (first + n)) ≡ false) (sym (values_long b e.variables path values)) h)
