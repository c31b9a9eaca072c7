-- The variables of a block are settled at two of its paths. A variable that the block does not touch has the value
-- with which the block began. If it is no iterator it depends on all loops round its declaration, so that paths
-- which agree there have one part that leads to it. If it is the iterator of a loop that is in a turn, its value at
-- a path is that of the turn and of the path's copy in this loop, on which it depends where there is more than one.
-- A variable that the block touches is declared inside all the loops, so that paths which agree where it
-- depends are one path.
use Rattle.std.proofs.Common.{◌≡◌, inl, inr, ℕ, zero, suc, ◌+◌, ◌*◌, ◌-◌, ◌<◌, ◌≤◌, ◌&&◌, nat_lt, ◌==◌, Bool, true, false, if◌then◌else◌, List, [], ◌∷◌, length, Option, Some, None, refl, sym, ◌∙◌, ap, subst, arith}
use Rattle.std.specs.Prelude.{take, slice_index_or, pos}
use Rattle.std.proofs.lemmas.Bool.{cases_lt}
use Rattle.std.proofs.lemmas.Bool.Decides.{nat_tests}
use Rattle.dh_tree.specs.declared.trees.expressions.Ref.{Ref}
use Rattle.dh_meaning.specs.Bindings.{Binding, binding_in, depth_bound}
use Rattle.dh_meaning.specs.Core.{Turning}
use Rattle.dh_meaning.specs.CoreOf.{Known, entity_number, depth_of}
use Rattle.dh_meaning.specs.Effects.{Variables}
use Rattle.dh_meaning.specs.Paths.{Path, IsPathAmong}
use Rattle.dh_meaning.specs.Runs.{iterator_value}
use Rattle.dh_meets.specs.Charges.{iterator_depends, variable_depends, binding_depends, entity_depends}
use Rattle.dh_sound.specs.Blocks.{factors, paths_inside}
use Rattle.dh_sound.specs.IteratorsAt.{IteratorAt}
use Rattle.dh_sound.proofs.PathParts.{Fits, path_fits}
use Rattle.dh_sound.specs.SameKeys.{CopiesAgree, NameAgrees, IsSettledName, IsNearTo, IsNoIterator, IsIteratorName}

-- Paths.

fits_long : (path : Path) (fs : List ℕ) → Fits path fs → length path ≡ length fs
fits_long [] [] h = refl
fits_long [] (f ∷ fs) h = elim h [ ]
fits_long (x ∷ path) [] h = elim h [ ]
fits_long (x ∷ path) (f ∷ fs) h = ap suc (fits_long path fs h.1)

-- a path inside loops is as long as they are many
pub inside_long : (loops : List Turning) (path : Path) → IsPathAmong path (paths_inside loops) → length path ≡ length (factors loops)
inside_long loops path h = fits_long path (factors loops) (path_fits (factors loops) path h)

first_below : (d : ℕ) → nat_lt 0 (suc d) ≡ true
first_below d = grind (arith, nat_tests)

next_below : (l d : ℕ) → nat_lt l d ≡ true → nat_lt (suc l) (suc d) ≡ true
next_below l d e = grind (arith, nat_tests)

-- paths that agree at all levels below a depth have one part up to it
pub same_part : (d : ℕ) (p q : Path) → length p ≡ length q → CopiesAgree (λ l. nat_lt l d) p q → take d p ≡ take d q
same_part zero p q n a = refl
same_part (suc d) [] [] n a = refl
same_part (suc d) [] (y ∷ q) n a = let none : ⊥ = omega (arith, n) in elim none [ ]
same_part (suc d) (x ∷ p) [] n a = let none : ⊥ = omega (arith, n) in elim none [ ]
same_part (suc d) (x ∷ p) (y ∷ q) n a =
    ap (λ z. z ∷ take d p) (a 0 (omega arith) (first_below d)) ∙ ap (λ r. y ∷ r) (same_part d p q (omega (arith, n)) (λ l small is. a (suc l) (omega (arith, small)) (next_below l d is)))

-- behind its end a path has the copy number 0
past_end : (p : Path) (l : ℕ) → length p ≤ l → slice_index_or p l 0 ≡ 0
past_end [] l h = refl
past_end (x ∷ p) zero h = let none : ⊥ = omega (arith, h) in elim none [ ]
past_end (x ∷ p) (suc l) h = past_end p l (omega (arith, h))

-- Variables that are no iterators.

-- the part of a path that leads to a variable that is no iterator
bound_part : (o : Option Binding) (p q : Path) → IsNoIterator o → length p ≡ length q → CopiesAgree (λ l. binding_depends l o) p q → take (depth_bound o) p ≡ take (depth_bound o) q
bound_part None p q h n a = refl
bound_part (Some c) p q h n a = same_part c.depth p q n (λ l small is. a l small (ap (λ i. variable_depends c.depth l i) h ∙ is))

-- it is one for paths that agree where the variable depends
pub plain_part : (known : Known) (p q : Path) (r : Ref) (e : ℕ) → r.entity ≡ Some e → IsNoIterator (binding_in known.bindings e) → length p ≡ length q → NameAgrees known p q r
    → take (depth_of known r) p ≡ take (depth_of known r) q
plain_part known p q r e is h n a =
    subst (λ (o : Option ℕ). take (depth_bound (binding_in known.bindings (entity_number o))) p ≡ take (depth_bound (binding_in known.bindings (entity_number o))) q) (sym is)
    (bound_part (binding_in known.bindings e) p q h n (subst (λ (o : Option ℕ). CopiesAgree (λ l. entity_depends known.bindings l o) p q) is a))

-- a variable that is no iterator and that the block does not touch
pub plain_settled : (known : Known) (v0 v w : Variables) (touched : ℕ → Bool) (p q : Path) (r : Ref) (e : ℕ) → IsNearTo v0 touched v → IsNearTo v0 touched w → length p ≡ length q
    → r.entity ≡ Some e → touched e ≡ false → IsNoIterator (binding_in known.bindings e) → IsSettledName known v w p q r
plain_settled known v0 v w touched p q r e near close n is left h a =
    near (entity_number r.entity) _ untouched
    ∙ (ap (λ x. v0 (entity_number r.entity) x) (plain_part known p q r e is h n a) ∙ sym (close (entity_number r.entity) _ untouched))
  where
    untouched : touched (entity_number r.entity) ≡ false
    untouched = ap (λ o. touched (entity_number o)) is ∙ left

-- Iterators.

-- paths that agree where an iterator depends have one copy in its loop
same_last : (factor depth : ℕ) (p q : Path) → (1 < factor → 1 ≤ depth) → length p ≡ length q → CopiesAgree (λ l. iterator_depends depth l factor) p q
    → (if nat_lt 1 factor then slice_index_or p (depth - 1) 0 else 0) ≡ (if nat_lt 1 factor then slice_index_or q (depth - 1) 0 else 0)
same_last factor depth p q deep n a = by (nat_lt 1 factor) refl
  where
    by : (t : Bool) → nat_lt 1 factor ≡ t → (if t then slice_index_or p (depth - 1) 0 else 0) ≡ (if t then slice_index_or q (depth - 1) 0 else 0)
    by false e = refl
    by true e = elim (cases_lt (depth - 1) (length p)) [
      | inl small ↦ a (depth - 1) small (both e (below (deep (many e))))
      | inr large ↦ past_end p (depth - 1) large ∙ sym (past_end q (depth - 1) (omega (arith, n, large)))
    ]
      where
        many : nat_lt 1 factor ≡ true → 1 < factor
        many e = grind (arith, nat_tests)

        below : 1 ≤ depth → (suc (depth - 1) == depth) ≡ true
        below l = grind (arith, nat_tests)

        both : {x y : Bool} → x ≡ true → y ≡ true → (x && y) ≡ true
        both e f = cc

-- the iterator of a loop that is in a turn and that the block does not touch
pub iterator_settled : (known : Known) (v0 v w : Variables) (touched : ℕ → Bool) (p q : Path) (r : Ref) (loop : Turning) (turn : ℕ) → IsNearTo v0 touched v → IsNearTo v0 touched w → length p ≡ length q
    → IsIteratorName known r loop → touched loop.iterator ≡ false → IteratorAt loop turn v0 p → IteratorAt loop turn v0 q → IsSettledName known v w p q r
iterator_settled known v0 v w touched p q r loop turn near close n i left here there a =
    found v p near here
    ∙ (ap (λ c. pos (loop.low + turn * loop.factor + c)) (same_last loop.factor loop.depth p q i.deep n agree) ∙ sym (found w q close there))
  where
    bound : binding_in known.bindings (entity_number r.entity) ≡ Some i.binding
    bound = ap (λ o. binding_in known.bindings (entity_number o)) i.entity ∙ i.bound

    deep : depth_of known r ≡ loop.depth
    deep = ap depth_bound bound ∙ i.depth

    found : (x : Variables) (path : Path) → IsNearTo v0 touched x → IteratorAt loop turn v0 path → x (entity_number r.entity) (take (depth_of known r) path) ≡ pos (iterator_value loop turn path)
    found x path near at =
        ap (λ o. x (entity_number o) (take (depth_of known r) path)) i.entity
        ∙ (ap (λ d. x loop.iterator (take d path)) deep ∙ (near loop.iterator (take loop.depth path) left ∙ at.value))

    depends_is : (l : ℕ) → entity_depends known.bindings l r.entity ≡ iterator_depends loop.depth l loop.factor
    depends_is l =
        ap (λ o. entity_depends known.bindings l o) i.entity
        ∙ (ap (λ o. binding_depends l o) i.bound
        ∙ (ap (λ o. variable_depends i.binding.depth l o) i.iterates ∙ ap (λ d. iterator_depends d l loop.factor) i.depth))

    agree : CopiesAgree (λ l. iterator_depends loop.depth l loop.factor) p q
    agree l small is = a l small (depends_is l ∙ is)

-- Variables of full depth.

-- a path is its part of its own length or more
pub long_part : (d : ℕ) (p : Path) → length p ≤ d → take d p ≡ p
long_part zero [] l = refl
long_part (suc d) [] l = refl
long_part zero (x ∷ p) l = let none : ⊥ = omega (arith, l) in elim none [ ]
long_part (suc d) (x ∷ p) l = ap (λ r. x ∷ r) (long_part d p (omega (arith, l)))

-- paths that agree where a variable depends that is declared inside all the loops are one path
pub full_depth_same : (known : Known) (p q : Path) (r : Ref) (e : ℕ) → r.entity ≡ Some e → IsNoIterator (binding_in known.bindings e) → length p ≤ depth_of known r → length p ≡ length q → NameAgrees known p q r
    → p ≡ q
full_depth_same known p q r e is h full n a =
    sym (long_part (depth_of known r) p full) ∙ (plain_part known p q r e is h n a ∙ long_part (depth_of known r) q (omega (arith, full, n)))
