-- The offsets of a way have one value at two paths of a block that agree where the view depends: they agree in all loops
-- round the deepest view on the way that moves, and so in all round each of them. What the block keeps is declared
-- inside all its loops, so that such paths are one.
use Rattle.std.proofs.Common.{◌≡◌, ℕ, ◌≤◌, nat_lt, Bool, true, false, if◌then◌else◌, List, [], ◌∷◌, length, take, Option, Some, None, refl, sym, ◌∙◌, ap, arith}
use Rattle.std.specs.List.{AllByRecursion}
use Rattle.std.proofs.lemmas.Bool.Decides.{nat_tests}
use Rattle.dh_value.specs.Words as words
use Rattle.dh_value.specs.Words.{word_of}
use Rattle.dh_tree.specs.Memories.{Memory, memory_in, memories_of, same_entity}
use Rattle.dh_tree.specs.PlainTrees.{Program}
use Rattle.dh_meaning.specs.Bindings.{binding_in, depth_bound}
use Rattle.dh_meaning.specs.CoreOf.{kept_terms}
use Rattle.dh_meaning.specs.Effects.{Begun, Variables, values_of}
use Rattle.dh_meaning.specs.Paths.{Path}
use Rattle.dh_meaning.specs.Ways.{Hidden, Led, Way, all_bindings_of, way_in, way_to, way_unless, ways_of}
use Rattle.dh_meets.specs.Charges.{binding_depends, entity_depends, variable_depends}
use Rattle.dh_ways.specs.SpotsThrough.{offsets_at}
use Rattle.dh_ways.proofs.HiddenApart.{way_within}
use Rattle.dh_sound.specs.SameKeys.{CopiesAgree, IsNearTo}
use Rattle.dh_sound.specs.ViewsBound.{ViewsBound}
use Rattle.dh_sound.proofs.SettledNames.{long_part, same_part}

-- what stands for nothing has no way
none_named : (o : Option ℕ) → same_entity o None ≡ false
none_named None = refl
none_named (Some n) = refl

none_in : (ls : List Led) → way_in ls None ≡ None
none_in [] = refl
none_in (l ∷ ls) = ap (λ t. if t then Some l.way else way_in ls None) (none_named l.entity) ∙ none_in ls

none_unless : (m : Option Memory) → way_unless m None ≡ None
none_unless None = refl
none_unless (Some m) = refl

none_to : (p : Program) → way_to p None ≡ None
none_to p = ap (λ o. way_unless (memory_in (memories_of p) None) o) (none_in (ways_of p)) ∙ none_unless (memory_in (memories_of p) None)

lower_level : (l d e : ℕ) → d ≤ e → nat_lt l d ≡ true → nat_lt l e ≡ true
lower_level l d e le h = grind (arith, nat_tests, le, h)

module _ (p : Program) (b : Begun) (bound : ViewsBound p) (v0 v w : Variables) (touched : ℕ → Bool) (x y : Path) (near : IsNearTo v0 touched v) (close : IsNearTo v0 touched w) (n : length x ≡ length y)
    (inside : (e : ℕ) → touched e ≡ true → length x ≤ depth_bound (binding_in (all_bindings_of p) e)) where
  two_same : (hs : List Hidden) → AllByRecursion (λ h. v h.entity (take h.depth x) ≡ w h.entity (take h.depth y)) hs → values_of b v x (kept_terms hs) ≡ values_of b w y (kept_terms hs)
  two_same [] a = refl
  two_same (h ∷ hs) a =
      ap (λ z. words.value_of (word_of h.kind z) ∷ values_of b v x (kept_terms hs)) a.0
      ∙ ap (λ zs. words.value_of (word_of h.kind (w h.entity (take h.depth y))) ∷ zs) (two_same hs a.1)

  module _ (differ : x ≡ y → ⊥) where
    -- one offset, up to whose deepest view the paths agree
    one_same : (deepest : ℕ) → CopiesAgree (λ l. nat_lt l deepest) x y → (h : Hidden) → h.depth ≤ deepest → depth_bound (binding_in (all_bindings_of p) h.entity) ≡ h.depth
        → v h.entity (take h.depth x) ≡ w h.entity (take h.depth y)
    one_same deepest agree h deep kept = by (touched h.entity) refl
      where
        part : take h.depth x ≡ take h.depth y
        part = same_part h.depth x y n (λ l small is. agree l small (lower_level l h.depth deepest deep is))

        by : (t : Bool) → touched h.entity ≡ t → v h.entity (take h.depth x) ≡ w h.entity (take h.depth y)
        by false left = near h.entity (take h.depth x) left ∙ (ap (λ q. v0 h.entity q) part ∙ sym (close h.entity (take h.depth y) left))
        by true hit =
            let full = inside h.entity hit in
            absurd (differ (sym (long_part h.depth x (omega (arith, full, kept))) ∙ (part ∙ long_part h.depth y (omega (arith, full, kept, n)))))

    each_same : (deepest : ℕ) → CopiesAgree (λ l. nat_lt l deepest) x y → (hs : List Hidden) → AllByRecursion (λ h. h.depth ≤ deepest) hs
        → AllByRecursion (λ h. depth_bound (binding_in (all_bindings_of p) h.entity) ≡ h.depth) hs → AllByRecursion (λ h. v h.entity (take h.depth x) ≡ w h.entity (take h.depth y)) hs
    each_same deepest agree [] a k = tt
    each_same deepest agree (h ∷ hs) a k = (one_same deepest agree h a.0 k.0, each_same deepest agree hs a.1 k.1)

    pub offsets_settled : (entity : Option ℕ) → CopiesAgree (λ l. entity_depends (all_bindings_of p) l entity) x y → offsets_at b v x (way_to p entity) ≡ offsets_at b w y (way_to p entity)
    offsets_settled None agree = ap (λ o. offsets_at b v x o) (none_to p) ∙ sym (ap (λ o. offsets_at b w y o) (none_to p))
    offsets_settled (Some e) agree = by (way_to p (Some e)) refl
      where
        by : (o : Option Way) → way_to p (Some e) ≡ o → offsets_at b v x o ≡ offsets_at b w y o
        by None is = refl
        by (Some z) is =
            let own = bound.named e z is in
            let depends_is : (l : ℕ) → entity_depends (all_bindings_of p) l (Some e) ≡ nat_lt l z.deepest =
            (λ l. ap (λ o. binding_depends l o) own.found ∙ (ap (λ o. variable_depends own.binding.depth l o) own.plain ∙ ap (λ d. nat_lt l d) own.depth)) in
            two_same z.hidden (each_same z.deepest (λ l small h. agree l small (depends_is l ∙ h)) z.hidden (way_within p (Some e) z is).deep (bound.kept (Some e) z is))
