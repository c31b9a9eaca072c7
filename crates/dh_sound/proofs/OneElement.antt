-- A block makes one read at two paths with one key: then the paths are one, or the read leads to one element at both.
-- Equal keys mean that the paths agree wherever the indices depend, so wherever any variable in them does. If one
-- of these variables is declared inside all the loops the paths are one; else each of them is settled, and so are the
-- offsets of the ways at paths that differ.
use Rattle.std.proofs.Common.{◌≡◌, ◌⊎◌, inl, inr, ℕ, Bool, true, false, List, length, refl, sym, ◌∙◌, subst, Option}
use Rattle.dh_tree.specs.declared.trees.expressions.Ref.{Ref}
use Rattle.dh_tree.specs.PlainTrees.{Term, term, number, truth_value, named, accessed, in_bank, applied, converted, Terms, no_terms, term_then}
use Rattle.dh_meaning.specs.Core.{Turning}
use Rattle.dh_meaning.specs.CoreOf.{Known}
use Rattle.dh_meaning.specs.Effects.{Begun, Variables}
use Rattle.dh_meaning.specs.Paths.{Path, same_path, IsPathAmong}
use Rattle.dh_meets.specs.Charges.{entity_depends, term_depends, terms_depend, element_depends, depends, key_of}
use Rattle.dh_meets.specs.SourceEvents.{Element, with_indices, in_row, SourceAccess}
use Rattle.dh_sound.specs.SameKeys.{CopiesAgree, NameAgrees, IsSettledName, EachName, EachNameOf, EachNameIn, IsNearTo, NameFacts, is_plain, is_turned, is_full, IsIteratorName}
use Rattle.dh_sound.specs.Blocks.{paths_inside}
use Rattle.dh_sound.specs.IteratorsAt.{TurnAt}
use Rattle.dh_sound.proofs.Counting.{same_list, whole_list}
use Rattle.dh_sound.proofs.SourceValues.{source_spot}
use Rattle.dh_sound.proofs.SameKeys.{keys_agree, agree_less, agree_left, agree_right, or_right, same_keys}
use Rattle.dh_sound.proofs.SettledNames.{inside_long, plain_settled, iterator_settled, full_depth_same}
use Rattle.dh_meaning.specs.Ways.{way_at}
use Rattle.dh_ways.specs.SpotsThrough.{offsets_at}

-- What holds of each name in an expression, or another fact for one of them.
module _ (A : Type 0) where
  both_or : (X Y : Type 0) → A ⊎ X → A ⊎ Y → A ⊎ (X × Y)
  both_or X Y (inl a) y = inl a
  both_or X Y (inr x) (inl a) = inl a
  both_or X Y (inr x) (inr y) = inr (x, y)

  module _ (known : Known) (p q : Path) (P Q : Ref → Type 0) (f : (r : Ref) → NameAgrees known p q r → P r → A ⊎ Q r) where
    mutual
      each_or : (t : Term) → CopiesAgree (λ l. term_depends known.bindings l t) p q → EachName P t → A ⊎ EachName Q t
      each_or (term place k (number negative x)) a h = inr tt
      each_or (term place k (truth_value x)) a h = inr tt
      each_or (term place k (named r)) a h = f r a h
      each_or (term place k (accessed r ts)) a h = each_or_of ts (agree_right (λ l. entity_depends known.bindings l r.entity) (λ l. terms_depend known.bindings l ts) p q a) h
      each_or (term place k (in_bank r bank at t)) a h = each_or t a h
      each_or (term place k (applied o l r)) a h =
          both_or (EachName Q l) (EachName Q r)
          (each_or l (agree_left (λ i. term_depends known.bindings i l) (λ i. term_depends known.bindings i r) p q a) h.0)
          (each_or r (agree_right (λ i. term_depends known.bindings i l) (λ i. term_depends known.bindings i r) p q a) h.1)
      each_or (term place k (converted t to)) a h = each_or t a h

      each_or_of : (ts : Terms) → CopiesAgree (λ l. terms_depend known.bindings l ts) p q → EachNameOf P ts → A ⊎ EachNameOf Q ts
      each_or_of no_terms a h = inr tt
      each_or_of (term_then t ts) a h =
          both_or (EachName Q t) (EachNameOf Q ts)
          (each_or t (agree_left (λ i. term_depends known.bindings i t) (λ i. terms_depend known.bindings i ts) p q a) h.0)
          (each_or_of ts (agree_right (λ i. term_depends known.bindings i t) (λ i. terms_depend known.bindings i ts) p q a) h.1)

    pub each_or_in : (e : Element) → CopiesAgree (λ l. element_depends known.bindings l e) p q → EachNameIn P e → A ⊎ EachNameIn Q e
    each_or_in (with_indices ts) a h = each_or_of ts a h
    each_or_in (in_row bank t) a h = each_or t a h

module _ (b : Begun) (known : Known) (v0 v w : Variables) (touched : ℕ → Bool) (p q : Path) (near : IsNearTo v0 touched v) (close : IsNearTo v0 touched w) (n : length p ≡ length q) where
  -- a name is settled, or the paths are one
  pub name_settled : (r : Ref) → NameAgrees known p q r → NameFacts known v0 touched p q r → (p ≡ q) ⊎ IsSettledName known v w p q r
  name_settled r a (is_plain e is left none) = inr (plain_settled known v0 v w touched p q r e near close n is left none)
  name_settled r a (is_turned loop turn i left here there) = inr (iterator_settled known v0 v w touched p q r loop turn near close n i left here there)
  name_settled r a (is_full e is none full) = inl (full_depth_same known p q r e is none full n a)

  -- a read of a block at two paths with one key leads to one element, or the paths are one
  pub one_element : (a : SourceAccess) → a.writes ≡ false → key_of known.bindings a p ≡ key_of known.bindings a q → EachNameIn (NameFacts known v0 touched p q) a.element
      → ((p ≡ q → ⊥) → (entity : Option ℕ) → CopiesAgree (λ l. entity_depends known.bindings l entity) p q → offsets_at b v p (way_at known.memories known.ways entity) ≡ offsets_at b w q (way_at known.memories known.ways entity))
      → (p ≡ q) ⊎ (source_spot b known v p a.entity a.element ≡ source_spot b known w q a.entity a.element)
  one_element a reads e facts still = by (same_path p q) refl
    where
      agree : CopiesAgree (λ l. element_depends known.bindings l a.element) p q
      agree = agree_less (depends known.bindings a) (λ l. element_depends known.bindings l a.element) p q (λ l h. or_right a.writes _ (or_right (entity_depends known.bindings l a.entity) (element_depends known.bindings l a.element) h)) (keys_agree known a p q n e)

      differ : same_path p q ≡ false → p ≡ q → ⊥
      differ s same = none (sym s ∙ subst (λ (z : Path). same_path p z ≡ true) same (whole_list p))
        where
          none : false ≡ true → ⊥
          none f = cc

      by : (t : Bool) → same_path p q ≡ t → (p ≡ q) ⊎ (source_spot b known v p a.entity a.element ≡ source_spot b known w q a.entity a.element)
      by true s = inl (same_list p q s)
      by false s =
          elim (each_or_in (p ≡ q) known p q (NameFacts known v0 touched p q) (IsSettledName known v w p q) name_settled a.element agree facts) [
            | inl same ↦ inl same
            | inr settled ↦ inr (same_keys b known v w p q (still (differ s)) a reads n e settled)
          ]

-- What is given of a block's paths.

-- the paths inside loops have one length
pub same_length : (loops : List Turning) (p q : Path) → IsPathAmong p (paths_inside loops) → IsPathAmong q (paths_inside loops) → length p ≡ length q
same_length loops p q h k = inside_long loops p h ∙ sym (inside_long loops q k)

-- the iterator of a loop that is in a turn at these paths
pub turned_name : (known : Known) (v0 : Variables) (touched : ℕ → Bool) (paths : List Path) (p q : Path) (r : Ref) (loop : Turning) → IsIteratorName known r loop → touched loop.iterator ≡ false
    → TurnAt loop v0 paths → IsPathAmong p paths → IsPathAmong q paths → NameFacts known v0 touched p q r
turned_name known v0 touched paths p q r loop i left t h k = is_turned loop t.turn i left (t.each p h) (t.each q k)
