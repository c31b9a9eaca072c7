-- Reads whose indices have one structure depend on the same loops, and a read means the same by variables that agree
-- wherever its indices look.
use Rattle.std.proofs.Common.{◌≡◌, ◌⊎◌, inl, inr, ℕ, ◌&&◌, ◌||◌, nat_eq, Bool, true, false, List, [], ◌∷◌, take, Option, Some, refl, sym, ◌∙◌, ap, subst}
use Rattle.std.specs.List.{AllByRecursion}
use Rattle.dh_tree.specs.declared.trees.expressions.Ref.{Ref}
use Rattle.dh_tree.specs.Memories.{same_entity}
use Rattle.dh_tree.specs.PlainTrees.{Term, term, TermForm, number, truth_value, named, accessed, in_bank, applied, converted, Terms, no_terms, term_then}
use Rattle.dh_meaning.specs.CoreOf.{Known, depth_of, entity_number}
use Rattle.dh_meaning.specs.Effects.{Begun, Variables}
use Rattle.dh_meaning.specs.Paths.{Path}
use Rattle.dh_meaning.specs.Ways.{Hidden, hidden_in, way_at}
use Rattle.dh_meets.specs.Charges.{element_depends, entity_depends, form_depends, term_depends, terms_depend}
use Rattle.dh_meets.specs.Sharing.{alike, alike_elements, alike_forms, all_alike, element_mentions, mentions, number_of_op, reassigned, same_maybe_kind, terms_mention}
use Rattle.dh_tree.specs.Kinds.{same_kind}
use Rattle.dh_meets.specs.SourceEvents.{Element, with_indices, in_row, SourceEvent, accesses, assigned}
use Rattle.dh_sound.specs.SameKeys.{EachName, EachNameIn, EachNameOf, IsSettledName}
use Rattle.dh_sound.specs.Straight.{AreNamedTerms, IsNamedTerm}
use Rattle.dh_sound.proofs.SameKeys.{settled_spot}
use Rattle.dh_sound.proofs.SourceValues.{IsNamedElement, SameOffsets, entity_is, source_spot}
use Rattle.dh_ways.proofs.TargetsOnWays.{offsets_same}

both_so : (a b : Bool) → (a && b) ≡ true → (a ≡ true) × (b ≡ true)
both_so true b e = (refl, e)
both_so false b e = cc

or_false : (a b : Bool) → (a || b) ≡ false → (a ≡ false) × (b ≡ false)
or_false true b e = cc
or_false false b e = (refl, e)

module _ (b : Begun) (known : Known) where
  mutual
    pub term_alike : (l : ℕ) (s t : Term) → alike s t ≡ true → term_depends known.bindings l s ≡ term_depends known.bindings l t
    term_alike l (term p j f) (term q k g) e = forms_alike l f g (both_so (same_maybe_kind j k) (alike_forms f g) e).1

    forms_alike : (l : ℕ) (f g : TermForm) → alike_forms f g ≡ true → form_depends known.bindings l f ≡ form_depends known.bindings l g
    forms_alike l (number s m) (number t n) e = refl
    forms_alike l (truth_value a) (truth_value c) e = refl
    forms_alike l (named r) (named q) e = ap (λ o. entity_depends known.bindings l o) (entity_is b known r.entity q.entity e)
    forms_alike l (accessed r ts) (accessed q us) e =
        let h = both_so (same_entity r.entity q.entity) (all_alike ts us) e in
        ap (λ o. entity_depends known.bindings l o || terms_depend known.bindings l ts) (entity_is b known r.entity q.entity h.0)
        ∙ ap (λ x. entity_depends known.bindings l q.entity || x) (terms_alike l ts us h.1)
    forms_alike l (in_bank r x at t) (in_bank q y other u) e =
        term_alike l t u (both_so (nat_eq x y) (alike t u) (both_so (same_entity r.entity q.entity) (nat_eq x y && alike t u) e).1).1
    forms_alike l (applied o a c) (applied p d f) e =
        let h = both_so (alike a d) (alike c f) (both_so (nat_eq (number_of_op o) (number_of_op p)) (alike a d && alike c f) e).1 in
        ap (λ x. x || term_depends known.bindings l c) (term_alike l a d h.0) ∙ ap (λ x. term_depends known.bindings l d || x) (term_alike l c f h.1)
    forms_alike l (converted t j) (converted u k) e = term_alike l t u (both_so (same_kind j k) (alike t u) e).1
    forms_alike l (number s m) (truth_value ax) e = absurd (cc)
    forms_alike l (number s m) (named q) e = absurd (cc)
    forms_alike l (number s m) (accessed q us) e = absurd (cc)
    forms_alike l (number s m) (in_bank q other atx u) e = absurd (cc)
    forms_alike l (number s m) (applied px cx dx) e = absurd (cc)
    forms_alike l (number s m) (converted u kx) e = absurd (cc)
    forms_alike l (truth_value a) (number sx mx) e = absurd (cc)
    forms_alike l (truth_value a) (named q) e = absurd (cc)
    forms_alike l (truth_value a) (accessed q us) e = absurd (cc)
    forms_alike l (truth_value a) (in_bank q other atx u) e = absurd (cc)
    forms_alike l (truth_value a) (applied px cx dx) e = absurd (cc)
    forms_alike l (truth_value a) (converted u kx) e = absurd (cc)
    forms_alike l (named r) (number sx mx) e = absurd (cc)
    forms_alike l (named r) (truth_value ax) e = absurd (cc)
    forms_alike l (named r) (accessed q us) e = absurd (cc)
    forms_alike l (named r) (in_bank q other atx u) e = absurd (cc)
    forms_alike l (named r) (applied px cx dx) e = absurd (cc)
    forms_alike l (named r) (converted u kx) e = absurd (cc)
    forms_alike l (accessed r ts) (number sx mx) e = absurd (cc)
    forms_alike l (accessed r ts) (truth_value ax) e = absurd (cc)
    forms_alike l (accessed r ts) (named q) e = absurd (cc)
    forms_alike l (accessed r ts) (in_bank q other atx u) e = absurd (cc)
    forms_alike l (accessed r ts) (applied px cx dx) e = absurd (cc)
    forms_alike l (accessed r ts) (converted u kx) e = absurd (cc)
    forms_alike l (in_bank r bank at t) (number sx mx) e = absurd (cc)
    forms_alike l (in_bank r bank at t) (truth_value ax) e = absurd (cc)
    forms_alike l (in_bank r bank at t) (named q) e = absurd (cc)
    forms_alike l (in_bank r bank at t) (accessed q us) e = absurd (cc)
    forms_alike l (in_bank r bank at t) (applied px cx dx) e = absurd (cc)
    forms_alike l (in_bank r bank at t) (converted u kx) e = absurd (cc)
    forms_alike l (applied o c d) (number sx mx) e = absurd (cc)
    forms_alike l (applied o c d) (truth_value ax) e = absurd (cc)
    forms_alike l (applied o c d) (named q) e = absurd (cc)
    forms_alike l (applied o c d) (accessed q us) e = absurd (cc)
    forms_alike l (applied o c d) (in_bank q other atx u) e = absurd (cc)
    forms_alike l (applied o c d) (converted u kx) e = absurd (cc)
    forms_alike l (converted t k) (number sx mx) e = absurd (cc)
    forms_alike l (converted t k) (truth_value ax) e = absurd (cc)
    forms_alike l (converted t k) (named q) e = absurd (cc)
    forms_alike l (converted t k) (accessed q us) e = absurd (cc)
    forms_alike l (converted t k) (in_bank q other atx u) e = absurd (cc)
    forms_alike l (converted t k) (applied px cx dx) e = absurd (cc)

    pub terms_alike : (l : ℕ) (ts us : Terms) → all_alike ts us ≡ true → terms_depend known.bindings l ts ≡ terms_depend known.bindings l us
    terms_alike l no_terms no_terms e = refl
    terms_alike l (term_then t ts) (term_then u us) e =
        let h = both_so (alike t u) (all_alike ts us) e in
        ap (λ x. x || terms_depend known.bindings l ts) (term_alike l t u h.0) ∙ ap (λ x. term_depends known.bindings l u || x) (terms_alike l ts us h.1)
    terms_alike l no_terms (term_then u us) e = absurd (cc)
    terms_alike l (term_then t ts) no_terms e = absurd (cc)

  pub element_alike : (l : ℕ) (d e : Element) → alike_elements d e ≡ true → element_depends known.bindings l d ≡ element_depends known.bindings l e
  element_alike l (with_indices ts) (with_indices us) h = terms_alike l ts us h
  element_alike l (in_row x t) (in_row y u) h = term_alike l t u (both_so (nat_eq x y) (alike t u) h).1
  element_alike l (with_indices ts) (in_row y u) h = absurd (cc)
  element_alike l (in_row x t) (with_indices us) h = absurd (cc)

-- What holds of each name.
module _ (Q : Ref → Type 0) (all : (r : Ref) → Q r) where
  mutual
    each_of : (t : Term) → EachName Q t
    each_of (term p k (number s m)) = tt
    each_of (term p k (truth_value a)) = tt
    each_of (term p k (named r)) = all r
    each_of (term p k (accessed r ts)) = each_in ts
    each_of (term p k (in_bank r x at t)) = each_of t
    each_of (term p k (applied o a c)) = (each_of a, each_of c)
    each_of (term p k (converted t j)) = each_of t

    each_in : (ts : Terms) → EachNameOf Q ts
    each_in no_terms = tt
    each_in (term_then t ts) = (each_of t, each_in ts)

  each_at : (e : Element) → EachNameIn Q e
  each_at (with_indices ts) = each_in ts
  each_at (in_row x t) = each_of t

-- something is assigned among events
abbrev pub HasAssigned : (entity : Option ℕ) → List SourceEvent → Type 0
HasAssigned entity [] = ⊥
HasAssigned entity (accesses a ∷ es) = HasAssigned entity es
HasAssigned entity (assigned o ∷ es) = (o ≡ entity) ⊎ HasAssigned entity es

-- an entity is assigned in none of them
abbrev pub IsFree : (entity : ℕ) → List SourceEvent → Type 0
IsFree entity es = (o : Option ℕ) → HasAssigned o es → same_entity (Some entity) o ≡ false

not_reassigned : (e : Element) (es : List SourceEvent) → reassigned e es ≡ false → (o : Option ℕ) → HasAssigned o es → element_mentions o e ≡ false
not_reassigned e [] h o in_es = absurd in_es
not_reassigned e (accesses a ∷ es) h o in_es = not_reassigned e es h o in_es
not_reassigned e (assigned x ∷ es) h o (inl is) = subst (λ (y : Option ℕ). element_mentions y e ≡ false) is (or_false (element_mentions x e) (reassigned e es) h).0
not_reassigned e (assigned x ∷ es) h o (inr more) = not_reassigned e es (or_false (element_mentions x e) (reassigned e es) h).1 o more

module _ (Q : Ref → Type 0) (es : List SourceEvent) (all : (r : Ref) (m : ℕ) → r.entity ≡ Some m → IsFree m es → Q r) where
  mutual
    clear_term : (t : Term) → IsNamedTerm t → ((o : Option ℕ) → HasAssigned o es → mentions o t ≡ false) → EachName Q t
    clear_term (term p k (number s m)) names h = tt
    clear_term (term p k (truth_value a)) names h = tt
    clear_term (term p k (named r)) names h = all r names.0 names.1 (λ o in_es. subst (λ (x : Option ℕ). same_entity x o ≡ false) names.1 (h o in_es))
    clear_term (term p k (accessed r ts)) names h = clear_terms ts names h
    clear_term (term p k (in_bank r x at t)) names h = clear_term t names h
    clear_term (term p k (applied o a c)) names h =
        (clear_term a names.0 (λ x in_es. (or_false (mentions x a) (mentions x c) (h x in_es)).0), clear_term c names.1 (λ x in_es. (or_false (mentions x a) (mentions x c) (h x in_es)).1))
    clear_term (term p k (converted t j)) names h = clear_term t names h

    clear_terms : (ts : Terms) → AreNamedTerms ts → ((o : Option ℕ) → HasAssigned o es → terms_mention o ts ≡ false) → EachNameOf Q ts
    clear_terms no_terms names h = tt
    clear_terms (term_then t ts) names h =
        (clear_term t names.0 (λ x in_es. (or_false (mentions x t) (terms_mention x ts) (h x in_es)).0), clear_terms ts names.1 (λ x in_es. (or_false (mentions x t) (terms_mention x ts) (h x in_es)).1))

module _ (b : Begun) (known : Known) where
  clear_element : (Q : Ref → Type 0) (es : List SourceEvent) → ((r : Ref) (m : ℕ) → r.entity ≡ Some m → IsFree m es → Q r) → (e : Element) → IsNamedElement b known e → reassigned e es ≡ false → EachNameIn Q e
  clear_element Q es all (with_indices ts) names h = clear_terms Q es all ts names (not_reassigned (with_indices ts) es h)
  clear_element Q es all (in_row x t) names h = clear_term Q es all t names (not_reassigned (in_row x t) es h)

  -- variables that agree as they are seen at a path
  pub spot_seen : (v w : Variables) (p : Path) (of : Option ℕ) (e : Element) → ((entity d : ℕ) → v entity (take d p) ≡ w entity (take d p)) → source_spot b known v p of e ≡ source_spot b known w p of e
  spot_seen v w p of e agree =
      settled_spot b known v w p p (λ entity same. offsets_same b v w p (hidden_in (way_at known.memories known.ways entity)) (each (hidden_in (way_at known.memories known.ways entity)))) of e (λ l small is. refl) (each_at (IsSettledName known v w p p) (λ r same. agree (entity_number r.entity) (depth_of known r)) e) (λ l small is. refl)
    where
      each : (hs : List Hidden) → AllByRecursion (λ (h : Hidden). v h.entity (take h.depth p) ≡ w h.entity (take h.depth p)) hs
      each [] = tt
      each (h ∷ hs) = (agree h.entity h.depth, each hs)

  -- variables that agree where nothing is assigned among events, and by which the offsets of all ways are the same
  pub spot_kept : (v w : Variables) (p : Path) (of : Option ℕ) (e : Element) (es : List SourceEvent) → SameOffsets b known v w p → ((entity : ℕ) → IsFree entity es → (q : Path) → v entity q ≡ w entity q)
      → IsNamedElement b known e → reassigned e es ≡ false → source_spot b known v p of e ≡ source_spot b known w p of e
  spot_kept v w p of e es still agree names h =
      settled_spot b known v w p p (λ entity same. still entity) of e (λ l small is. refl)
      (clear_element (IsSettledName known v w p p) es (λ r m is free same. subst (λ (n : ℕ). v n (take (depth_of known r) p) ≡ w n (take (depth_of known r) p)) (sym (ap entity_number is)) (agree m free (take (depth_of known r) p))) e names h)
      (λ l small is. refl)
