-- What is known of the plan of a view is known of its offsets as one list of terms.
use Rattle.std.proofs.Common.{◌≡◌, List, [], ◌∷◌, ◌++◌, map, None, refl, sym, ap, ◌∙◌}
use Rattle.std.specs.List.{AllByRecursion}
use Rattle.std.proofs.lemmas.List.{append_assoc}
use Rattle.dh_tree.specs.Breaches.{offsets_breaches, list_breaches, terms_breaches, term_breaches}
use Rattle.dh_tree.specs.Breaches as names
use Rattle.dh_tree.specs.KindBreaches as kinds
use Rattle.dh_tree.specs.KindBreaches.{indices_kind_breaches, offset_breaches, shifts_breaches, suffixes_breaches, term_kind_breaches}
use Rattle.dh_tree.specs.Kinds.{Facts, found, index_breaches, place_of, typed_offset, typed_plan, typed_term, typed_terms}
use Rattle.dh_tree.specs.PlainTrees.{Term, term_then, Suffixed, ViewPlan, shrinks, splits, suffixes, shifts}
use Rattle.dh_tree.specs.Resolved.{resolved_offset, resolved_plan, resolved_term, resolved_terms}
use Rattle.dh_tree.specs.Scopes.{ScopeEntry}
use Rattle.dh_tree.specs.Seen.{terms}
use Rattle.dh_tree.specs.ViewOffsets.{offsets_of}
use Rattle.dh_tree.specs.Widths.{AreSized, AreAllSized, PlanSized}

abbrev offsets : List Suffixed → List Term
offsets by = map (λ s. s.offset) by

-- Names.
module _ (bs : List ScopeEntry) where
  shifts_resolved : (ts : List Term) → resolved_terms bs (terms ts) ≡ terms (map (resolved_term bs) ts)
  shifts_resolved [] = refl
  shifts_resolved (t ∷ ts) = ap (λ x. term_then (resolved_term bs t) x) (shifts_resolved ts)

  suffixes_resolved : (ss : List Suffixed) → resolved_terms bs (terms (offsets ss)) ≡ terms (offsets (map (resolved_offset bs) ss))
  suffixes_resolved [] = refl
  suffixes_resolved (s ∷ ss) = ap (λ x. term_then (resolved_term bs s.offset) x) (suffixes_resolved ss)

  pub offsets_named : (form : ViewPlan) → resolved_plan bs form ≡ form → resolved_terms bs (terms (offsets_of form)) ≡ terms (offsets_of form)
  offsets_named (shrinks by by_place) e = refl
  offsets_named (splits by by_place) e = refl
  offsets_named (suffixes by by_place) e = let same : map (resolved_offset bs) by ≡ by = cc in suffixes_resolved by ∙ ap (λ l. terms (offsets l)) same
  offsets_named (shifts by) e = let same : map (resolved_term bs) by ≡ by = cc in shifts_resolved by ∙ ap terms same

  shifts_visible : (ts : List Term) → terms_breaches bs (terms ts) ≡ list_breaches bs ts
  shifts_visible [] = refl
  shifts_visible (t ∷ ts) = ap (λ l. term_breaches bs t ++ l) (shifts_visible ts)

  suffixes_visible : (ss : List Suffixed) → terms_breaches bs (terms (offsets ss)) ≡ offsets_breaches bs ss
  suffixes_visible [] = refl
  suffixes_visible (s ∷ ss) = ap (λ l. term_breaches bs s.offset ++ l) (suffixes_visible ss)

  pub offsets_visible : (form : ViewPlan) → terms_breaches bs (terms (offsets_of form)) ≡ names.plan_name_breaches bs form
  offsets_visible (shrinks by by_place) = refl
  offsets_visible (splits by by_place) = refl
  offsets_visible (suffixes by by_place) = suffixes_visible by
  offsets_visible (shifts by) = shifts_visible by

-- Kinds.
module _ (facts : Facts) where
  shifts_typed : (ts : List Term) → typed_terms facts (terms ts) ≡ terms (map (typed_term facts None) ts)
  shifts_typed [] = refl
  shifts_typed (t ∷ ts) = ap (λ x. term_then (typed_term facts None t) x) (shifts_typed ts)

  suffixes_typed : (ss : List Suffixed) → typed_terms facts (terms (offsets ss)) ≡ terms (offsets (map (typed_offset facts) ss))
  suffixes_typed [] = refl
  suffixes_typed (s ∷ ss) = ap (λ x. term_then (typed_term facts None s.offset) x) (suffixes_typed ss)

  pub offsets_typed : (form : ViewPlan) → typed_plan facts form ≡ form → typed_terms facts (terms (offsets_of form)) ≡ terms (offsets_of form)
  offsets_typed (shrinks by by_place) e = refl
  offsets_typed (splits by by_place) e = refl
  offsets_typed (suffixes by by_place) e = let same : map (typed_offset facts) by ≡ by = cc in suffixes_typed by ∙ ap (λ l. terms (offsets l)) same
  offsets_typed (shifts by) e = let same : map (typed_term facts None) by ≡ by = cc in shifts_typed by ∙ ap terms same

  shifts_kinds : (ts : List Term) → indices_kind_breaches facts (terms ts) ≡ shifts_breaches facts ts
  shifts_kinds [] = refl
  shifts_kinds (t ∷ ts) =
      ap (λ l. index_breaches (found t) (place_of t) ++ (term_kind_breaches facts t ++ l)) (shifts_kinds ts)
      ∙ sym (append_assoc (index_breaches (found t) (place_of t)) (term_kind_breaches facts t) (shifts_breaches facts ts))

  suffixes_kinds : (ss : List Suffixed) → indices_kind_breaches facts (terms (offsets ss)) ≡ suffixes_breaches facts ss
  suffixes_kinds [] = refl
  suffixes_kinds (s ∷ ss) =
      ap (λ l. index_breaches (found s.offset) (place_of s.offset) ++ (term_kind_breaches facts s.offset ++ l)) (suffixes_kinds ss)
      ∙ sym (append_assoc (index_breaches (found s.offset) (place_of s.offset)) (term_kind_breaches facts s.offset) (suffixes_breaches facts ss))

  pub offsets_kinds : (form : ViewPlan) → indices_kind_breaches facts (terms (offsets_of form)) ≡ kinds.plan_kind_breaches facts form
  offsets_kinds (shrinks by by_place) = refl
  offsets_kinds (splits by by_place) = refl
  offsets_kinds (suffixes by by_place) = suffixes_kinds by
  offsets_kinds (shifts by) = shifts_kinds by

shifts_sized : (ts : List Term) → AllByRecursion AreSized ts → AreAllSized (terms ts)
shifts_sized [] h = tt
shifts_sized (t ∷ ts) h = (h.0, shifts_sized ts h.1)

suffixes_sized : (ss : List Suffixed) → AllByRecursion (λ s. AreSized s.offset) ss → AreAllSized (terms (offsets ss))
suffixes_sized [] h = tt
suffixes_sized (s ∷ ss) h = (h.0, suffixes_sized ss h.1)

pub offsets_sized : (form : ViewPlan) → PlanSized form → AreAllSized (terms (offsets_of form))
offsets_sized (shrinks by by_place) h = tt
offsets_sized (splits by by_place) h = tt
offsets_sized (suffixes by by_place) h = suffixes_sized by h
offsets_sized (shifts by) h = shifts_sized by h
