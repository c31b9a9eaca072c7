-- Filling in the kinds of a program changes kinds alone: the kinds that it writes keep their widths, and
-- the forms that are not built for a check or a run are the same. By recursion over the
-- tree.
use Rattle.std.proofs.Common.{◌≡◌, ◌&&◌, ◌||◌, Bool, false, if◌then◌else◌, List, [], ◌∷◌, ◌++◌, map, Option, Some, None, refl, ap, ◌∙◌}
use Rattle.std.specs.List.{AllByRecursion}
use Rattle.dh_base.specs.declared.places.Place.{Place}
use Rattle.dh_value.specs.declared.kinds.Kind.{Kind}
use Rattle.dh_tree.specs.Forms.{unbuilt, form_holds, unbuilt_functions, unbuilt_action, unbuilt_form, unbuilt_other, unbuilt_groups, unbuilt_part, unbuilt_forms}
use Rattle.dh_tree.specs.Kinds.{Facts, fact_of, of_iterator, for_numbers, found, iterator_kind, target_kind, parameters_of, is_bare, left_want, right_want, typed_term, typed_form, typed_terms, typed_maybe, typed_offset, typed_plan, typed_arguments, facts_after, facts_after_actions, facts_after_function, formal_facts, first_facts, typed_action, typed_action_form, typed_other, typed_actions, typed_groups, typed_function, typed_functions, typed}
use Rattle.dh_tree.specs.PlainTrees.{Term, term, TermForm, number, truth_value, named, accessed, in_bank, applied, converted, Terms, no_terms, term_then, Suffixed, ViewPlan, shrinks, splits, suffixes, shifts, Action, action, ActionForm, lets, lets_memory, views, assigns, stores, reduces, calls, blocks, decides, repeats, counts, MaybeAction, no_action, one_action, Actions, no_actions, action_then, Groups, no_groups, group_then, Defined, Program}
use Rattle.dh_tree.specs.Widths.{AreSized, AreSizedIn, AreAllSized, MaybeSized, PlanSized, ActionSized, FormSized, OtherSized, ActionsSized, GroupsSized, DefinedSized, HasWidths}
use Rattle.dh_tree.proofs.TypedForms.{form_steps_kept, functions_kept, start_of}

mutual
  term_sized : (facts : Facts) (want : Option Kind) (t : Term) → AreSized t → AreSized (typed_term facts want t)
  term_sized facts want (term place kind form) h = form_sized facts want form h

  form_sized : (facts : Facts) (want : Option Kind) (f : TermForm) → AreSizedIn f → AreSizedIn (typed_form facts want f)
  form_sized facts want (number negative n) h = tt
  form_sized facts want (truth_value value) h = tt
  form_sized facts want (named r) h = tt
  form_sized facts want (accessed r indices) h = terms_sized facts indices h
  form_sized facts want (in_bank r bank bank_place row) h = term_sized facts None row h
  form_sized facts want (applied o left right) h =
      let l : Option Kind = left_want o want (is_bare left) (is_bare right) (found (typed_term facts None right)) in
      let r : Option Kind = right_want o want (is_bare left) (is_bare right) (found (typed_term facts None left)) in
      (term_sized facts l left h.0, term_sized facts r right h.1)
  form_sized facts want (converted inner to) h = (h.0, term_sized facts (for_numbers (Some to)) inner h.1)

  terms_sized : (facts : Facts) (ts : Terms) → AreAllSized ts → AreAllSized (typed_terms facts ts)
  terms_sized facts no_terms h = tt
  terms_sized facts (term_then t rest) h = (term_sized facts None t h.0, terms_sized facts rest h.1)

maybe_sized : (facts : Facts) (want : Option Kind) (t : Option Term) → MaybeSized t → MaybeSized (typed_maybe facts want t)
maybe_sized facts want None h = tt
maybe_sized facts want (Some t) h = term_sized facts (for_numbers want) t h

listed_sized : (facts : Facts) (ts : List Term) → AllByRecursion AreSized ts → AllByRecursion AreSized (map (typed_term facts None) ts)
listed_sized facts [] h = tt
listed_sized facts (t ∷ ts) h = (term_sized facts None t h.0, listed_sized facts ts h.1)

offsets_sized : (facts : Facts) (ss : List Suffixed) → AllByRecursion (λ (s : Suffixed). AreSized s.offset) ss → AllByRecursion (λ (s : Suffixed). AreSized s.offset) (map (typed_offset facts) ss)
offsets_sized facts [] h = tt
offsets_sized facts (s ∷ ss) h = (term_sized facts None s.offset h.0, offsets_sized facts ss h.1)

plan_sized : (facts : Facts) (v : ViewPlan) → PlanSized v → PlanSized (typed_plan facts v)
plan_sized facts (shrinks by_ by_place) h = tt
plan_sized facts (splits by_ by_place) h = tt
plan_sized facts (suffixes by_ by_place) h = offsets_sized facts by_ h
plan_sized facts (shifts by_) h = listed_sized facts by_ h

arguments_sized : (facts : Facts) (ks : List Kind) (ts : List Term) → AllByRecursion AreSized ts → AllByRecursion AreSized (typed_arguments facts ks ts)
arguments_sized facts [] [] h = tt
arguments_sized facts (k ∷ ks) [] h = tt
arguments_sized facts [] (t ∷ ts) h = (term_sized facts None t h.0, arguments_sized facts [] ts h.1)
arguments_sized facts (k ∷ ks) (t ∷ ts) h = (term_sized facts (for_numbers (Some k)) t h.0, arguments_sized facts ks ts h.1)

mutual
  action_sized : (facts : Facts) (a : Action) → ActionSized a → ActionSized (typed_action facts a)
  action_sized facts (action id place form) h = action_form_sized facts form h

  action_form_sized : (facts : Facts) (f : ActionForm) → FormSized f → FormSized (typed_action_form facts f)
  action_form_sized facts (lets name declared value) h = (h.0, maybe_sized facts declared value h.1)
  action_form_sized facts (lets_memory name shape shape_places value) h = (h.0, maybe_sized facts (Some shape.kind) value h.1)
  action_form_sized facts (views name parent form) h = plan_sized facts form h
  action_form_sized facts (assigns target value) h = term_sized facts (for_numbers (target_kind (fact_of facts target))) value h
  action_form_sized facts (stores target value) h =
      (term_sized facts None target h.0, term_sized facts (for_numbers (found (typed_term facts None target))) value h.1)
  action_form_sized facts (reduces target o value) h = term_sized facts (for_numbers (target_kind (fact_of facts target))) value h
  action_form_sized facts (calls function arguments) h = arguments_sized facts (parameters_of (fact_of facts function)) arguments h
  action_form_sized facts (blocks body) h = groups_sized facts body h
  action_form_sized facts (decides test chosen other) h =
      (term_sized facts None test h.0, (action_sized facts chosen h.1.0, other_sized (facts_after facts (typed_action facts chosen)) other h.1.1))
  action_form_sized facts (repeats test body) h = (term_sized facts None test h.0, action_sized facts body h.1)
  action_form_sized facts (counts iterator declared low high factor body combine combine_place) h =
      let inner : Facts = facts ++ of_iterator (iterator_kind declared) ∷ [] in
      (h.0, (action_sized inner body h.1.0, other_sized (facts_after inner (typed_action inner body)) combine h.1.1))

  other_sized : (facts : Facts) (m : MaybeAction) → OtherSized m → OtherSized (typed_other facts m)
  other_sized facts no_action h = tt
  other_sized facts (one_action a) h = action_sized facts a h

  actions_sized : (facts : Facts) (p : Actions) → ActionsSized p → ActionsSized (typed_actions facts p)
  actions_sized facts no_actions h = tt
  actions_sized facts (action_then a rest) h = (action_sized facts a h.0, actions_sized (facts_after facts (typed_action facts a)) rest h.1)

  groups_sized : (facts : Facts) (g : Groups) → GroupsSized g → GroupsSized (typed_groups facts g)
  groups_sized facts no_groups h = tt
  groups_sized facts (group_then part rest) h = (actions_sized facts part h.0, groups_sized (facts_after_actions facts (typed_actions facts part)) rest h.1)

functions_sized : (facts : Facts) (fs : List Defined) → AllByRecursion DefinedSized fs → AllByRecursion DefinedSized (typed_functions facts fs)
functions_sized facts [] h = tt
functions_sized facts (f ∷ fs) h =
    ((h.0.0, action_sized (facts ++ formal_facts f.parameters) f.body h.0.1), functions_sized (facts_after_function facts (typed_function facts f)) fs h.1)

pub widths_kept : (p : Program) → HasWidths p → HasWidths (typed p)
widths_kept p h = record {
  decls = h.decls;
  functions = functions_sized (first_facts p) p.functions h.functions;
  body = action_sized (start_of p) p.body h.body;
}

mutual
  action_kept : (facts : Facts) (a : Action) → unbuilt_action (typed_action facts a) ≡ unbuilt_action a
  action_kept facts (action id place form) = action_form_kept facts place form

  action_form_kept : (facts : Facts) (place : Place) (f : ActionForm) → unbuilt_form place (typed_action_form facts f) ≡ unbuilt_form place f
  action_form_kept facts place (lets name declared value) = refl
  action_form_kept facts place (lets_memory name shape shape_places value) = refl
  action_form_kept facts place (views name parent form) = refl
  action_form_kept facts place (assigns target value) = refl
  action_form_kept facts place (stores target value) = refl
  action_form_kept facts place (reduces target o value) = refl
  action_form_kept facts place (calls function arguments) = refl
  action_form_kept facts place (blocks body) = groups_kept facts body
  action_form_kept facts place (decides test chosen other) =
      let inner : Facts = facts_after facts (typed_action facts chosen) in
      ap (λ l. l ++ unbuilt_other (typed_other inner other)) (action_kept facts chosen) ∙ ap (λ l. unbuilt_action chosen ++ l) (other_kept inner other)
  action_form_kept facts place (repeats test body) = action_kept facts body
  action_form_kept facts place (counts iterator declared low high factor body combine combine_place) =
      let inside : Facts = facts ++ of_iterator (iterator_kind declared) ∷ [] in
      let behind : Facts = facts_after inside (typed_action inside body) in
      ap (λ l. l ++ unbuilt_other (typed_other behind combine)) (action_kept inside body)
      ∙ ap (λ l. unbuilt_action body ++ l) (other_kept behind combine)

  other_kept : (facts : Facts) (m : MaybeAction) → unbuilt_other (typed_other facts m) ≡ unbuilt_other m
  other_kept facts no_action = refl
  other_kept facts (one_action a) = action_kept facts a

  groups_kept : (facts : Facts) (g : Groups) → unbuilt_groups (typed_groups facts g) ≡ unbuilt_groups g
  groups_kept facts no_groups = refl
  groups_kept facts (group_then part rest) =
      ap (λ l. l ++ unbuilt_groups (typed_groups (facts_after_actions facts (typed_actions facts part)) rest)) (part_kept false facts part)
      ∙ ap (λ l. unbuilt_part false part ++ l) (groups_kept (facts_after_actions facts (typed_actions facts part)) rest)

  part_kept : (stepped : Bool) (facts : Facts) (p : Actions) → unbuilt_part stepped (typed_actions facts p) ≡ unbuilt_part stepped p
  part_kept stepped facts no_actions = refl
  part_kept stepped facts (action_then (action id place form) rest) =
      let after : Facts = facts_after facts (typed_action facts (action id place form)) in
      ap (λ l. l ++ ((if stepped && form_holds (typed_action_form facts form) then unbuilt place else []) ++ unbuilt_part (stepped || form_holds (typed_action_form facts form)) (typed_actions after rest))) (action_form_kept facts place form)
      ∙ (ap (λ b. unbuilt_form place form ++ ((if stepped && b then unbuilt place else []) ++ unbuilt_part (stepped || b) (typed_actions after rest))) (form_steps_kept facts form)
      ∙ ap (λ l. unbuilt_form place form ++ ((if stepped && form_holds form then unbuilt place else []) ++ l)) (part_kept (stepped || form_holds form) after rest))

pub unbuilt_forms_kept : (p : Program) → unbuilt_forms (typed p) ≡ unbuilt_forms p
unbuilt_forms_kept p =
    ap (λ l. l ++ unbuilt_action (typed p).body) (functions_kept (first_facts p) p.functions)
    ∙ ap (λ l. unbuilt_functions p.functions ++ l) (action_kept (start_of p) p.body)
