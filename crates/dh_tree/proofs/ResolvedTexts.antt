-- Resolving a program's names changes its entities alone: the kinds that it writes keep their widths, and
-- the forms that are not built for a check or a run are the same. By recursion over the
-- tree.
use Rattle.std.proofs.Common.{◌≡◌, ℕ, ◌+◌, ◌&&◌, ◌||◌, Bool, false, if◌then◌else◌, List, [], ◌∷◌, ◌++◌, length, map, Option, Some, None, refl, ap, ◌∙◌}
use Rattle.std.specs.Prelude.{option_map}
use Rattle.std.specs.List.{AllByRecursion}
use Rattle.dh_base.specs.declared.places.Place.{Place}
use Rattle.dh_value.specs.Words.{IsKind}
use Rattle.dh_tree.specs.declared.trees.programs.Sort.TheVariants.{Iterator}
use Rattle.dh_tree.specs.Forms.{unbuilt, form_holds, unbuilt_functions, unbuilt_action, unbuilt_form, unbuilt_other, unbuilt_groups, unbuilt_part, unbuilt_forms}
use Rattle.dh_tree.specs.PlainTrees.{Term, term, TermForm, number, truth_value, named, accessed, in_bank, applied, converted, Terms, no_terms, term_then, Suffixed, ViewPlan, shrinks, splits, suffixes, shifts, Action, action, ActionForm, lets, lets_memory, views, assigns, stores, reduces, calls, blocks, decides, repeats, counts, MaybeAction, no_action, one_action, Actions, no_actions, action_then, Groups, no_groups, group_then, Declared, Formal, Defined, Program}
use Rattle.dh_tree.specs.Resolved.{resolved_term, resolved_term_form, resolved_terms, resolved_offset, resolved_plan, resolved_action, resolved_form, resolved_other, resolved_actions, resolved_groups, resolved_decls, resolved_formals, resolved_functions, resolved}
use Rattle.dh_tree.specs.Scopes.{ScopeEntry, Scope, declare, leave, past, at_end, actions_at_end, formal_sort, body_start, after_function, first_scope, body_scope}
use Rattle.dh_tree.specs.Widths.{AreSized, AreSizedIn, AreAllSized, MaybeSized, PlanSized, ActionSized, FormSized, OtherSized, ActionsSized, GroupsSized, DefinedSized, HasWidths}
use Rattle.dh_tree.proofs.ResolvedForms.{form_steps_kept, functions_kept}

mutual
  term_sized : (bs : List ScopeEntry) (t : Term) → AreSized t → AreSized (resolved_term bs t)
  term_sized bs (term place kind form) h = form_sized bs form h

  form_sized : (bs : List ScopeEntry) (f : TermForm) → AreSizedIn f → AreSizedIn (resolved_term_form bs f)
  form_sized bs (number negative n) h = tt
  form_sized bs (truth_value value) h = tt
  form_sized bs (named r) h = tt
  form_sized bs (accessed r indices) h = terms_sized bs indices h
  form_sized bs (in_bank r bank bank_place row) h = term_sized bs row h
  form_sized bs (applied o left right) h = (term_sized bs left h.0, term_sized bs right h.1)
  form_sized bs (converted inner to) h = (h.0, term_sized bs inner h.1)

  terms_sized : (bs : List ScopeEntry) (ts : Terms) → AreAllSized ts → AreAllSized (resolved_terms bs ts)
  terms_sized bs no_terms h = tt
  terms_sized bs (term_then t rest) h = (term_sized bs t h.0, terms_sized bs rest h.1)

maybe_sized : (bs : List ScopeEntry) (t : Option Term) → MaybeSized t → MaybeSized (option_map (resolved_term bs) t)
maybe_sized bs None h = tt
maybe_sized bs (Some t) h = term_sized bs t h

listed_sized : (bs : List ScopeEntry) (ts : List Term) → AllByRecursion AreSized ts → AllByRecursion AreSized (map (resolved_term bs) ts)
listed_sized bs [] h = tt
listed_sized bs (t ∷ ts) h = (term_sized bs t h.0, listed_sized bs ts h.1)

offsets_sized : (bs : List ScopeEntry) (ss : List Suffixed) → AllByRecursion (λ (s : Suffixed). AreSized s.offset) ss → AllByRecursion (λ (s : Suffixed). AreSized s.offset) (map (resolved_offset bs) ss)
offsets_sized bs [] h = tt
offsets_sized bs (s ∷ ss) h = (term_sized bs s.offset h.0, offsets_sized bs ss h.1)

plan_sized : (bs : List ScopeEntry) (v : ViewPlan) → PlanSized v → PlanSized (resolved_plan bs v)
plan_sized bs (shrinks by_ by_place) h = tt
plan_sized bs (splits by_ by_place) h = tt
plan_sized bs (suffixes by_ by_place) h = offsets_sized bs by_ h
plan_sized bs (shifts by_) h = listed_sized bs by_ h

mutual
  action_sized : (s : Scope) (a : Action) → ActionSized a → ActionSized (resolved_action s a)
  action_sized s (action id place form) h = action_form_sized s form h

  action_form_sized : (s : Scope) (f : ActionForm) → FormSized f → FormSized (resolved_form s f)
  action_form_sized s (lets name declared value) h = (h.0, maybe_sized s.visible value h.1)
  action_form_sized s (lets_memory name shape shape_places value) h = (h.0, maybe_sized s.visible value h.1)
  action_form_sized s (views name parent form) h = plan_sized s.visible form h
  action_form_sized s (assigns target value) h = term_sized s.visible value h
  action_form_sized s (stores target value) h = (term_sized s.visible target h.0, term_sized s.visible value h.1)
  action_form_sized s (reduces target o value) h = term_sized s.visible value h
  action_form_sized s (calls function arguments) h = listed_sized s.visible arguments h
  action_form_sized s (blocks body) h = groups_sized s body h
  action_form_sized s (decides test chosen other) h =
      (term_sized s.visible test h.0, (action_sized s chosen h.1.0, other_sized (leave s (at_end s chosen)) other h.1.1))
  action_form_sized s (repeats test body) h = (term_sized s.visible test h.0, action_sized s body h.1)
  action_form_sized s (counts iterator declared low high factor body combine combine_place) h =
      (h.0, (action_sized (declare s iterator Iterator) body h.1.0, other_sized (at_end (declare s iterator Iterator) body) combine h.1.1))

  other_sized : (s : Scope) (m : MaybeAction) → OtherSized m → OtherSized (resolved_other s m)
  other_sized s no_action h = tt
  other_sized s (one_action a) h = action_sized s a h

  actions_sized : (s : Scope) (p : Actions) → ActionsSized p → ActionsSized (resolved_actions s p)
  actions_sized s no_actions h = tt
  actions_sized s (action_then a rest) h = (action_sized s a h.0, actions_sized (past s a (at_end s a)) rest h.1)

  groups_sized : (s : Scope) (g : Groups) → GroupsSized g → GroupsSized (resolved_groups s g)
  groups_sized s no_groups h = tt
  groups_sized s (group_then part rest) h = (actions_sized s part h.0, groups_sized (actions_at_end s part) rest h.1)

decls_sized : (n : ℕ) (ds : List Declared) → AllByRecursion (λ (d : Declared). IsKind d.shape.kind) ds → AllByRecursion (λ (d : Declared). IsKind d.shape.kind) (resolved_decls n ds)
decls_sized n [] h = tt
decls_sized n (d ∷ ds) h = (h.0, decls_sized (n + 1) ds h.1)

formals_sized : (s : Scope) (fs : List Formal) → AllByRecursion (λ (m : Formal). IsKind m.kind) fs → AllByRecursion (λ (m : Formal). IsKind m.kind) (resolved_formals s fs)
formals_sized s [] h = tt
formals_sized s (f ∷ fs) h = (h.0, formals_sized (declare s f.name (formal_sort f.shape)) fs h.1)

functions_sized : (n : ℕ) (s : Scope) (fs : List Defined) → AllByRecursion DefinedSized fs → AllByRecursion DefinedSized (resolved_functions n s fs)
functions_sized n s [] h = tt
functions_sized n s (f ∷ fs) h =
    ((formals_sized s f.parameters h.0.0, action_sized (body_start s f) f.body h.0.1), functions_sized (n + 1) (after_function n s f) fs h.1)

pub widths_kept : (p : Program) → HasWidths p → HasWidths (resolved p)
widths_kept p h = record {
  decls = decls_sized 0 p.decls h.decls;
  functions = functions_sized (length p.decls) (first_scope p) p.functions h.functions;
  body = action_sized (body_scope p) p.body h.body;
}

mutual
  action_kept : (s : Scope) (a : Action) → unbuilt_action (resolved_action s a) ≡ unbuilt_action a
  action_kept s (action id place form) = action_form_kept s place form

  action_form_kept : (s : Scope) (place : Place) (f : ActionForm) → unbuilt_form place (resolved_form s f) ≡ unbuilt_form place f
  action_form_kept s place (lets name declared value) = refl
  action_form_kept s place (lets_memory name shape shape_places value) = refl
  action_form_kept s place (views name parent form) = refl
  action_form_kept s place (assigns target value) = refl
  action_form_kept s place (stores target value) = refl
  action_form_kept s place (reduces target o value) = refl
  action_form_kept s place (calls function arguments) = refl
  action_form_kept s place (blocks body) = groups_kept s body
  action_form_kept s place (decides test chosen other) =
      let inner : Scope = leave s (at_end s chosen) in
      ap (λ l. l ++ unbuilt_other (resolved_other inner other)) (action_kept s chosen) ∙ ap (λ l. unbuilt_action chosen ++ l) (other_kept inner other)
  action_form_kept s place (repeats test body) = action_kept s body
  action_form_kept s place (counts iterator declared low high factor body combine combine_place) =
      let d : Scope = declare s iterator Iterator in
      ap (λ l. l ++ unbuilt_other (resolved_other (at_end d body) combine)) (action_kept d body)
      ∙ ap (λ l. unbuilt_action body ++ l) (other_kept (at_end d body) combine)

  other_kept : (s : Scope) (m : MaybeAction) → unbuilt_other (resolved_other s m) ≡ unbuilt_other m
  other_kept s no_action = refl
  other_kept s (one_action a) = action_kept s a

  groups_kept : (s : Scope) (g : Groups) → unbuilt_groups (resolved_groups s g) ≡ unbuilt_groups g
  groups_kept s no_groups = refl
  groups_kept s (group_then part rest) =
      ap (λ l. l ++ unbuilt_groups (resolved_groups (actions_at_end s part) rest)) (part_kept false s part)
      ∙ ap (λ l. unbuilt_part false part ++ l) (groups_kept (actions_at_end s part) rest)

  part_kept : (stepped : Bool) (s : Scope) (p : Actions) → unbuilt_part stepped (resolved_actions s p) ≡ unbuilt_part stepped p
  part_kept stepped s no_actions = refl
  part_kept stepped s (action_then (action id place form) rest) =
      let after : Scope = past s (action id place form) (at_end s (action id place form)) in
      ap (λ l. l ++ ((if stepped && form_holds (resolved_form s form) then unbuilt place else []) ++ unbuilt_part (stepped || form_holds (resolved_form s form)) (resolved_actions after rest))) (action_form_kept s place form)
      ∙ (ap (λ b. unbuilt_form place form ++ ((if stepped && b then unbuilt place else []) ++ unbuilt_part (stepped || b) (resolved_actions after rest))) (form_steps_kept s form)
      ∙ ap (λ l. unbuilt_form place form ++ ((if stepped && form_holds form then unbuilt place else []) ++ l)) (part_kept (stepped || form_holds form) after rest))

pub unbuilt_forms_kept : (p : Program) → unbuilt_forms (resolved p) ≡ unbuilt_forms p
unbuilt_forms_kept p =
    ap (λ l. l ++ unbuilt_action (resolved_action (body_scope p) p.body)) (functions_kept (length p.decls) (first_scope p) p.functions)
    ∙ ap (λ l. unbuilt_functions p.functions ++ l) (action_kept (body_scope p) p.body)
