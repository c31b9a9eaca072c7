-- Loops still end at numbers of 64 bits, and reducers are those of texts, when names are resolved and when expressions get their
-- kinds: both leave bounds and operators as they are. By one walk over the commands for each.
use Rattle.std.proofs.Common.{[], ◌∷◌, ◌++◌}
use Rattle.dh_tree.specs.Kinds.{of_iterator, Facts, iterator_kind, facts_after, facts_after_actions, typed_action, typed_action_form, typed_other, typed_actions, typed_groups}
use Rattle.dh_tree.specs.declared.trees.programs.Sort.TheVariants.{Iterator}
use Rattle.dh_tree.specs.PlainTrees.{Action, action, ActionForm, lets, lets_memory, views, assigns, stores, reduces, calls, blocks, decides, repeats, counts, MaybeAction, no_action, one_action, Actions, no_actions, action_then, Groups, no_groups, group_then}
use Rattle.dh_tree.specs.Resolved.{resolved_action, resolved_form, resolved_other, resolved_actions, resolved_groups}
use Rattle.dh_tree.specs.Scopes.{Scope, declare, leave, past, at_end, actions_at_end}
use Rattle.dh_tree.specs.TextNumbers.{HasTextNumbers, FormHasTextNumbers, OtherHasTextNumbers, GroupsHaveTextNumbers, PartHasTextNumbers}

mutual
  pub resolved_numbers : (a : Action) (s : Scope) → HasTextNumbers a → HasTextNumbers (resolved_action s a)
  resolved_numbers (action id place f) s h = resolved_form_numbers f s h

  resolved_form_numbers : (f : ActionForm) (s : Scope) → FormHasTextNumbers f → FormHasTextNumbers (resolved_form s f)
  resolved_form_numbers (lets name declared value) s h = tt
  resolved_form_numbers (lets_memory name shape shape_places value) s h = tt
  resolved_form_numbers (views name parent form) s h = tt
  resolved_form_numbers (assigns target value) s h = tt
  resolved_form_numbers (stores target value) s h = tt
  resolved_form_numbers (reduces target o value) s h = h
  resolved_form_numbers (calls function arguments) s h = tt
  resolved_form_numbers (blocks body) s h = resolved_groups_numbers body s h
  resolved_form_numbers (decides test chosen other) s h = (resolved_numbers chosen s h.0, resolved_other_numbers other (leave s (at_end s chosen)) h.1)
  resolved_form_numbers (repeats test body) s h = resolved_numbers body s h
  resolved_form_numbers (counts iterator declared low high factor body combine combine_place) s h =
      let inner : Scope = declare s iterator Iterator in
      (h.0, (resolved_numbers body inner h.1.0, resolved_other_numbers combine (at_end inner body) h.1.1))

  resolved_other_numbers : (m : MaybeAction) (s : Scope) → OtherHasTextNumbers m → OtherHasTextNumbers (resolved_other s m)
  resolved_other_numbers no_action s h = tt
  resolved_other_numbers (one_action a) s h = resolved_numbers a s h

  resolved_groups_numbers : (gs : Groups) (s : Scope) → GroupsHaveTextNumbers gs → GroupsHaveTextNumbers (resolved_groups s gs)
  resolved_groups_numbers no_groups s h = tt
  resolved_groups_numbers (group_then g rest) s h = (resolved_part_numbers g s h.0, resolved_groups_numbers rest (actions_at_end s g) h.1)

  resolved_part_numbers : (part : Actions) (s : Scope) → PartHasTextNumbers part → PartHasTextNumbers (resolved_actions s part)
  resolved_part_numbers no_actions s h = tt
  resolved_part_numbers (action_then a rest) s h = (resolved_numbers a s h.0, resolved_part_numbers rest (past s a (at_end s a)) h.1)

mutual
  pub typed_numbers : (a : Action) (facts : Facts) → HasTextNumbers a → HasTextNumbers (typed_action facts a)
  typed_numbers (action id place f) facts h = typed_form_numbers f facts h

  typed_form_numbers : (f : ActionForm) (facts : Facts) → FormHasTextNumbers f → FormHasTextNumbers (typed_action_form facts f)
  typed_form_numbers (lets name declared value) facts h = tt
  typed_form_numbers (lets_memory name shape shape_places value) facts h = tt
  typed_form_numbers (views name parent form) facts h = tt
  typed_form_numbers (assigns target value) facts h = tt
  typed_form_numbers (stores target value) facts h = tt
  typed_form_numbers (reduces target o value) facts h = h
  typed_form_numbers (calls function arguments) facts h = tt
  typed_form_numbers (blocks body) facts h = typed_groups_numbers body facts h
  typed_form_numbers (decides test chosen other) facts h =
      (typed_numbers chosen facts h.0, typed_other_numbers other (facts_after facts (typed_action facts chosen)) h.1)
  typed_form_numbers (repeats test body) facts h = typed_numbers body facts h
  typed_form_numbers (counts iterator declared low high factor body combine combine_place) facts h =
      let inner : Facts = facts ++ of_iterator (iterator_kind declared) ∷ [] in
      (h.0, (typed_numbers body inner h.1.0, typed_other_numbers combine (facts_after inner (typed_action inner body)) h.1.1))

  typed_other_numbers : (m : MaybeAction) (facts : Facts) → OtherHasTextNumbers m → OtherHasTextNumbers (typed_other facts m)
  typed_other_numbers no_action facts h = tt
  typed_other_numbers (one_action a) facts h = typed_numbers a facts h

  typed_groups_numbers : (gs : Groups) (facts : Facts) → GroupsHaveTextNumbers gs → GroupsHaveTextNumbers (typed_groups facts gs)
  typed_groups_numbers no_groups facts h = tt
  typed_groups_numbers (group_then g rest) facts h =
      (typed_part_numbers g facts h.0, typed_groups_numbers rest (facts_after_actions facts (typed_actions facts g)) h.1)

  typed_part_numbers : (part : Actions) (facts : Facts) → PartHasTextNumbers part → PartHasTextNumbers (typed_actions facts part)
  typed_part_numbers no_actions facts h = tt
  typed_part_numbers (action_then a rest) facts h =
      (typed_numbers a facts h.0, typed_part_numbers rest (facts_after facts (typed_action facts a)) h.1)
