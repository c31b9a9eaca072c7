-- The targets of stores are still accesses when names are resolved and when expressions get their kinds: both leave
-- the form of each expression as it is. By one walk over the commands for each.
use Rattle.std.proofs.Common.{List, [], ◌∷◌, ◌++◌, None}
use Rattle.dh_tree.specs.Kinds.{of_iterator, Facts, iterator_kind, facts_after, facts_after_actions, typed_term, typed_action, typed_action_form, typed_other, typed_actions, typed_groups}
use Rattle.dh_tree.specs.declared.trees.programs.Sort.TheVariants.{Iterator}
use Rattle.dh_tree.specs.PlainTrees.{Term, term, number, truth_value, named, accessed, in_bank, applied, converted, Action, action, ActionForm, lets, lets_memory, views, assigns, stores, reduces, calls, blocks, decides, repeats, counts, MaybeAction, no_action, one_action, Actions, no_actions, action_then, Groups, no_groups, group_then}
use Rattle.dh_tree.specs.Resolved.{resolved_term, resolved_action, resolved_form, resolved_other, resolved_actions, resolved_groups}
use Rattle.dh_tree.specs.Scopes.{ScopeEntry, Scope, declare, leave, past, at_end, actions_at_end}
use Rattle.dh_tree.specs.Targets.{IsAccess, HasTargets, FormHasTargets, OtherHasTargets, GroupsHaveTargets, PartHasTargets}

resolved_access : (bs : List ScopeEntry) (t : Term) → IsAccess t → IsAccess (resolved_term bs t)
resolved_access bs (term place k (accessed r ts)) h = tt
resolved_access bs (term place k (in_bank r bank at t)) h = tt
resolved_access bs (term place k (number negative x)) h = h
resolved_access bs (term place k (truth_value x)) h = h
resolved_access bs (term place k (named r)) h = h
resolved_access bs (term place k (applied o l r)) h = h
resolved_access bs (term place k (converted t to)) h = h

mutual
  pub resolved_targets : (a : Action) (s : Scope) → HasTargets a → HasTargets (resolved_action s a)
  resolved_targets (action id place f) s h = resolved_form_targets f s h

  resolved_form_targets : (f : ActionForm) (s : Scope) → FormHasTargets f → FormHasTargets (resolved_form s f)
  resolved_form_targets (stores target value) s h = resolved_access s.visible target h
  resolved_form_targets (lets name declared value) s h = tt
  resolved_form_targets (lets_memory name shape shape_places value) s h = tt
  resolved_form_targets (views name parent form) s h = tt
  resolved_form_targets (assigns target value) s h = tt
  resolved_form_targets (reduces target op value) s h = tt
  resolved_form_targets (calls function arguments) s h = tt
  resolved_form_targets (blocks body) s h = resolved_groups_targets body s h
  resolved_form_targets (decides test chosen other) s h = (resolved_targets chosen s h.0, resolved_other_targets other (leave s (at_end s chosen)) h.1)
  resolved_form_targets (repeats test body) s h = resolved_targets body s h
  resolved_form_targets (counts iterator declared low high factor body combine combine_place) s h =
      let inner : Scope = declare s iterator Iterator in
      (resolved_targets body inner h.0, resolved_other_targets combine (at_end inner body) h.1)

  resolved_other_targets : (m : MaybeAction) (s : Scope) → OtherHasTargets m → OtherHasTargets (resolved_other s m)
  resolved_other_targets no_action s h = tt
  resolved_other_targets (one_action a) s h = resolved_targets a s h

  resolved_groups_targets : (gs : Groups) (s : Scope) → GroupsHaveTargets gs → GroupsHaveTargets (resolved_groups s gs)
  resolved_groups_targets no_groups s h = tt
  resolved_groups_targets (group_then g rest) s h = (resolved_part_targets g s h.0, resolved_groups_targets rest (actions_at_end s g) h.1)

  resolved_part_targets : (part : Actions) (s : Scope) → PartHasTargets part → PartHasTargets (resolved_actions s part)
  resolved_part_targets no_actions s h = tt
  resolved_part_targets (action_then a rest) s h = (resolved_targets a s h.0, resolved_part_targets rest (past s a (at_end s a)) h.1)

typed_access : (facts : Facts) (t : Term) → IsAccess t → IsAccess (typed_term facts None t)
typed_access facts (term place k (accessed r ts)) h = tt
typed_access facts (term place k (in_bank r bank at t)) h = tt
typed_access facts (term place k (number negative x)) h = h
typed_access facts (term place k (truth_value x)) h = h
typed_access facts (term place k (named r)) h = h
typed_access facts (term place k (applied o l r)) h = h
typed_access facts (term place k (converted t to)) h = h

mutual
  pub typed_targets : (a : Action) (facts : Facts) → HasTargets a → HasTargets (typed_action facts a)
  typed_targets (action id place f) facts h = typed_form_targets f facts h

  typed_form_targets : (f : ActionForm) (facts : Facts) → FormHasTargets f → FormHasTargets (typed_action_form facts f)
  typed_form_targets (stores target value) facts h = typed_access facts target h
  typed_form_targets (lets name declared value) facts h = tt
  typed_form_targets (lets_memory name shape shape_places value) facts h = tt
  typed_form_targets (views name parent form) facts h = tt
  typed_form_targets (assigns target value) facts h = tt
  typed_form_targets (reduces target op value) facts h = tt
  typed_form_targets (calls function arguments) facts h = tt
  typed_form_targets (blocks body) facts h = typed_groups_targets body facts h
  typed_form_targets (decides test chosen other) facts h =
      (typed_targets chosen facts h.0, typed_other_targets other (facts_after facts (typed_action facts chosen)) h.1)
  typed_form_targets (repeats test body) facts h = typed_targets body facts h
  typed_form_targets (counts iterator declared low high factor body combine combine_place) facts h =
      let inner : Facts = facts ++ of_iterator (iterator_kind declared) ∷ [] in
      (typed_targets body inner h.0, typed_other_targets combine (facts_after inner (typed_action inner body)) h.1)

  typed_other_targets : (m : MaybeAction) (facts : Facts) → OtherHasTargets m → OtherHasTargets (typed_other facts m)
  typed_other_targets no_action facts h = tt
  typed_other_targets (one_action a) facts h = typed_targets a facts h

  typed_groups_targets : (gs : Groups) (facts : Facts) → GroupsHaveTargets gs → GroupsHaveTargets (typed_groups facts gs)
  typed_groups_targets no_groups facts h = tt
  typed_groups_targets (group_then g rest) facts h =
      (typed_part_targets g facts h.0, typed_groups_targets rest (facts_after_actions facts (typed_actions facts g)) h.1)

  typed_part_targets : (part : Actions) (facts : Facts) → PartHasTargets part → PartHasTargets (typed_actions facts part)
  typed_part_targets no_actions facts h = tt
  typed_part_targets (action_then a rest) facts h =
      (typed_targets a facts h.0, typed_part_targets rest (facts_after facts (typed_action facts a)) h.1)
