-- Resolving names and filling in kinds leave the names of local memories as they are. By recursion over the
-- tree.
use Rattle.std.proofs.Common.{List, [], ◌∷◌, ◌++◌}
use Rattle.std.specs.List.{AllByRecursion}
use Rattle.dh_tree.specs.declared.trees.programs.Sort.TheVariants.{Iterator}
use Rattle.dh_tree.specs.Kinds.{Facts, of_iterator, iterator_kind, facts_after, facts_after_actions, typed_action, typed_action_form, typed_other, typed_actions, typed_groups}
use Rattle.dh_tree.specs.Memories.{Memory, locals, form_locals, other_locals, groups_locals, part_locals}
use Rattle.dh_tree.specs.Names.{IsName}
use Rattle.dh_tree.specs.PlainTrees.{Action, action, ActionForm, lets, lets_memory, views, assigns, stores, reduces, calls, blocks, decides, repeats, counts, MaybeAction, no_action, one_action, Actions, no_actions, action_then, Groups, no_groups, group_then}
use Rattle.dh_tree.specs.Resolved.{resolved_action, resolved_form, resolved_other, resolved_actions, resolved_groups}
use Rattle.dh_tree.specs.Scopes.{Scope, declare, leave, past, at_end, actions_at_end}

-- the memories have names
abbrev AreNamed : List Memory → Type 0
AreNamed ms = AllByRecursion (λ m. IsName m.name.name) ms

first_named : (xs ys : List Memory) → AreNamed (xs ++ ys) → AreNamed xs
first_named [] ys h = tt
first_named (x ∷ xs) ys h = (h.0, first_named xs ys h.1)

second_named : (xs ys : List Memory) → AreNamed (xs ++ ys) → AreNamed ys
second_named [] ys h = h
second_named (x ∷ xs) ys h = second_named xs ys h.1

both_named : (xs ys : List Memory) → AreNamed xs → AreNamed ys → AreNamed (xs ++ ys)
both_named [] ys h i = i
both_named (x ∷ xs) ys h i = (h.0, both_named xs ys h.1 i)

-- where the parts keep their names, the whole does
whole_named : (xs ys xs' ys' : List Memory) → (AreNamed xs → AreNamed xs') → (AreNamed ys → AreNamed ys') → AreNamed (xs ++ ys) → AreNamed (xs' ++ ys')
whole_named xs ys xs' ys' f g h = both_named xs' ys' (f (first_named xs ys h)) (g (second_named xs ys h))

mutual
  pub resolved_named : (s : Scope) (a : Action) → AreNamed (locals a) → AreNamed (locals (resolved_action s a))
  resolved_named s (action id place form) h = form_named s form h

  form_named : (s : Scope) (f : ActionForm) → AreNamed (form_locals f) → AreNamed (form_locals (resolved_form s f))
  form_named s (lets name declared value) h = tt
  form_named s (lets_memory name shape shape_places value) h = h
  form_named s (views name parent form) h = tt
  form_named s (assigns target value) h = tt
  form_named s (stores target value) h = tt
  form_named s (reduces target o value) h = tt
  form_named s (calls function arguments) h = tt
  form_named s (blocks body) h = groups_named s body h
  form_named s (decides test chosen other) h =
      let inner : Scope = leave s (at_end s chosen) in
      whole_named (locals chosen) (other_locals other) (locals (resolved_action s chosen)) (other_locals (resolved_other inner other)) (resolved_named s chosen) (other_named inner other) h
  form_named s (repeats test body) h = resolved_named s body h
  form_named s (counts iterator declared low high factor body combine combine_place) h =
      let d : Scope = declare s iterator Iterator in
      whole_named (locals body) (other_locals combine) (locals (resolved_action d body)) (other_locals (resolved_other (at_end d body) combine)) (resolved_named d body) (other_named (at_end d body) combine) h

  other_named : (s : Scope) (m : MaybeAction) → AreNamed (other_locals m) → AreNamed (other_locals (resolved_other s m))
  other_named s no_action h = tt
  other_named s (one_action a) h = resolved_named s a h

  part_named : (s : Scope) (p : Actions) → AreNamed (part_locals p) → AreNamed (part_locals (resolved_actions s p))
  part_named s no_actions h = tt
  part_named s (action_then a rest) h =
      let after : Scope = past s a (at_end s a) in
      whole_named (locals a) (part_locals rest) (locals (resolved_action s a)) (part_locals (resolved_actions after rest)) (resolved_named s a) (part_named after rest) h

  groups_named : (s : Scope) (g : Groups) → AreNamed (groups_locals g) → AreNamed (groups_locals (resolved_groups s g))
  groups_named s no_groups h = tt
  groups_named s (group_then g rest) h =
      let after : Scope = actions_at_end s g in
      whole_named (part_locals g) (groups_locals rest) (part_locals (resolved_actions s g)) (groups_locals (resolved_groups after rest)) (part_named s g) (groups_named after rest) h

mutual
  pub typed_named : (facts : Facts) (a : Action) → AreNamed (locals a) → AreNamed (locals (typed_action facts a))
  typed_named facts (action id place form) h = typed_form_named facts form h

  typed_form_named : (facts : Facts) (f : ActionForm) → AreNamed (form_locals f) → AreNamed (form_locals (typed_action_form facts f))
  typed_form_named facts (lets name declared value) h = tt
  typed_form_named facts (lets_memory name shape shape_places value) h = h
  typed_form_named facts (views name parent form) h = tt
  typed_form_named facts (assigns target value) h = tt
  typed_form_named facts (stores target value) h = tt
  typed_form_named facts (reduces target o value) h = tt
  typed_form_named facts (calls function arguments) h = tt
  typed_form_named facts (blocks body) h = typed_groups_named facts body h
  typed_form_named facts (decides test chosen other) h =
      let inner : Facts = facts_after facts (typed_action facts chosen) in
      whole_named (locals chosen) (other_locals other) (locals (typed_action facts chosen)) (other_locals (typed_other inner other)) (typed_named facts chosen) (typed_other_named inner other) h
  typed_form_named facts (repeats test body) h = typed_named facts body h
  typed_form_named facts (counts iterator declared low high factor body combine combine_place) h =
      let inside : Facts = facts ++ of_iterator (iterator_kind declared) ∷ [] in
      let behind : Facts = facts_after inside (typed_action inside body) in
      whole_named (locals body) (other_locals combine) (locals (typed_action inside body)) (other_locals (typed_other behind combine)) (typed_named inside body) (typed_other_named behind combine) h

  typed_other_named : (facts : Facts) (m : MaybeAction) → AreNamed (other_locals m) → AreNamed (other_locals (typed_other facts m))
  typed_other_named facts no_action h = tt
  typed_other_named facts (one_action a) h = typed_named facts a h

  typed_part_named : (facts : Facts) (p : Actions) → AreNamed (part_locals p) → AreNamed (part_locals (typed_actions facts p))
  typed_part_named facts no_actions h = tt
  typed_part_named facts (action_then a rest) h =
      let after : Facts = facts_after facts (typed_action facts a) in
      whole_named (locals a) (part_locals rest) (locals (typed_action facts a)) (part_locals (typed_actions after rest)) (typed_named facts a) (typed_part_named after rest) h

  typed_groups_named : (facts : Facts) (g : Groups) → AreNamed (groups_locals g) → AreNamed (groups_locals (typed_groups facts g))
  typed_groups_named facts no_groups h = tt
  typed_groups_named facts (group_then g rest) h =
      let after : Facts = facts_after_actions facts (typed_actions facts g) in
      whole_named (part_locals g) (groups_locals rest) (part_locals (typed_actions facts g)) (groups_locals (typed_groups after rest)) (typed_part_named facts g) (typed_groups_named after rest) h
