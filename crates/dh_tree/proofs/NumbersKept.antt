-- Resolving names and filling in kinds leave the numbers of commands as they are. By recursion over the tree.
use Rattle.std.proofs.Common.{◌≡◌, ℕ, suc, ◌+◌, [], ◌∷◌, ◌++◌, refl, ap, sym, ◌∙◌, subst}
use Rattle.dh_tree.specs.declared.trees.programs.Sort.TheVariants.{Iterator}
use Rattle.dh_tree.specs.Kinds.{Facts, of_iterator, iterator_kind, facts_after, facts_after_actions, typed_action, typed_action_form, typed_other, typed_actions, typed_groups}
use Rattle.dh_tree.specs.Numbers.{commands_in, commands_inside, commands_in_other, commands_in_groups, commands_in_part, IsNumbered, IsNumberedInside, IsNumberedOther, AreNumberedGroups, AreNumbered}
use Rattle.dh_tree.specs.PlainTrees.{Action, action, ActionForm, lets, lets_memory, views, assigns, stores, reduces, calls, blocks, decides, repeats, counts, MaybeAction, no_action, one_action, Actions, no_actions, action_then, Groups, no_groups, group_then}
use Rattle.dh_tree.specs.Resolved.{resolved_action, resolved_form, resolved_other, resolved_actions, resolved_groups}
use Rattle.dh_tree.specs.Scopes.{Scope, declare, leave, past, at_end, actions_at_end}

two_same : (a b c d : ℕ) → a ≡ b → c ≡ d → a + c ≡ b + d
two_same a b c d e f = ap (λ x. x + c) e ∙ ap (λ y. b + y) f

mutual
  resolved_same_count : (s : Scope) (a : Action) → commands_in (resolved_action s a) ≡ commands_in a
  resolved_same_count s (action id place form) = ap suc (resolved_form_count s form)

  resolved_form_count : (s : Scope) (f : ActionForm) → commands_inside (resolved_form s f) ≡ commands_inside f
  resolved_form_count s (lets name declared value) = refl
  resolved_form_count s (lets_memory name shape shape_places value) = refl
  resolved_form_count s (views name parent form) = refl
  resolved_form_count s (assigns target value) = refl
  resolved_form_count s (stores target value) = refl
  resolved_form_count s (reduces target o value) = refl
  resolved_form_count s (calls function arguments) = refl
  resolved_form_count s (blocks body) = resolved_groups_count s body
  resolved_form_count s (decides test chosen other) = two_same _ _ _ _ (resolved_same_count s chosen) (resolved_other_count (leave s (at_end s chosen)) other)
  resolved_form_count s (repeats test body) = resolved_same_count s body
  resolved_form_count s (counts iterator declared low high factor body combine combine_place) = two_same _ _ _ _ (resolved_same_count (declare s iterator Iterator) body) (resolved_other_count (at_end (declare s iterator Iterator) body) combine)

  resolved_other_count : (s : Scope) (m : MaybeAction) → commands_in_other (resolved_other s m) ≡ commands_in_other m
  resolved_other_count s no_action = refl
  resolved_other_count s (one_action a) = resolved_same_count s a

  resolved_part_count : (s : Scope) (p : Actions) → commands_in_part (resolved_actions s p) ≡ commands_in_part p
  resolved_part_count s no_actions = refl
  resolved_part_count s (action_then a rest) = two_same _ _ _ _ (resolved_same_count s a) (resolved_part_count (past s a (at_end s a)) rest)

  resolved_groups_count : (s : Scope) (g : Groups) → commands_in_groups (resolved_groups s g) ≡ commands_in_groups g
  resolved_groups_count s no_groups = refl
  resolved_groups_count s (group_then g rest) = two_same _ _ _ _ (resolved_part_count s g) (resolved_groups_count (actions_at_end s g) rest)

mutual
  pub resolved_numbered : (s : Scope) (n : ℕ) (a : Action) → IsNumbered n a → IsNumbered n (resolved_action s a)
  resolved_numbered s n (action id place form) h = (h.0, resolved_form_numbered s (suc n) form h.1)

  resolved_form_numbered : (s : Scope) (n : ℕ) (f : ActionForm) → IsNumberedInside n f → IsNumberedInside n (resolved_form s f)
  resolved_form_numbered s n (lets name declared value) h = tt
  resolved_form_numbered s n (lets_memory name shape shape_places value) h = tt
  resolved_form_numbered s n (views name parent form) h = tt
  resolved_form_numbered s n (assigns target value) h = tt
  resolved_form_numbered s n (stores target value) h = tt
  resolved_form_numbered s n (reduces target o value) h = tt
  resolved_form_numbered s n (calls function arguments) h = tt
  resolved_form_numbered s n (blocks body) h = resolved_groups_numbered s n body h
  resolved_form_numbered s n (decides test chosen other) h =
      (resolved_numbered s n chosen h.0, subst (λ (k : ℕ). IsNumberedOther (n + k) (resolved_other (leave s (at_end s chosen)) other)) (sym (resolved_same_count s chosen)) (resolved_other_numbered (leave s (at_end s chosen)) (n + commands_in chosen) other h.1))
  resolved_form_numbered s n (repeats test body) h = resolved_numbered s n body h
  resolved_form_numbered s n (counts iterator declared low high factor body combine combine_place) h =
      (resolved_numbered (declare s iterator Iterator) n body h.0, subst (λ (k : ℕ). IsNumberedOther (n + k) (resolved_other (at_end (declare s iterator Iterator) body) combine)) (sym (resolved_same_count (declare s iterator Iterator) body)) (resolved_other_numbered (at_end (declare s iterator Iterator) body) (n + commands_in body) combine h.1))

  resolved_other_numbered : (s : Scope) (n : ℕ) (m : MaybeAction) → IsNumberedOther n m → IsNumberedOther n (resolved_other s m)
  resolved_other_numbered s n no_action h = tt
  resolved_other_numbered s n (one_action a) h = resolved_numbered s n a h

  resolved_part_numbered : (s : Scope) (n : ℕ) (p : Actions) → AreNumbered n p → AreNumbered n (resolved_actions s p)
  resolved_part_numbered s n no_actions h = tt
  resolved_part_numbered s n (action_then a rest) h =
      (resolved_numbered s n a h.0, subst (λ (k : ℕ). AreNumbered (n + k) (resolved_actions (past s a (at_end s a)) rest)) (sym (resolved_same_count s a)) (resolved_part_numbered (past s a (at_end s a)) (n + commands_in a) rest h.1))

  resolved_groups_numbered : (s : Scope) (n : ℕ) (g : Groups) → AreNumberedGroups n g → AreNumberedGroups n (resolved_groups s g)
  resolved_groups_numbered s n no_groups h = tt
  resolved_groups_numbered s n (group_then g rest) h =
      (resolved_part_numbered s n g h.0, subst (λ (k : ℕ). AreNumberedGroups (n + k) (resolved_groups (actions_at_end s g) rest)) (sym (resolved_part_count s g)) (resolved_groups_numbered (actions_at_end s g) (n + commands_in_part g) rest h.1))

mutual
  typed_same_count : (facts : Facts) (a : Action) → commands_in (typed_action facts a) ≡ commands_in a
  typed_same_count facts (action id place form) = ap suc (typed_form_count facts form)

  typed_form_count : (facts : Facts) (f : ActionForm) → commands_inside (typed_action_form facts f) ≡ commands_inside f
  typed_form_count facts (lets name declared value) = refl
  typed_form_count facts (lets_memory name shape shape_places value) = refl
  typed_form_count facts (views name parent form) = refl
  typed_form_count facts (assigns target value) = refl
  typed_form_count facts (stores target value) = refl
  typed_form_count facts (reduces target o value) = refl
  typed_form_count facts (calls function arguments) = refl
  typed_form_count facts (blocks body) = typed_groups_count facts body
  typed_form_count facts (decides test chosen other) = two_same _ _ _ _ (typed_same_count facts chosen) (typed_other_count (facts_after facts (typed_action facts chosen)) other)
  typed_form_count facts (repeats test body) = typed_same_count facts body
  typed_form_count facts (counts iterator declared low high factor body combine combine_place) = two_same _ _ _ _ (typed_same_count (facts ++ of_iterator (iterator_kind declared) ∷ []) body) (typed_other_count (facts_after (facts ++ of_iterator (iterator_kind declared) ∷ []) (typed_action (facts ++ of_iterator (iterator_kind declared) ∷ []) body)) combine)

  typed_other_count : (facts : Facts) (m : MaybeAction) → commands_in_other (typed_other facts m) ≡ commands_in_other m
  typed_other_count facts no_action = refl
  typed_other_count facts (one_action a) = typed_same_count facts a

  typed_part_count : (facts : Facts) (p : Actions) → commands_in_part (typed_actions facts p) ≡ commands_in_part p
  typed_part_count facts no_actions = refl
  typed_part_count facts (action_then a rest) = two_same _ _ _ _ (typed_same_count facts a) (typed_part_count (facts_after facts (typed_action facts a)) rest)

  typed_groups_count : (facts : Facts) (g : Groups) → commands_in_groups (typed_groups facts g) ≡ commands_in_groups g
  typed_groups_count facts no_groups = refl
  typed_groups_count facts (group_then g rest) = two_same _ _ _ _ (typed_part_count facts g) (typed_groups_count (facts_after_actions facts (typed_actions facts g)) rest)

mutual
  pub typed_numbered : (facts : Facts) (n : ℕ) (a : Action) → IsNumbered n a → IsNumbered n (typed_action facts a)
  typed_numbered facts n (action id place form) h = (h.0, typed_form_numbered facts (suc n) form h.1)

  typed_form_numbered : (facts : Facts) (n : ℕ) (f : ActionForm) → IsNumberedInside n f → IsNumberedInside n (typed_action_form facts f)
  typed_form_numbered facts n (lets name declared value) h = tt
  typed_form_numbered facts n (lets_memory name shape shape_places value) h = tt
  typed_form_numbered facts n (views name parent form) h = tt
  typed_form_numbered facts n (assigns target value) h = tt
  typed_form_numbered facts n (stores target value) h = tt
  typed_form_numbered facts n (reduces target o value) h = tt
  typed_form_numbered facts n (calls function arguments) h = tt
  typed_form_numbered facts n (blocks body) h = typed_groups_numbered facts n body h
  typed_form_numbered facts n (decides test chosen other) h =
      (typed_numbered facts n chosen h.0, subst (λ (k : ℕ). IsNumberedOther (n + k) (typed_other (facts_after facts (typed_action facts chosen)) other)) (sym (typed_same_count facts chosen)) (typed_other_numbered (facts_after facts (typed_action facts chosen)) (n + commands_in chosen) other h.1))
  typed_form_numbered facts n (repeats test body) h = typed_numbered facts n body h
  typed_form_numbered facts n (counts iterator declared low high factor body combine combine_place) h =
      (typed_numbered (facts ++ of_iterator (iterator_kind declared) ∷ []) n body h.0, subst (λ (k : ℕ). IsNumberedOther (n + k) (typed_other (facts_after (facts ++ of_iterator (iterator_kind declared) ∷ []) (typed_action (facts ++ of_iterator (iterator_kind declared) ∷ []) body)) combine)) (sym (typed_same_count (facts ++ of_iterator (iterator_kind declared) ∷ []) body)) (typed_other_numbered (facts_after (facts ++ of_iterator (iterator_kind declared) ∷ []) (typed_action (facts ++ of_iterator (iterator_kind declared) ∷ []) body)) (n + commands_in body) combine h.1))

  typed_other_numbered : (facts : Facts) (n : ℕ) (m : MaybeAction) → IsNumberedOther n m → IsNumberedOther n (typed_other facts m)
  typed_other_numbered facts n no_action h = tt
  typed_other_numbered facts n (one_action a) h = typed_numbered facts n a h

  typed_part_numbered : (facts : Facts) (n : ℕ) (p : Actions) → AreNumbered n p → AreNumbered n (typed_actions facts p)
  typed_part_numbered facts n no_actions h = tt
  typed_part_numbered facts n (action_then a rest) h =
      (typed_numbered facts n a h.0, subst (λ (k : ℕ). AreNumbered (n + k) (typed_actions (facts_after facts (typed_action facts a)) rest)) (sym (typed_same_count facts a)) (typed_part_numbered (facts_after facts (typed_action facts a)) (n + commands_in a) rest h.1))

  typed_groups_numbered : (facts : Facts) (n : ℕ) (g : Groups) → AreNumberedGroups n g → AreNumberedGroups n (typed_groups facts g)
  typed_groups_numbered facts n no_groups h = tt
  typed_groups_numbered facts n (group_then g rest) h =
      (typed_part_numbered facts n g h.0, subst (λ (k : ℕ). AreNumberedGroups (n + k) (typed_groups (facts_after_actions facts (typed_actions facts g)) rest)) (sym (typed_part_count facts g)) (typed_groups_numbered (facts_after_actions facts (typed_actions facts g)) (n + commands_in_part g) rest h.1))
