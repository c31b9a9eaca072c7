-- What is known of entities is only added to, one fact for each entity that is numbered: so a fact that is known at
-- a point of the text is known behind it, and at the end.
use Rattle.std.proofs.Common.{◌≡◌, ℕ, zero, suc, ◌+◌, List, [], ◌∷◌, ◌++◌, length, Some, refl, sym, ap, ◌∙◌, length-append}
use Rattle.std.specs.Prelude.{slice_get}
use Rattle.dh_tree.specs.declared.trees.expressions.Ref.{Ref}
use Rattle.dh_tree.specs.declared.trees.programs.Sort.{Sort}
use Rattle.dh_tree.specs.declared.trees.programs.Sort.TheVariants as sort
use Rattle.dh_tree.specs.Kinds.{Fact, of_iterator, of_memory, Facts, fact_of, iterator_kind, variable_fact, view_fact, facts_after, facts_after_form, facts_after_other, facts_after_actions, facts_after_groups}
use Rattle.dh_tree.specs.PlainTrees.{Action, action, ActionForm, lets, lets_memory, views, assigns, stores, reduces, calls, blocks, decides, repeats, counts, MaybeAction, no_action, one_action, Actions, no_actions, action_then, Groups, no_groups, group_then}
use Rattle.dh_tree.specs.Scopes.{Scope, entity, declare, leave, past, at_end, form_at_end, other_at_end, actions_at_end, groups_at_end}

-- Each fact of the second list stands in the first.
abbrev pub Extends : (longer facts : Facts) → Type 0
Extends longer facts = (n : ℕ) (f : Fact) → slice_get facts n ≡ Some f → slice_get longer n ≡ Some f

pub appended : {A : Type 0} (xs ys : List A) (n : ℕ) (x : A) → slice_get xs n ≡ Some x → slice_get (xs ++ ys) n ≡ Some x
appended [] ys n x e = absurd cc
appended (z ∷ xs) ys zero x e = e
appended (z ∷ xs) ys (suc n) x e = appended xs ys n x e

-- the one that was added
pub added_last : {A : Type 0} (xs : List A) (x : A) → slice_get (xs ++ x ∷ []) (length xs) ≡ Some x
added_last [] x = refl
added_last (z ∷ xs) x = added_last xs x

mutual
  pub grows : (facts : Facts) (a : Action) → Extends (facts_after facts a) facts
  grows facts (action id place form) = form_grows facts form

  pub form_grows : (facts : Facts) (f : ActionForm) → Extends (facts_after_form facts f) facts
  form_grows facts (lets name declared value) = appended facts (variable_fact declared value ∷ [])
  form_grows facts (lets_memory name shape shape_places value) = appended facts (of_memory (Some shape.kind) (length shape.dims) ∷ [])
  form_grows facts (views name parent form) = appended facts (view_fact (fact_of facts parent) form ∷ [])
  form_grows facts (assigns target value) = λ n f e. e
  form_grows facts (stores target value) = λ n f e. e
  form_grows facts (reduces target o value) = λ n f e. e
  form_grows facts (calls function arguments) = λ n f e. e
  form_grows facts (blocks body) = groups_grow facts body
  form_grows facts (decides test chosen other) = λ n f e. other_grows (facts_after facts chosen) other n f (grows facts chosen n f e)
  form_grows facts (repeats test body) = grows facts body
  form_grows facts (counts iterator declared low high factor body combine combine_place) = λ n f e.
      other_grows (facts_after (facts ++ of_iterator (iterator_kind declared) ∷ []) body) combine n f
      (grows (facts ++ of_iterator (iterator_kind declared) ∷ []) body n f (appended facts (of_iterator (iterator_kind declared) ∷ []) n f e))

  pub other_grows : (facts : Facts) (m : MaybeAction) → Extends (facts_after_other facts m) facts
  other_grows facts no_action = λ n f e. e
  other_grows facts (one_action a) = grows facts a

  pub part_grows : (facts : Facts) (p : Actions) → Extends (facts_after_actions facts p) facts
  part_grows facts no_actions = λ n f e. e
  part_grows facts (action_then a rest) = λ n f e. part_grows (facts_after facts a) rest n f (grows facts a n f e)

  pub groups_grow : (facts : Facts) (g : Groups) → Extends (facts_after_groups facts g) facts
  groups_grow facts no_groups = λ n f e. e
  groups_grow facts (group_then part rest) = λ n f e. groups_grow (facts_after_actions facts part) rest n f (part_grows facts part n f e)

-- Numbers.

-- entities and facts are numbered in step
abbrev pub InStep : Scope → Facts → Type 0
InStep s facts = length s.entities ≡ length facts

pub next_in_step : (s : Scope) (facts : Facts) (r : Ref) (k : Sort) (f : Fact) → InStep s facts → InStep (declare s r k) (facts ++ f ∷ [])
next_in_step s facts r k f e = length-append s.entities (entity r k ∷ []) ∙ (ap (λ n. n + 1) e ∙ sym (length-append facts (f ∷ [])))

pub past_in_step : (s inside : Scope) (facts : Facts) (a : Action) → InStep inside facts → InStep (past s a inside) facts
past_in_step s inside facts (action id place (blocks body)) e = e
past_in_step s inside facts (action id place (lets name declared value)) e = e
past_in_step s inside facts (action id place (lets_memory name shape shape_places value)) e = e
past_in_step s inside facts (action id place (views name parent form)) e = e
past_in_step s inside facts (action id place (assigns target value)) e = e
past_in_step s inside facts (action id place (stores target value)) e = e
past_in_step s inside facts (action id place (reduces target o value)) e = e
past_in_step s inside facts (action id place (calls function arguments)) e = e
past_in_step s inside facts (action id place (decides test chosen other)) e = e
past_in_step s inside facts (action id place (repeats test body)) e = e
past_in_step s inside facts (action id place (counts iterator declared low high factor body combine combine_place)) e = e

mutual
  pub in_step : (s : Scope) (facts : Facts) (a : Action) → InStep s facts → InStep (at_end s a) (facts_after facts a)
  in_step s facts (action id place form) e = form_in_step s facts form e

  pub form_in_step : (s : Scope) (facts : Facts) (f : ActionForm) → InStep s facts → InStep (form_at_end s f) (facts_after_form facts f)
  form_in_step s facts (lets name declared value) e = next_in_step s facts name sort.Variable (variable_fact declared value) e
  form_in_step s facts (lets_memory name shape shape_places value) e = next_in_step s facts name sort.Memory (of_memory (Some shape.kind) (length shape.dims)) e
  form_in_step s facts (views name parent form) e = next_in_step s facts name sort.View (view_fact (fact_of facts parent) form) e
  form_in_step s facts (assigns target value) e = e
  form_in_step s facts (stores target value) e = e
  form_in_step s facts (reduces target o value) e = e
  form_in_step s facts (calls function arguments) e = e
  form_in_step s facts (blocks body) e = groups_in_step s facts body e
  form_in_step s facts (decides test chosen other) e = other_in_step (leave s (at_end s chosen)) (facts_after facts chosen) other (in_step s facts chosen e)
  form_in_step s facts (repeats test body) e = in_step s facts body e
  form_in_step s facts (counts iterator declared low high factor body combine combine_place) e =
      other_in_step (at_end (declare s iterator sort.Iterator) body) (facts_after (facts ++ of_iterator (iterator_kind declared) ∷ []) body) combine
      (in_step (declare s iterator sort.Iterator) (facts ++ of_iterator (iterator_kind declared) ∷ []) body (next_in_step s facts iterator sort.Iterator (of_iterator (iterator_kind declared)) e))

  pub other_in_step : (s : Scope) (facts : Facts) (m : MaybeAction) → InStep s facts → InStep (other_at_end s m) (facts_after_other facts m)
  other_in_step s facts no_action e = e
  other_in_step s facts (one_action a) e = in_step s facts a e

  pub part_in_step : (s : Scope) (facts : Facts) (p : Actions) → InStep s facts → InStep (actions_at_end s p) (facts_after_actions facts p)
  part_in_step s facts no_actions e = e
  part_in_step s facts (action_then a rest) e = part_in_step (past s a (at_end s a)) (facts_after facts a) rest (past_in_step s (at_end s a) (facts_after facts a) a (in_step s facts a e))

  pub groups_in_step : (s : Scope) (facts : Facts) (g : Groups) → InStep s facts → InStep (groups_at_end s g) (facts_after_groups facts g)
  groups_in_step s facts no_groups e = e
  groups_in_step s facts (group_then part rest) e = groups_in_step (actions_at_end s part) (facts_after_actions facts part) rest (part_in_step s facts part e)
