-- The entities of a program without functions are as many as the names that it declares: its memories from outside are
-- numbered first, and from there on each declaration in the text takes the next number. By recursion over commands.
use Rattle.std.proofs.Common.{◌≡◌, ℕ, ◌+◌, [], ◌∷◌, length, refl, ◌∙◌, arith, length-append}
use Rattle.dh_tree.specs.declared.trees.expressions.Ref.{Ref}
use Rattle.dh_tree.specs.declared.trees.programs.Sort.{Sort}
use Rattle.dh_tree.specs.declared.trees.programs.Sort.TheVariants.{Iterator, Memory, Variable, View}
use Rattle.dh_tree.specs.NameCounts.{declared_in, declared_in_actions, declared_in_form, declared_in_groups, declared_in_other}
use Rattle.dh_tree.specs.PlainTrees.{Action, action, ActionForm, lets, lets_memory, views, assigns, stores, reduces, calls, blocks, decides, repeats, counts, MaybeAction, no_action, one_action, Actions, no_actions, action_then, Groups, no_groups, group_then}
use Rattle.dh_tree.specs.Scopes.{Scope, actions_at_end, at_end, declare, entity, form_at_end, groups_at_end, leave, other_at_end, past}

-- how many entities are numbered at a point of the text
abbrev numbered : Scope → ℕ
numbered s = length s.entities

declared_one : (s : Scope) (r : Ref) (sort : Sort) → numbered (declare s r sort) ≡ numbered s + 1
declared_one s r sort = length-append s.entities (entity r sort ∷ [])

-- a block's end leaves the numbers as they are
past_same : (s : Scope) (a : Action) (inside : Scope) → numbered (past s a inside) ≡ numbered inside
past_same s (action id place (lets name declared value)) inside = refl
past_same s (action id place (lets_memory name shape shape_places value)) inside = refl
past_same s (action id place (views name parent form)) inside = refl
past_same s (action id place (assigns target value)) inside = refl
past_same s (action id place (stores target value)) inside = refl
past_same s (action id place (reduces target o value)) inside = refl
past_same s (action id place (calls function arguments)) inside = refl
past_same s (action id place (blocks body)) inside = refl
past_same s (action id place (decides test chosen other)) inside = refl
past_same s (action id place (repeats test body)) inside = refl
past_same s (action id place (counts iterator declared low high factor body combine combine_place)) inside = refl

none_more : (n : ℕ) → n ≡ n + 0
none_more n = omega arith

both_more : (m n k a b : ℕ) → n ≡ m + a → k ≡ n + b → k ≡ m + (a + b)
both_more m n k a b h i = omega (arith, h, i)

mutual
  pub action_counted : (s : Scope) (a : Action) → numbered (at_end s a) ≡ numbered s + declared_in a
  action_counted s (action id place form) = form_counted s form

  form_counted : (s : Scope) (f : ActionForm) → numbered (form_at_end s f) ≡ numbered s + declared_in_form f
  form_counted s (lets name declared value) = declared_one s name Variable
  form_counted s (lets_memory name shape shape_places value) = declared_one s name Memory
  form_counted s (views name parent form) = declared_one s name View
  form_counted s (assigns target value) = none_more (numbered s)
  form_counted s (stores target value) = none_more (numbered s)
  form_counted s (reduces target o value) = none_more (numbered s)
  form_counted s (calls function arguments) = none_more (numbered s)
  form_counted s (blocks body) = groups_counted s body
  form_counted s (decides test chosen other) =
      both_more (numbered s) (numbered (leave s (at_end s chosen))) (numbered (other_at_end (leave s (at_end s chosen)) other)) (declared_in chosen) (declared_in_other other)
      (action_counted s chosen) (other_counted (leave s (at_end s chosen)) other)
  form_counted s (repeats test body) = action_counted s body
  form_counted s (counts iterator declared low high factor body combine combine_place) =
      let inner = declare s iterator Iterator in
      let inside = at_end inner body in
      both_more (numbered s) (numbered inner) (numbered (other_at_end inside combine)) 1 (declared_in body + declared_in_other combine) (declared_one s iterator Iterator)
      (both_more (numbered inner) (numbered inside) (numbered (other_at_end inside combine)) (declared_in body) (declared_in_other combine) (action_counted inner body) (other_counted inside combine))

  other_counted : (s : Scope) (m : MaybeAction) → numbered (other_at_end s m) ≡ numbered s + declared_in_other m
  other_counted s no_action = none_more (numbered s)
  other_counted s (one_action a) = action_counted s a

  groups_counted : (s : Scope) (gs : Groups) → numbered (groups_at_end s gs) ≡ numbered s + declared_in_groups gs
  groups_counted s no_groups = none_more (numbered s)
  groups_counted s (group_then part rest) =
      both_more (numbered s) (numbered (actions_at_end s part)) (numbered (groups_at_end (actions_at_end s part) rest)) (declared_in_actions part) (declared_in_groups rest)
      (part_counted s part) (groups_counted (actions_at_end s part) rest)

  part_counted : (s : Scope) (part : Actions) → numbered (actions_at_end s part) ≡ numbered s + declared_in_actions part
  part_counted s no_actions = none_more (numbered s)
  part_counted s (action_then a rest) =
      let behind = past s a (at_end s a) in
      both_more (numbered s) (numbered behind) (numbered (actions_at_end behind rest)) (declared_in a) (declared_in_actions rest)
      (past_same s a (at_end s a) ∙ action_counted s a) (part_counted behind rest)
