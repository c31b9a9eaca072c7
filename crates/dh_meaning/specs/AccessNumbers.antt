-- The accesses of a program are numbered in order of evaluation, from 0: the left operand first, an access
-- after those of its indices, a store's right side before its indices and the write last; commands in text
-- order, which is the order of their numbers. (The order of this profile.)
use Rattle.std.specs.Prelude.{ℕ, suc, ◌+◌, List, [], ◌∷◌, Option, Some, None}
use Rattle.dh_tree.specs.PlainTrees.{Term, term, TermForm, number, truth_value, named, accessed, in_bank, applied, converted, Terms, no_terms, term_then, ViewPlan, Action, action, ActionForm, lets, lets_memory, views, assigns, stores, reduces, calls, blocks, decides, repeats, counts, MaybeAction, no_action, one_action, Actions, no_actions, action_then, Groups, no_groups, group_then, Program}
use Rattle.dh_tree.specs.Seen.{terms}
use Rattle.dh_tree.specs.ViewOffsets.{offsets_of}

abbrev mutual
  -- how many accesses an expression makes
  pub term_accesses : Term → ℕ
  term_accesses (term place kind form) = form_accesses form

  pub form_accesses : TermForm → ℕ
  form_accesses (number negative n) = 0
  form_accesses (truth_value value) = 0
  form_accesses (named r) = 0
  form_accesses (accessed r indices) = suc (terms_accesses indices)
  form_accesses (in_bank r bank bank_place row) = suc (term_accesses row)
  form_accesses (applied op left right) = term_accesses left + term_accesses right
  form_accesses (converted inner to) = term_accesses inner

  pub terms_accesses : Terms → ℕ
  terms_accesses no_terms = 0
  terms_accesses (term_then t rest) = term_accesses t + terms_accesses rest

abbrev pub maybe_accesses : Option Term → ℕ
maybe_accesses None = 0
maybe_accesses (Some t) = term_accesses t

abbrev pub list_accesses : List Term → ℕ
list_accesses [] = 0
list_accesses (t ∷ ts) = term_accesses t + list_accesses ts

-- those of a view's offsets
abbrev pub plan_accesses : ViewPlan → ℕ
plan_accesses form = terms_accesses (terms (offsets_of form))

-- those that a command makes itself, not those of commands inside it
abbrev pub own_accesses : ActionForm → ℕ
own_accesses (lets name declared value) = maybe_accesses value
own_accesses (lets_memory name shape shape_places value) = 0
own_accesses (views name parent form) = plan_accesses form
own_accesses (assigns target value) = term_accesses value
own_accesses (stores target value) = term_accesses value + term_accesses target
own_accesses (reduces target op value) = term_accesses value
own_accesses (calls function arguments) = 0
own_accesses (blocks body) = 0
own_accesses (decides test chosen other) = term_accesses test
own_accesses (repeats test body) = term_accesses test
own_accesses (counts iterator declared low high factor body combine combine_place) = 0

abbrev mutual
  -- the accesses of a command and of those inside it
  pub accesses_of : Action → ℕ
  accesses_of (action id place form) = own_accesses form + inner_accesses form

  pub inner_accesses : ActionForm → ℕ
  inner_accesses (lets name declared value) = 0
  inner_accesses (lets_memory name shape shape_places value) = 0
  inner_accesses (views name parent form) = 0
  inner_accesses (assigns target value) = 0
  inner_accesses (stores target value) = 0
  inner_accesses (reduces target op value) = 0
  inner_accesses (calls function arguments) = 0
  inner_accesses (blocks body) = groups_accesses body
  inner_accesses (decides test chosen other) = accesses_of chosen + other_accesses other
  inner_accesses (repeats test body) = accesses_of body
  inner_accesses (counts iterator declared low high factor body combine combine_place) = accesses_of body + other_accesses combine

  pub other_accesses : MaybeAction → ℕ
  other_accesses no_action = 0
  other_accesses (one_action a) = accesses_of a

  pub groups_accesses : Groups → ℕ
  groups_accesses no_groups = 0
  groups_accesses (group_then part rest) = part_accesses part + groups_accesses rest

  pub part_accesses : Actions → ℕ
  part_accesses no_actions = 0
  part_accesses (action_then a rest) = accesses_of a + part_accesses rest
