-- How many names a program declares.
use Rattle.std.specs.Prelude.{ℕ, ◌+◌, ◌<◌, ◌^◌, List, [], ◌∷◌, length}
use Rattle.dh_tree.specs.declared.trees.programs.Function.{Function}
use Rattle.dh_tree.specs.Seen.{action_seen}
use Rattle.dh_tree.specs.PlainTrees.{Action, action, ActionForm, lets, lets_memory, views, assigns, stores, reduces, calls, blocks, decides, repeats, counts, MaybeAction, no_action, one_action, Actions, no_actions, action_then, Groups, no_groups, group_then, Defined, Program}

abbrev mutual
  pub declared_in : Action → ℕ
  declared_in (action id place form) = declared_in_form form

  pub declared_in_form : ActionForm → ℕ
  declared_in_form (lets name declared value) = 1
  declared_in_form (lets_memory name shape shape_places value) = 1
  declared_in_form (views name parent form) = 1
  declared_in_form (assigns target value) = 0
  declared_in_form (stores target value) = 0
  declared_in_form (reduces target op value) = 0
  declared_in_form (calls function arguments) = 0
  declared_in_form (blocks body) = declared_in_groups body
  declared_in_form (decides test chosen other) = declared_in chosen + declared_in_other other
  declared_in_form (repeats test body) = declared_in body
  declared_in_form (counts iterator declared low high factor body combine combine_place) = 1 + (declared_in body + declared_in_other combine)

  pub declared_in_other : MaybeAction → ℕ
  declared_in_other no_action = 0
  declared_in_other (one_action a) = declared_in a

  pub declared_in_actions : Actions → ℕ
  declared_in_actions no_actions = 0
  declared_in_actions (action_then a rest) = declared_in a + declared_in_actions rest

  pub declared_in_groups : Groups → ℕ
  declared_in_groups no_groups = 0
  declared_in_groups (group_then g rest) = declared_in_actions g + declared_in_groups rest

-- those of a function of the code: its parameters, and what its body declares
abbrev pub declared_by : Function → ℕ
declared_by f = length f.parameters.items + declared_in (action_seen f.body)

-- those of functions: their parameters, and what their bodies declare
abbrev pub declared_in_functions : List Defined → ℕ
declared_in_functions [] = 0
declared_in_functions (f ∷ fs) = (length f.parameters + declared_in f.body) + declared_in_functions fs

abbrev pub names_declared : Program → ℕ
names_declared p = (length p.decls + length p.functions) + (declared_in_functions p.functions + declared_in p.body)

-- each declared name has a number of 32 bits
abbrev pub HasFewNames : Program → Type 0
HasFewNames p = names_declared p < 2 ^ 32
