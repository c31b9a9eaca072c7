-- Commands are numbered in text order, a command before those inside it.
use Rattle.std.specs.Prelude.{◌≡◌, ℕ, suc, ◌+◌}
use Rattle.dh_tree.specs.PlainTrees.{Action, action, ActionForm, lets, lets_memory, views, assigns, stores, reduces, calls, blocks, decides, repeats, counts, MaybeAction, no_action, one_action, Actions, no_actions, action_then, Groups, no_groups, group_then}

abbrev mutual
  -- how many commands a command is, with those inside it
  pub commands_in : Action → ℕ
  commands_in (action id place form) = suc (commands_inside form)

  pub commands_inside : ActionForm → ℕ
  commands_inside (blocks body) = commands_in_groups body
  commands_inside (decides test chosen other) = commands_in chosen + commands_in_other other
  commands_inside (repeats test body) = commands_in body
  commands_inside (counts iterator declared low high factor body combine combine_place) = commands_in body + commands_in_other combine
  commands_inside (lets name declared value) = 0
  commands_inside (lets_memory name shape shape_places value) = 0
  commands_inside (views name parent form) = 0
  commands_inside (assigns target value) = 0
  commands_inside (stores target value) = 0
  commands_inside (reduces target o value) = 0
  commands_inside (calls function arguments) = 0

  pub commands_in_other : MaybeAction → ℕ
  commands_in_other no_action = 0
  commands_in_other (one_action a) = commands_in a

  pub commands_in_groups : Groups → ℕ
  commands_in_groups no_groups = 0
  commands_in_groups (group_then part rest) = commands_in_part part + commands_in_groups rest

  pub commands_in_part : Actions → ℕ
  commands_in_part no_actions = 0
  commands_in_part (action_then a rest) = commands_in a + commands_in_part rest

abbrev mutual
  -- the commands of a command are numbered from a first number on
  pub IsNumbered : ℕ → Action → Type 0
  IsNumbered n (action id place form) = (id ≡ n) × IsNumberedInside (suc n) form

  pub IsNumberedInside : ℕ → ActionForm → Type 0
  IsNumberedInside n (blocks body) = AreNumberedGroups n body
  IsNumberedInside n (decides test chosen other) = IsNumbered n chosen × IsNumberedOther (n + commands_in chosen) other
  IsNumberedInside n (repeats test body) = IsNumbered n body
  IsNumberedInside n (counts iterator declared low high factor body combine combine_place) = IsNumbered n body × IsNumberedOther (n + commands_in body) combine
  IsNumberedInside n (lets name declared value) = Unit {0}
  IsNumberedInside n (lets_memory name shape shape_places value) = Unit {0}
  IsNumberedInside n (views name parent form) = Unit {0}
  IsNumberedInside n (assigns target value) = Unit {0}
  IsNumberedInside n (stores target value) = Unit {0}
  IsNumberedInside n (reduces target o value) = Unit {0}
  IsNumberedInside n (calls function arguments) = Unit {0}

  pub IsNumberedOther : ℕ → MaybeAction → Type 0
  IsNumberedOther n no_action = Unit {0}
  IsNumberedOther n (one_action a) = IsNumbered n a

  pub AreNumberedGroups : ℕ → Groups → Type 0
  AreNumberedGroups n no_groups = Unit {0}
  AreNumberedGroups n (group_then part rest) = AreNumbered n part × AreNumberedGroups (n + commands_in_part part) rest

  pub AreNumbered : ℕ → Actions → Type 0
  AreNumbered n no_actions = Unit {0}
  AreNumbered n (action_then a rest) = IsNumbered n a × AreNumbered (n + commands_in a) rest
