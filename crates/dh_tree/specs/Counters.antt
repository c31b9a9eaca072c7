-- The loops of a program, by their iterators.
use Rattle.std.specs.Prelude.{ℕ, ◌-◌, ◌/◌, ◌≤◌, List, [], ◌∷◌, ◌++◌, Option, Some, None, if◌then◌else◌}
use Rattle.std.specs.List.{AllByRecursion}
use Rattle.dh_tree.specs.declared.trees.counters.Counter.{Counter}
use Rattle.dh_tree.specs.Memories.{same_entity}
use Rattle.dh_tree.specs.PlainTrees.{Action, action, ActionForm, lets, lets_memory, views, assigns, stores, reduces, calls, blocks, decides, repeats, counts, MaybeAction, no_action, one_action, Actions, no_actions, action_then, Groups, no_groups, group_then, Program}

-- the turns of a loop, in each of which so many copies of its body are done side by side
abbrev pub turn_count : (low high factor : ℕ) → ℕ
turn_count low high factor = (high - low) / factor

abbrev mutual
  -- the loops of a command, in text order
  pub counters : Action → List Counter
  counters (action id place form) = form_counters form

  pub form_counters : ActionForm → List Counter
  form_counters (blocks body) = groups_counters body
  form_counters (decides test chosen other) = counters chosen ++ other_counters other
  form_counters (repeats test body) = counters body
  form_counters (counts iterator declared low high factor body combine combine_place) =
      record { entity = iterator.entity; low = low.value; high = high.value; factor = factor.value } ∷ (counters body ++ other_counters combine)
  form_counters (lets name declared value) = []
  form_counters (lets_memory name shape shape_places value) = []
  form_counters (views name parent form) = []
  form_counters (assigns target value) = []
  form_counters (stores target value) = []
  form_counters (reduces target o value) = []
  form_counters (calls function arguments) = []

  pub other_counters : MaybeAction → List Counter
  other_counters no_action = []
  other_counters (one_action a) = counters a

  pub groups_counters : Groups → List Counter
  groups_counters no_groups = []
  groups_counters (group_then part rest) = part_counters part ++ groups_counters rest

  pub part_counters : Actions → List Counter
  part_counters no_actions = []
  part_counters (action_then a rest) = counters a ++ part_counters rest

abbrev pub counters_of : Program → List Counter
counters_of p = counters p.body

-- the loop of which this entity is the iterator
abbrev pub counter_in : List Counter → Option ℕ → Option Counter
counter_in [] entity = None
counter_in (c ∷ cs) entity = if same_entity c.entity entity then Some c else counter_in cs entity

-- a loop has one copy of its body at most
abbrev pub IsSingle : Counter → Type 0
IsSingle c = c.factor ≤ 1

-- and so each of these
abbrev pub AreSingle : List Counter → Type 0
AreSingle cs = AllByRecursion IsSingle cs
