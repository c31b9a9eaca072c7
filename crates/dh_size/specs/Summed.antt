-- Sums of sizes, and the size of a command that no loop round it copies.
use Rattle.std.specs.Prelude.{ℕ, suc, ◌+◌, ◌-◌, ◌*◌, ◌^◌, min, List, map}
use Rattle.dh_tree.specs.declared.trees.expressions.Expr.{Expr}
use Rattle.dh_tree.specs.PlainTrees.{Action, action, ActionForm, lets, lets_memory, views, assigns, stores, reduces, calls, blocks, decides, repeats, counts, MaybeAction, no_action, one_action, Actions, no_actions, action_then, Groups, no_groups, group_then}
use Rattle.dh_tree.specs.Seen.{factor_seen, terms}
use Rattle.dh_plan.specs.PlanSizes.{own_operators, terms_operators}

-- a sum of the code, and so much more
abbrev pub capped_sum : (sum more : ℕ) → ℕ
capped_sum sum more = min (sum + more) (2 ^ 64 - 1)

-- the operators of the offsets of a suffix
abbrev pub suffix_operators : List (ℕ × Expr) → ℕ
suffix_operators by = terms_operators (terms (map (λ s. s.offset) (map factor_seen by)))

-- A command's size is in proportion to the copies round it (`unit_times` of proofs/UnitSizes).
abbrev mutual
  pub unit_size : Action → ℕ
  unit_size (action id place form) = suc (own_operators form) + unit_inside form

  pub unit_inside : ActionForm → ℕ
  unit_inside (lets name declared value) = 0
  unit_inside (lets_memory name shape shape_places value) = 0
  unit_inside (views name parent form) = 0
  unit_inside (assigns target value) = 0
  unit_inside (stores target value) = 0
  unit_inside (reduces target op value) = 0
  unit_inside (calls function arguments) = 0
  unit_inside (blocks body) = groups_unit body
  unit_inside (decides test chosen other) = unit_size chosen + other_unit other
  unit_inside (repeats test body) = unit_size body
  unit_inside (counts iterator declared low high factor body combine combine_place) = factor.value * (unit_size body + other_unit combine)

  pub other_unit : MaybeAction → ℕ
  other_unit no_action = 0
  other_unit (one_action a) = unit_size a

  pub groups_unit : Groups → ℕ
  groups_unit no_groups = 0
  groups_unit (group_then part rest) = part_unit part + groups_unit rest

  pub part_unit : Actions → ℕ
  part_unit no_actions = 0
  part_unit (action_then a rest) = unit_size a + part_unit rest
