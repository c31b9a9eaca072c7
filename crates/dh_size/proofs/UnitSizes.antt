-- The size of a command is that of one copy, times the copies round it.
use Rattle.std.proofs.Common.{◌≡◌, ℕ, suc, ◌+◌, ◌*◌, refl, ap, ◌∙◌, arith}
use Rattle.dh_tree.specs.PlainTrees.{Action, action, ActionForm, lets, lets_memory, views, assigns, stores, reduces, calls, blocks, decides, repeats, counts, MaybeAction, no_action, one_action, Actions, no_actions, action_then, Groups, no_groups, group_then}
use Rattle.dh_plan.specs.PlanSizes.{own_operators, action_size, inside_size, other_size, groups_size, part_size}
use Rattle.dh_size.specs.Summed.{unit_size, unit_inside, other_unit, groups_unit, part_unit}

nothing : (n : ℕ) → 0 ≡ n * 0
nothing n = omega arith

both : (n a b x y : ℕ) → x ≡ n * a → y ≡ n * b → x + y ≡ n * (a + b)
both n a b x y e f = ap (λ k. k + y) e ∙ (ap (λ k. n * a + k) f ∙ spread n a b)
  where
    spread : (n a b : ℕ) → n * a + n * b ≡ n * (a + b)
    spread n a b = omega arith

grouped : (n f a : ℕ) → n * f * a ≡ n * (f * a)
grouped n f a = omega arith

mutual
  pub unit_times : (n : ℕ) (a : Action) → action_size n a ≡ n * unit_size a
  unit_times n (action id place form) = both n (suc (own_operators form)) (unit_inside form) _ (inside_size n form) refl (inside_times n form)

  inside_times : (n : ℕ) (form : ActionForm) → inside_size n form ≡ n * unit_inside form
  inside_times n (lets name declared value) = nothing n
  inside_times n (lets_memory name shape shape_places value) = nothing n
  inside_times n (views name parent form) = nothing n
  inside_times n (assigns target value) = nothing n
  inside_times n (stores target value) = nothing n
  inside_times n (reduces target op value) = nothing n
  inside_times n (calls function arguments) = nothing n
  inside_times n (blocks body) = groups_times n body
  inside_times n (decides test chosen other) = both n (unit_size chosen) (other_unit other) _ _ (unit_times n chosen) (other_times n other)
  inside_times n (repeats test body) = unit_times n body
  inside_times n (counts iterator declared low high factor body combine combine_place) =
      both (n * factor.value) (unit_size body) (other_unit combine) _ _ (unit_times (n * factor.value) body) (other_times (n * factor.value) combine)
      ∙ grouped n factor.value (unit_size body + other_unit combine)

  other_times : (n : ℕ) (o : MaybeAction) → other_size n o ≡ n * other_unit o
  other_times n no_action = nothing n
  other_times n (one_action a) = unit_times n a

  groups_times : (n : ℕ) (body : Groups) → groups_size n body ≡ n * groups_unit body
  groups_times n no_groups = nothing n
  groups_times n (group_then part rest) = both n (part_unit part) (groups_unit rest) _ _ (part_times n part) (groups_times n rest)

  part_times : (n : ℕ) (part : Actions) → part_size n part ≡ n * part_unit part
  part_times n no_actions = nothing n
  part_times n (action_then a rest) = both n (unit_size a) (part_unit rest) _ _ (unit_times n a) (part_times n rest)

-- outside every loop it is that of one copy
pub unit_once : (a : Action) → action_size 1 a ≡ unit_size a
unit_once a = unit_times 1 a ∙ once (unit_size a)
  where
    once : (n : ℕ) → 1 * n ≡ n
    once n = omega arith
