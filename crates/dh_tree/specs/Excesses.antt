-- The limits on memories and copies that a program exceeds: dimensions, banks, ports and elements of memories,
-- and how many copies there are of one place. (The limits of this profile.)
use Rattle.std.specs.Prelude.{ℕ, ◌*◌, nat_lt, min, List, [], ◌∷◌, length, Option, Some, None, if◌then◌else◌}
use Rattle.dh_base.specs.Limits.{greatest_of}
use Rattle.dh_base.specs.declared.limits.Excess.{Excess}
use Rattle.dh_base.specs.declared.limits.Limit.{Limit}
use Rattle.dh_base.specs.declared.limits.Limit.TheVariants as limit
use Rattle.dh_tree.specs.Elements.{banks_of}
use Rattle.dh_tree.specs.Memories.{Memory, memories_of, table_of}
use Rattle.dh_tree.specs.PlainTrees.{Action, action, ActionForm, lets, lets_memory, views, assigns, stores, reduces, calls, blocks, decides, repeats, counts, MaybeAction, no_action, one_action, Actions, no_actions, action_then, Groups, no_groups, group_then, Program}
use Rattle.dh_tree.specs.Tables.{elements_in}

-- counts that are reported stop here
abbrev pub most_counted : ℕ
most_counted = 1000000000

-- a count, where it is above its limit
abbrev pub excess_at : Limit → ℕ → Option Excess
excess_at l count = if nat_lt (greatest_of l) count then Some (record { limit = l; count = min count most_counted }) else None

-- the first of these
abbrev pub or_else : Option Excess → Option Excess → Option Excess
or_else (Some e) next = Some e
or_else None next = next

-- the first memory whose count is above the limit
abbrev pub first_above : Limit → (Memory → ℕ) → List Memory → Option Excess
first_above l count [] = None
first_above l count (m ∷ ms) = or_else (excess_at l (count m)) (first_above l count ms)

abbrev mutual
  -- The first loop in a command, in text order, inside which there are too many copies: so many are round the
  -- command, and each loop takes them times its factor, in its body and in the block that joins its copies.
  pub copies_excess : (round : ℕ) → Action → Option Excess
  copies_excess round (action id place form) = form_copies_excess round form

  pub form_copies_excess : (round : ℕ) → ActionForm → Option Excess
  form_copies_excess round (lets name declared value) = None
  form_copies_excess round (lets_memory name shape shape_places value) = None
  form_copies_excess round (views name parent form) = None
  form_copies_excess round (assigns target value) = None
  form_copies_excess round (stores target value) = None
  form_copies_excess round (reduces target o value) = None
  form_copies_excess round (calls function arguments) = None
  form_copies_excess round (blocks body) = groups_copies_excess round body
  form_copies_excess round (decides test chosen other) = or_else (copies_excess round chosen) (other_copies_excess round other)
  form_copies_excess round (repeats test body) = copies_excess round body
  form_copies_excess round (counts iterator declared low high factor body combine combine_place) =
      or_else (excess_at limit.Copies (round * factor.value))
      (or_else (copies_excess (round * factor.value) body) (other_copies_excess (round * factor.value) combine))

  pub other_copies_excess : (round : ℕ) → MaybeAction → Option Excess
  other_copies_excess round no_action = None
  other_copies_excess round (one_action a) = copies_excess round a

  pub groups_copies_excess : (round : ℕ) → Groups → Option Excess
  groups_copies_excess round no_groups = None
  groups_copies_excess round (group_then part rest) = or_else (part_copies_excess round part) (groups_copies_excess round rest)

  pub part_copies_excess : (round : ℕ) → Actions → Option Excess
  part_copies_excess round no_actions = None
  part_copies_excess round (action_then a rest) = or_else (copies_excess round a) (part_copies_excess round rest)

-- the limits in order: dimensions, banks over all dimensions, and ports of a memory, copies of one place, and the
-- elements of all memories
abbrev pub first_excess : Program → Option Excess
first_excess p =
    or_else (first_above limit.Dimensions (λ m. length m.shape.dims) (memories_of p))
    (or_else (first_above limit.Banks (λ m. banks_of m.shape.dims) (memories_of p))
    (or_else (first_above limit.Ports (λ m. m.shape.ports) (memories_of p))
    (or_else (copies_excess 1 p.body) (excess_at limit.Elements (elements_in (table_of p))))))
