-- How many phases commands have, as far as it matters where straight commands may stand: none (0), one
-- straight phase (1), or others (2). A view that moves is a straight command, another is a declaration alone. Calls
-- are not built and have none.
use Rattle.std.specs.Prelude.{ℕ, ◌+◌, ◌==◌, ◌&&◌, ◌||◌, nat_le, if◌then◌else◌, max, min}
use Rattle.dh_tree.specs.Counters.{turn_count}
use Rattle.dh_tree.specs.PlainTrees.{Action, action, ActionForm, lets, lets_memory, views, assigns, stores, reduces, calls, blocks, decides, repeats, counts, MaybeAction, no_action, one_action, Actions, no_actions, action_then, Groups, no_groups, group_then}
use Rattle.dh_tree.specs.ViewOffsets.{moves}

-- an `if` is one straight phase where each arm has no phase, or one straight phase
abbrev pub choice_kind : (chosen other : ℕ) → ℕ
choice_kind chosen other = if nat_le 2 (max chosen other) then 2 else 1

-- a `for` has no phase where it has no turn, or where its body and the block that joins its copies have none
abbrev pub turns_kind : (turns body combine : ℕ) → ℕ
turns_kind turns body combine = if turns == 0 || (body == 0 && combine == 0) then 0 else 2

abbrev mutual
  pub phase_kind : Action → ℕ
  phase_kind (action id place form) = form_phase_kind form

  pub form_phase_kind : ActionForm → ℕ
  form_phase_kind (lets name declared value) = 1
  form_phase_kind (lets_memory name shape shape_places value) = 0
  form_phase_kind (views name parent form) = if moves form then 1 else 0
  form_phase_kind (assigns target value) = 1
  form_phase_kind (stores target value) = 1
  form_phase_kind (reduces target o value) = 1
  form_phase_kind (calls function arguments) = 0
  form_phase_kind (blocks body) = groups_phase_kind body
  form_phase_kind (decides test chosen other) = choice_kind (phase_kind chosen) (other_phase_kind other)
  form_phase_kind (repeats test body) = 2
  form_phase_kind (counts iterator declared low high factor body combine combine_place) =
      turns_kind (turn_count low.value high.value factor.value) (phase_kind body) (other_phase_kind combine)

  -- an arm of an `if` that may lack, or a block that joins copies
  pub other_phase_kind : MaybeAction → ℕ
  other_phase_kind no_action = 0
  other_phase_kind (one_action a) = phase_kind a

  -- parts between `---`, of which nothing is joined
  pub groups_phase_kind : Groups → ℕ
  groups_phase_kind no_groups = 0
  groups_phase_kind (group_then part rest) = min 2 (part_phase_kind part + groups_phase_kind rest)

  -- straight commands of a part are one phase together
  pub part_phase_kind : Actions → ℕ
  part_phase_kind no_actions = 0
  part_phase_kind (action_then a rest) = max (phase_kind a) (part_phase_kind rest)
