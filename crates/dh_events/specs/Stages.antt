-- How many phases the commands of a program have, noted by the numbers of commands: none, one straight phase, or others (2).
use Rattle.std.specs.Prelude.{◌≡◌, ℕ, List, []}
use Rattle.dh_tree.specs.PhaseKinds.{form_phase_kind}
use Rattle.dh_tree.specs.PlainTrees.{Action, action, ActionForm, lets, lets_memory, views, assigns, stores, reduces, calls, blocks, decides, repeats, counts, MaybeAction, no_action, one_action, Actions, no_actions, action_then, Groups, no_groups, group_then, Program}
use Rattle.dh_events.specs.Tables.{table_at, with_number}

abbrev mutual
  -- what is noted by the numbers of a command and of those inside it, those inside first
  pub stages_in : Action → (ℕ → ℕ) → ℕ → ℕ
  stages_in (action id place form) f = with_number (form_stages form f) id (form_phase_kind form)

  pub form_stages : ActionForm → (ℕ → ℕ) → ℕ → ℕ
  form_stages (lets name declared value) f = f
  form_stages (lets_memory name shape shape_places value) f = f
  form_stages (views name parent form) f = f
  form_stages (assigns target value) f = f
  form_stages (stores target value) f = f
  form_stages (reduces target op value) f = f
  form_stages (calls function arguments) f = f
  form_stages (blocks body) f = groups_stages body f
  form_stages (decides test chosen other) f = other_stages other (stages_in chosen f)
  form_stages (repeats test body) f = stages_in body f
  form_stages (counts iterator declared low high factor body combine combine_place) f = other_stages combine (stages_in body f)

  pub other_stages : MaybeAction → (ℕ → ℕ) → ℕ → ℕ
  other_stages no_action f = f
  other_stages (one_action a) f = stages_in a f

  pub groups_stages : Groups → (ℕ → ℕ) → ℕ → ℕ
  groups_stages no_groups f = f
  groups_stages (group_then part rest) f = groups_stages rest (part_stages part f)

  pub part_stages : Actions → (ℕ → ℕ) → ℕ → ℕ
  part_stages no_actions f = f
  part_stages (action_then a rest) f = part_stages rest (stages_in a f)

-- the phases of a program's commands are counted so
abbrev pub AreStagesOf : Program → (stages : List ℕ) → Type 0
AreStagesOf p stages = table_at stages ≡ stages_in p.body (table_at [])
