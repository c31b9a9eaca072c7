-- The command that has a number, and its phases.
use Rattle.std.specs.Prelude.{◌≡◌, ◌⊎◌, ℕ, ◌==◌, if◌then◌else◌, Option, Some, None, option_map, Result, IfOk, Vec}
use Rattle.std.specs.Global.{Global}
use denote.Ref.{Bor}
use Rattle.dh_tree.specs.declared.trees.commands.Command.{Command}
use Rattle.dh_tree.specs.PlainTrees.{Action, action, ActionForm, lets, lets_memory, views, assigns, stores, reduces, calls, blocks, decides, repeats, counts, MaybeAction, no_action, one_action, Actions, no_actions, action_then, Groups, no_groups, group_then}
use Rattle.dh_tree.specs.Seen.{action_seen}
use Rattle.dh_phases.specs.declared.gathering.Phase.{Phase}
use Rattle.dh_phases.specs.GatheredPhases.{ArePhasesOf}

abbrev mutual
  -- a command is this one or one inside it, and has this number
  pub HoldsCommand : Action → ℕ → Action → Type 0
  HoldsCommand (action id place form) n a = ((id ≡ n) × (action id place form ≡ a)) ⊎ HoldsInside form n a

  pub HoldsInside : ActionForm → ℕ → Action → Type 0
  HoldsInside (blocks body) n a = HoldInGroups body n a
  HoldsInside (decides test chosen other) n a = HoldsCommand chosen n a ⊎ HoldsOther other n a
  HoldsInside (repeats test body) n a = HoldsCommand body n a
  HoldsInside (counts iterator declared low high factor body combine combine_place) n a = HoldsCommand body n a ⊎ HoldsOther combine n a
  HoldsInside (lets name declared value) n a = ⊥
  HoldsInside (lets_memory name shape shape_places value) n a = ⊥
  HoldsInside (views name parent form) n a = ⊥
  HoldsInside (assigns target value) n a = ⊥
  HoldsInside (stores target value) n a = ⊥
  HoldsInside (reduces target op value) n a = ⊥
  HoldsInside (calls function arguments) n a = ⊥

  pub HoldsOther : MaybeAction → ℕ → Action → Type 0
  HoldsOther no_action n a = ⊥
  HoldsOther (one_action b) n a = HoldsCommand b n a

  pub HoldInGroups : Groups → ℕ → Action → Type 0
  HoldInGroups no_groups n a = ⊥
  HoldInGroups (group_then part rest) n a = HoldInPart part n a ⊎ HoldInGroups rest n a

  pub HoldInPart : Actions → ℕ → Action → Type 0
  HoldInPart no_actions n a = ⊥
  HoldInPart (action_then b rest) n a = HoldsCommand b n a ⊎ HoldInPart rest n a

-- a command of this number is this one or one inside it
abbrev pub HasCommand : Action → ℕ → Type 0
HasCommand body n = (a : Action) × HoldsCommand body n a

-- The phases of each command of this number that is this one or one inside it are given, where no memory was refused.
abbrev pub GivesPhasesOf : {E : Type 0} → Result (Vec Phase Global) E → Action → ℕ → Type 0
GivesPhasesOf result body n = IfOk result (λ ps. (a : Action) → HoldsCommand body n a → ArePhasesOf ps a)

-- the command that is found, where one is
abbrev pub found_seen : Option (Bor Command) → Option Action
found_seen found = option_map (λ c. action_seen c.now) found

-- the first that is there
abbrev pub found_or : Option Action → Option Action → Option Action
found_or None b = b
found_or (Some a) b = Some a

abbrev mutual
  -- the first command of this number, this one or one inside it
  pub first_in_command : ℕ → Action → Option Action
  first_in_command n (action id place form) = if id == n then Some (action id place form) else first_in_form n form

  pub first_in_form : ℕ → ActionForm → Option Action
  first_in_form n (blocks body) = first_in_groups n body
  first_in_form n (decides test chosen other) = found_or (first_in_command n chosen) (first_in_other n other)
  first_in_form n (repeats test body) = first_in_command n body
  first_in_form n (counts iterator declared low high factor body combine combine_place) = found_or (first_in_command n body) (first_in_other n combine)
  first_in_form n (lets name declared value) = None
  first_in_form n (lets_memory name shape shape_places value) = None
  first_in_form n (views name parent form) = None
  first_in_form n (assigns target value) = None
  first_in_form n (stores target value) = None
  first_in_form n (reduces target op value) = None
  first_in_form n (calls function arguments) = None

  pub first_in_other : ℕ → MaybeAction → Option Action
  first_in_other n no_action = None
  first_in_other n (one_action a) = first_in_command n a

  pub first_in_groups : ℕ → Groups → Option Action
  first_in_groups n no_groups = None
  first_in_groups n (group_then part rest) = found_or (first_in_part n part) (first_in_groups n rest)

  pub first_in_part : ℕ → Actions → Option Action
  first_in_part n no_actions = None
  first_in_part n (action_then a rest) = found_or (first_in_command n a) (first_in_part n rest)
