-- The numbers of the accesses of whole commands: those behind a command are as many as it makes, and only its own are
-- touched by what is put down for it.
use Rattle.std.specs.Prelude.{◌≡◌, ◌⊎◌, ℕ, ◌+◌, ◌<◌, ◌≤◌, ◌^◌, []}
use Rattle.dh_tree.specs.Indices.{form_of}
use Rattle.dh_tree.specs.PlainTrees as plain
use Rattle.dh_tree.specs.PlainTrees.{Action, action, ActionForm, lets, lets_memory, views, assigns, stores, reduces, calls, blocks, decides, repeats, counts, MaybeAction, no_action, one_action, Actions, no_actions, action_then, Groups, no_groups, group_then}
use Rattle.dh_tree.specs.ViewOffsets.{offsets_of}
use Rattle.dh_meaning.specs.AccessNumbers.{accesses_of, groups_accesses}
use Rattle.dh_expressions.specs.declared.scenes.Around.{Around}
use Rattle.dh_expressions.specs.declared.scenes.Scene.{Scene}
use Rattle.dh_expressions.specs.Noted.{touched_in}
use Rattle.dh_commands.specs.declared.buildings.Building.{Building}
use Rattle.dh_commands.specs.LanesRun.{paths_counted}
use Rattle.dh_commands.specs.MadeCommands.{MadeCommand, MadeGroups}
use Rattle.dh_laid.specs.LaidCommands.{AreFew, AreFewGroups}

-- what is stored into is an access
abbrev pub IsAccessForm : plain.TermForm → Type 0
IsAccessForm (plain.accessed r ts) = Unit {0}
IsAccessForm (plain.in_bank r bank at row) = Unit {0}
IsAccessForm (plain.number negative z) = ⊥
IsAccessForm (plain.truth_value b) = ⊥
IsAccessForm (plain.named r) = ⊥
IsAccessForm (plain.applied op left right) = ⊥
IsAccessForm (plain.converted inner to) = ⊥

abbrev mutual
  -- no loop is in a command and no view that moves, and its stores are into accesses
  pub IsStraightAction : Action → Type 0
  IsStraightAction (action id place form) = IsStraightForm form

  pub IsStraightForm : ActionForm → Type 0
  IsStraightForm (lets name declared value) = Unit {0}
  IsStraightForm (assigns target value) = Unit {0}
  IsStraightForm (stores target value) = IsAccessForm (form_of target)
  IsStraightForm (reduces target op value) = Unit {0}
  IsStraightForm (decides test chosen other) = IsStraightAction chosen × IsStraightOther other
  IsStraightForm (blocks body) = AreStraightGroups body
  IsStraightForm (lets_memory name shape shape_places value) = Unit {0}
  IsStraightForm (views name parent form) = offsets_of form ≡ []
  IsStraightForm (calls function arguments) = Unit {0}
  IsStraightForm (repeats test body) = ⊥
  IsStraightForm (counts iterator declared low high factor body combine combine_place) = ⊥

  pub IsStraightOther : MaybeAction → Type 0
  IsStraightOther no_action = Unit {0}
  IsStraightOther (one_action a) = IsStraightAction a

  pub AreStraight : Actions → Type 0
  AreStraight no_actions = Unit {0}
  AreStraight (action_then a rest) = IsStraightAction a × AreStraight rest

  pub AreStraightGroups : Groups → Type 0
  AreStraightGroups no_groups = Unit {0}
  AreStraightGroups (group_then part rest) = AreStraight part × AreStraightGroups rest

abbrev mutual
  -- the stores of a command are into accesses; of a loop or a view in it nothing is asked, since nothing is put down for it
  pub StoresReach : Action → Type 0
  StoresReach (action id place form) = StoresReachForm form

  pub StoresReachForm : ActionForm → Type 0
  StoresReachForm (lets name declared value) = Unit {0}
  StoresReachForm (assigns target value) = Unit {0}
  StoresReachForm (stores target value) = IsAccessForm (form_of target)
  StoresReachForm (reduces target op value) = Unit {0}
  StoresReachForm (decides test chosen other) = StoresReach chosen × StoresReachOther other
  StoresReachForm (blocks body) = StoresReachGroups body
  StoresReachForm (lets_memory name shape shape_places value) = Unit {0}
  StoresReachForm (views name parent form) = Unit {0}
  StoresReachForm (calls function arguments) = Unit {0}
  StoresReachForm (repeats test body) = Unit {0}
  StoresReachForm (counts iterator declared low high factor body combine combine_place) = Unit {0}

  pub StoresReachOther : MaybeAction → Type 0
  StoresReachOther no_action = Unit {0}
  StoresReachOther (one_action a) = StoresReach a

  pub StoresReachPart : Actions → Type 0
  StoresReachPart no_actions = Unit {0}
  StoresReachPart (action_then a rest) = StoresReach a × StoresReachPart rest

  pub StoresReachGroups : Groups → Type 0
  StoresReachGroups no_groups = Unit {0}
  StoresReachGroups (group_then part rest) = StoresReachPart part × StoresReachGroups rest

-- a number is none of these
abbrev pub IsOutsideRange : (first count number : ℕ) → Type 0
IsOutsideRange first count number = (number < first) ⊎ (first + count ≤ number)

-- as many accesses were put down, from a first one on, and no others were touched
pub record NumbersLaid (old new : Building) (first count next : ℕ) : Type 0 where
  pub next_is : next ≡ first + count
  pub only : (number : ℕ) → IsOutsideRange first count number → touched_in new.accesses number ≡ touched_in old.accesses number

abbrev pub CommandsNumber : Type 0
CommandsNumber =
    (scene : Scene) (a : Action) (around : Around) (old new : Building) (first next : ℕ) (m : MadeCommand scene a around old new first next) → IsStraightAction a → 0 < paths_counted around → first + accesses_of a < 2 ^ 32
    → AreFew scene a around old new first next m × NumbersLaid old new first (accesses_of a) next

-- so also of a command with loops in it that have no phase, or with views: their accesses have numbers, and no operations
abbrev pub ReachingNumber : Type 0
ReachingNumber =
    (scene : Scene) (a : Action) (around : Around) (old new : Building) (first next : ℕ) (m : MadeCommand scene a around old new first next) → StoresReach a → 0 < paths_counted around → first + accesses_of a < 2 ^ 32
    → AreFew scene a around old new first next m × NumbersLaid old new first (accesses_of a) next

abbrev pub GroupsNumber : Type 0
GroupsNumber =
    (scene : Scene) (body : Groups) (around : Around) (old new : Building) (first next : ℕ) (m : MadeGroups scene body around old new first next) → AreStraightGroups body → 0 < paths_counted around
    → first + groups_accesses body < 2 ^ 32 → AreFewGroups scene body around old new first next m × NumbersLaid old new first (groups_accesses body) next
