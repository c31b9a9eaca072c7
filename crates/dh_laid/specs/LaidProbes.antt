-- Probes: each access of a command is probed once at each path, where its arm is done or not.
use Rattle.std.specs.Prelude.{◌≡◌, ℕ, ◌+◌, ◌<◌, ◌^◌, ◌++◌, List}
use Rattle.dh_tree.specs.PlainTrees.{Action, Groups}
use Rattle.dh_meaning.specs.AccessNumbers.{accesses_of, groups_accesses}
use Rattle.dh_plan.specs.declared.operations.Operation.{Operation}
use Rattle.dh_plan.specs.DoneProgram.{probes_among}
use Rattle.dh_expressions.specs.declared.drafts.Draft.{Draft}
use Rattle.dh_expressions.specs.declared.scenes.Around.{Around}
use Rattle.dh_expressions.specs.declared.scenes.Scene.{Scene}
use Rattle.dh_formed.specs.Counted.{ranged}
use Rattle.dh_commands.specs.declared.buildings.Building.{Building}
use Rattle.dh_commands.specs.LanesRun.{paths_counted}
use Rattle.dh_commands.specs.MadeCommands.{MadeCommand, MadeGroups}
use Rattle.dh_laid.specs.LaidNumbers.{AreStraightGroups, IsStraightAction}
use Rattle.dh_laid.specs.LaidQuiet.{BlockStandsIn}

-- so many probes of each access were added
pub record AddsProbes (old new : Draft) (probes : (access : ℕ) → ℕ) : Type 0 where
  pub more : List Operation
  pub adds : new.operations.items ≡ old.operations.items ++ more
  pub probes_are : (access : ℕ) → probes_among access more ≡ probes access

abbrev pub CommandsProbe : Type 0
CommandsProbe =
    (scene : Scene) (a : Action) (around : Around) (old new : Building) (first next : ℕ) → BlockStandsIn scene around → MadeCommand scene a around old new first next → IsStraightAction a → 0 < paths_counted around
    → first + accesses_of a < 2 ^ 32 → AddsProbes old.draft new.draft (ranged first (accesses_of a) (λ access. paths_counted around))

abbrev pub GroupsProbe : Type 0
GroupsProbe =
    (scene : Scene) (body : Groups) (around : Around) (old new : Building) (first next : ℕ) → BlockStandsIn scene around → MadeGroups scene body around old new first next → AreStraightGroups body → 0 < paths_counted around
    → first + groups_accesses body < 2 ^ 32 → AddsProbes old.draft new.draft (ranged first (groups_accesses body) (λ access. paths_counted around))
