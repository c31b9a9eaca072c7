-- What is put down for commands checks nothing and sets no register: registers are set behind all commands of a block.
use Rattle.std.specs.Prelude.{◌≡◌, ℕ, ◌<◌, ◌^◌, [], ◌++◌, List, length}
use Rattle.dh_value.specs.declared.words.Word.{Word}
use Rattle.dh_plan.specs.Blocks.{form_sets}
use Rattle.std.specs.List.{AllByRecursion}
use Rattle.dh_tree.specs.PlainTrees.{Action, Groups, Term}
use Rattle.dh_plan.specs.declared.operations.Operation.{Operation}
use Rattle.dh_plan.specs.declared.operations.OperationForm.{OperationForm}
use Rattle.dh_expressions.specs.declared.accesses.Accesses.{Accesses}
use Rattle.dh_expressions.specs.declared.drafts.Draft.{Draft}
use Rattle.dh_expressions.specs.declared.scenes.Around.{Around}
use Rattle.dh_expressions.specs.declared.scenes.Lane.{Lane}
use Rattle.dh_expressions.specs.declared.scenes.Scene.{Scene}
use Rattle.dh_expressions.specs.Copying.{HasScopes}
use Rattle.dh_expressions.specs.MadeTerms.{MadeTerm}
use Rattle.dh_formed.specs.Counted.{FormIs}
use Rattle.dh_commands.specs.declared.buildings.Building.{Building}
use Rattle.dh_commands.specs.LanesRun.{paths_counted}
use Rattle.dh_commands.specs.MadeCommands.{MadeCommand, MadeGroups}

-- neither a check nor a setting
abbrev pub IsQuiet : OperationForm → Type 0
IsQuiet form = FormIs (λ register. Unit {0}) (λ r. Unit {0}) (λ r. Unit {0}) (λ r. Unit {0}) form

-- each operation that was added is so
pub record AddsQuiet (old new : Draft) : Type 0 where
  pub more : List Operation
  pub adds : new.operations.items ≡ old.operations.items ++ more
  pub each : AllByRecursion (λ o. IsQuiet o.form) more

-- loops stand round a command so that copies of accesses can be told apart
pub record BlockStandsIn (scene : Scene) (around : Around) : Type 0 where
  pub scopes : HasScopes scene
  pub low : length around.levels.now < 2 ^ 63
  pub few : paths_counted around < 2 ^ 64

abbrev pub TermsAreQuiet : Type 0
TermsAreQuiet =
    (scene : Scene) (lane : Lane) (current : _) (t : Term) (old new : Draft) (before after : Accesses) (n next v : ℕ) → BlockStandsIn scene lane.around → MadeTerm scene lane current t old new before after n next v → AddsQuiet old new

abbrev pub CommandsAreQuiet : Type 0
CommandsAreQuiet = (scene : Scene) (a : Action) (around : Around) (old new : Building) (first next : ℕ) → BlockStandsIn scene around → MadeCommand scene a around old new first next → AddsQuiet old.draft new.draft

abbrev pub GroupsAreQuiet : Type 0
GroupsAreQuiet = (scene : Scene) (body : Groups) (around : Around) (old new : Building) (first next : ℕ) → BlockStandsIn scene around → MadeGroups scene body around old new first next → AddsQuiet old.draft new.draft

-- what is so sets no register, whatever values stand in its block
abbrev pub QuietSetsNone : Type 0
QuietSetsNone = (form : OperationForm) → IsQuiet form → (first : ℕ) (ws : List Word) → form_sets first ws form ≡ []
