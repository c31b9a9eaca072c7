-- That the operations of a block were made of straight commands: by each command, and then the registers that were given
-- values are set.
use Rattle.std.specs.Prelude.{◌≡◌, ℕ, ◌+◌, ◌<◌, ◌≤◌, ◌^◌, Bool, true, List, [], ◌∷◌, ◌++◌, length, map, drop, slice_get, slice_set, Option, Some, None}
use Rattle.std.specs.List.{AllByRecursion}
use Rattle.dh_base.specs.declared.outcomes.FaultKind.{FaultKind}
use Rattle.dh_base.specs.declared.places.Place.{Place}
use Rattle.dh_value.specs.declared.words.Word.{Word}
use Rattle.dh_meaning.specs.CoreOf.{core_commands}
use Rattle.dh_meaning.specs.Effects.{Effect, Variables}
use Rattle.dh_meaning.specs.Levels.{any_assigns}
use Rattle.dh_meaning.specs.Paths.{copies_in}
use Rattle.dh_meaning.specs.Phases.{Located}
use Rattle.dh_plan.specs.declared.operations.Operation.{Operation}
use Rattle.dh_plan.specs.declared.operations.OperationForm.TheVariants.{Set}
use Rattle.dh_plan.specs.Blocks.{form_sets}
use Rattle.dh_plan.specs.Correspondence.{Round, StandFor}
use Rattle.dh_plan.specs.Ordered.{IsOrdered}
use Rattle.dh_plan.specs.PlainPlans.{PlainPlan, first_in, operations_in}
use Rattle.dh_plan.specs.PlanRuns.{block_values, start_at}
use Rattle.dh_sound.specs.Blocks.{factors}
use Rattle.dh_expressions.specs.declared.scenes.Around.{Around}
use Rattle.dh_expressions.specs.declared.scenes.Scene.{Scene}
use Rattle.dh_expressions.specs.Copying.{AreNone}
use Rattle.dh_expressions.specs.Drafted.{BlockStep}
use Rattle.dh_expressions.specs.Evaluated.{known_in}
use Rattle.dh_expressions.specs.Shown.{guard_of}
use Rattle.dh_commands.specs.declared.assignments.Change.{Change}
use Rattle.dh_commands.specs.declared.buildings.Building.{Building}
use Rattle.dh_commands.specs.LanesRun.{paths_counted, paths_on}
use Rattle.dh_commands.specs.ShownVariables.{IsSeen, level_factors}
use Rattle.dh_commands.specs.Followed.{Arms, effect_of}
use Rattle.dh_commands.specs.Undone.{NoneGiven, given_at}
use Rattle.dh_commands.specs.Done.{DoesCommand}
pub use Rattle.dh_laid.specs.BareCommands.{AreRising, IsBare}
use Rattle.dh_blocks.specs.PathsOfLevels.{AreSpread}
use Rattle.dh_blocks.specs.BlockGround.{SharesIn}
use Rattle.dh_laid.specs.LaidAccesses.{AreLaid}
use Rattle.dh_blocks.specs.FoundAccesses.{Found, block_found}
use Rattle.dh_blocks.specs.SlotsOfScene.{slots_in}
use Rattle.dh_blocks.specs.NamedVariables.{IsNamedHere}
use Rattle.dh_blocks.specs.SoundCommands.{SoundAction}

-- each of these commands was done, one after the other
abbrev pub DoEach : Scene → Around → List Located → (old new : Building) → Type 0
DoEach scene around [] old new = old ≡ new
DoEach scene around (c ∷ cs) old new = (mid : Building) × ((next : ℕ) × (DoesCommand scene around c.command c.first next old mid × DoEach scene around cs mid new))

-- what stands round the arms of each
abbrev pub arms_each : (scene : Scene) (around : Around) (cs : List Located) (old new : Building) → DoEach scene around cs old new → List Arms
arms_each scene around [] old new h = []
arms_each scene around (c ∷ cs) old new (mid, (next, (d, rest))) = d.arms ∷ arms_each scene around cs mid new rest

-- the setting of the registers that were given values, each once
abbrev pub set_made : (register : ℕ) → Option ℕ → List Operation
set_made register None = []
set_made register (Some value) = record { guard = None; form = Set register value } ∷ []

abbrev pub sets_made : List Change → (current : List (Option ℕ)) → List Operation
sets_made [] current = []
sets_made (c ∷ cs) current = set_made c.register (given_at current c.register) ++ sets_made cs (slice_set current c.register None)

-- an operation sets no register
abbrev pub SetsNone : Operation → Type 0
SetsNone o = (first : ℕ) (ws : List Word) → form_sets first ws o.form ≡ []

-- The paths of a block: those inside the loops round it, without guards.
pub record IsTop (rounds : List Round) (around : Around) : Type 0 where
  pub spread : AreSpread around.levels.now
  pub factors_are : level_factors around.levels.now ≡ factors (map (λ (r : Round). r.loop) rounds)
  pub counted : paths_counted around ≡ copies_in (level_factors around.levels.now)
  pub free : (number : ℕ) → guard_of around.guards.now number ≡ None
  pub low : length around.levels.now < 2 ^ 63

-- A block of a plan is what was put down behind an old building, and these operations behind it. As it begins no variable
-- was given a value, and all accesses with operations are laid; what was put down sets no register.
pub record IsPut (plan : PlainPlan) (count block : ℕ) (old new : Building) (more : List Operation) : Type 0 where
  pub none : NoneGiven old.values count
  pub laid : AreLaid plan.faults old.accesses
  pub counts : AreNone old.accesses.counts.items
  pub first : first_in plan block ≡ length old.draft.operations.items
  pub operations : operations_in plan block ≡ drop (length old.draft.operations.items) new.draft.operations.items ++ more
  pub ordered : IsOrdered (first_in plan block) (operations_in plan block)
  pub quiet : AllByRecursion SetsNone (drop (length old.draft.operations.items) new.draft.operations.items)
  pub faults : (n : ℕ) (f : FaultKind × Place) → slice_get new.draft.faults n ≡ Some f → slice_get plan.faults n ≡ Some f
  pub few : length plan.faults ≤ 2 ^ 32

-- it was put down by these commands, whose accesses have no operations as it begins, and then each register is set that
-- was given a value
pub record IsBlockMade (scene : Scene) (around : Around) (plan : PlainPlan) (count block : ℕ) (cs : List Located) (old new : Building) : Type 0 where
  pub put : IsPut plan count block old new (sets_made new.values.log.items new.values.current.items)
  pub each : DoEach scene around cs old new
  pub rising : AreRising 0 cs
  pub bare : AllByRecursion (IsBare old.accesses) cs

-- Commands of a block are sound, where it stands in these loops: those with accesses, which touch what they assign, and
-- behind them reducers, of which only variables that are others at each path are operands.
abbrev pub AreSoundBy : (touched : ℕ → Bool) → Scene → Around → PlainPlan → List Round → List Located → Type 0
AreSoundBy touched scene around plan rounds cs =
    AllByRecursion (λ (c : Located). SoundAction scene around.levels.now plan.table (IsNamedHere scene around.levels.now plan.registers rounds touched) (IsSeen scene around.levels.now) c.command) cs

pub record AreSoundHere (scene : Scene) (around : Around) (plan : PlainPlan) (rounds : List Round) (done folds : List Located) : Type 0 where
  pub first : AreSoundBy (λ entity. any_assigns entity (core_commands (known_in scene) done)) scene around plan rounds done
  pub then_folds : AreSoundBy (λ entity. true) scene around plan rounds folds

-- The step in which a block of a plan is done.
abbrev pub step_of_block : PlainPlan → (block : ℕ) → (registers : List ℕ) → (memories : List (List ℕ)) → BlockStep
step_of_block plan block registers memories = record {
  start = start_at plan registers memories;
  first = first_in plan block;
  named = plan.faults;
  words = block_values plan (start_at plan registers memories) block;
}

abbrev pub effect_begun : Variables → Effect
effect_begun variables = record { variables = variables; events = [] }

-- what is found in it, from these variables
abbrev pub found_in : (scene : Scene) (around : Around) (plan : PlainPlan) (block : ℕ) (cs : List Located) (old new : Building) → DoEach scene around cs old new
    → (registers : List ℕ) → (memories : List (List ℕ)) → Variables → (number : ℕ) → Option Found
found_in scene around plan block cs old new h registers memories variables =
    block_found scene (step_of_block plan block registers memories) around (arms_each scene around cs old new h) cs (effect_begun variables)

-- The shared reads of each command mean the same, along their run.
abbrev pub EachShares : (scene : Scene) (around : Around) (x : BlockStep) (find : ℕ → Option Found) (cs : List Located) (old new : Building) → DoEach scene around cs old new → Effect → Type 0
EachShares scene around x find [] old new h e = Unit {0}
EachShares scene around x find (c ∷ cs) old new (mid, (next, (d, rest))) e =
    SharesIn scene x find around d.arms c.first c.command e
    × EachShares scene around x find cs mid new rest (effect_of scene x (paths_on x around) c.first c.command e)

-- so whatever registers, memories and variables a block begins with
abbrev pub SharesStand : (scene : Scene) (around : Around) (plan : PlainPlan) (rounds : List Round) (block : ℕ) (cs : List Located) (old new : Building) → DoEach scene around cs old new → Type 0
SharesStand scene around plan rounds block cs old new h =
    (registers : List ℕ) (memories : List (List ℕ)) (variables : Variables) → StandFor plan.registers (slots_in scene) rounds registers variables
    → EachShares scene around (step_of_block plan block registers memories) (found_in scene around plan block cs old new h registers memories variables) cs old new h (effect_begun variables)
