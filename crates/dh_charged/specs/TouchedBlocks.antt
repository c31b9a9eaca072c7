-- Which registers a block of a plan sees and sets, where it was made of sound commands, or of a test: as a plan asks.
use Rattle.std.specs.Prelude.{◌≡◌, ℕ, ◌<◌, ◌^◌, List, ◌++◌, length, slice_index, Some, None}
use Rattle.std.specs.List.{AllByRecursion}
use Rattle.dh_tree.specs.declared.trees.counters.Counter.{Counter}
use Rattle.dh_tree.specs.PlainTrees.{Term}
use Rattle.dh_meaning.specs.CoreOf.{core_commands, core_term}
use Rattle.dh_meaning.specs.Effects.{commands, tests}
use Rattle.dh_meaning.specs.Phases.{Located}
use Rattle.dh_plan.specs.Correspondence.{Round}
use Rattle.dh_plan.specs.PlainPlans.{PlainPlan}
use Rattle.dh_plan.specs.PlanPhases.{Touches}
use Rattle.dh_expressions.specs.declared.scenes.Around.{Around}
use Rattle.dh_expressions.specs.declared.scenes.Scene.{Scene}
use Rattle.dh_expressions.specs.Evaluated.{counter_of, known_in}
use Rattle.dh_expressions.specs.Shown.{is_read_term}
use Rattle.dh_commands.specs.declared.buildings.Building.{Building}
use Rattle.dh_commands.specs.LanesRun.{paths_counted}
use Rattle.dh_commands.specs.MadeCommands.{MadeTests}
use Rattle.dh_laid.specs.BlockSites.{MadeEach}
use Rattle.dh_blocks.specs.BlockMade.{AreSoundHere, IsPut, IsTop, sets_made}
use Rattle.dh_blocks.specs.SlotsOfScene.{HoldsVariables, slots_in}
use Rattle.dh_blocks.specs.TestMade.{IsSoundTest, flag_made}

-- the iterator of each loop has a counter
abbrev pub HaveCounters : Scene → List Round → Type 0
HaveCounters scene rounds = AllByRecursion (λ (r : Round). (c : Counter) × (counter_of scene r.loop.iterator ≡ Some c)) rounds

-- What stands round a block of a plan: its loops, and the registers of the scene's variables.
pub record StandsInPlan (scene : Scene) (around : Around) (plan : PlainPlan) (rounds : List Round) (count : ℕ) : Type 0 where
  pub holds : HoldsVariables scene plan count
  pub top : IsTop rounds around
  pub few : paths_counted around < 2 ^ 64
  pub counters : HaveCounters scene rounds

-- a block of straight commands, those with accesses and behind them reducers
abbrev pub StraightsTouch : Type 0
StraightsTouch =
    (scene : Scene) (around : Around) (plan : PlainPlan) (rounds : List Round) (count block : ℕ) (done folds : List Located) (before between : Building)
    → StandsInPlan scene around plan rounds count → AreSoundHere scene around plan rounds done folds
    → IsPut plan count block before between (sets_made between.values.log.items between.values.current.items) → MadeEach scene around (done ++ folds) before between
    → Touches plan (slots_in scene) rounds (commands (core_commands (known_in scene) (done ++ folds))) None block

-- the block of a test with its flag
abbrev pub TestsTouch : Type 0
TestsTouch =
    (scene : Scene) (around : Around) (plan : PlainPlan) (rounds : List Round) (count block flag first next : ℕ) (t : Term) (values : List ℕ) (before between : Building)
    → StandsInPlan scene around plan rounds count → IsSoundTest scene around plan rounds t
    → IsPut plan count block before between (flag_made (is_read_term t) flag (slice_index values 0) (length between.draft.operations.items))
    → MadeTests scene around first t (paths_counted around) before between next values
    → Touches plan (slots_in scene) rounds (tests (core_term (known_in scene) first t)) (Some flag) block
