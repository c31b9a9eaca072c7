-- A plan whose blocks are put down in a scene: each is of straight commands or of a test of the program, as they stand in
-- it, and in each step that does one its indices keep the rules and its loops are in turns.
use Rattle.std.specs.Prelude.{◌≡◌, ℕ, ◌<◌, ◌++◌, Bool, List, [], Some}
use Rattle.dh_tree.specs.Meets.{In}
use Rattle.dh_tree.specs.Memories.{table_of}
use Rattle.dh_tree.specs.PlainTrees.{Term}
use Rattle.dh_tree.specs.Seen.{program_seen}
use Rattle.dh_tree.specs.Tables.{Fits}
use Rattle.dh_meaning.specs.AccessNumbers.{accesses_of}
use Rattle.dh_meaning.specs.Core.{CorePhases}
use Rattle.dh_meaning.specs.CoreOf.{action_form_of, test_of}
use Rattle.dh_meaning.specs.Phases.{Located, phases_of}
use Rattle.dh_plan.specs.declared.operations.Operation.{Operation}
use Rattle.dh_plan.specs.Correspondence.{FitKinds, Round}
use Rattle.dh_plan.specs.DoneProgram.{MeetsAs}
use Rattle.dh_plan.specs.PlainPlans.{PlainPlan}
use Rattle.dh_plan.specs.PlanPhases.{AreNodesOf, Tie}
use Rattle.dh_plan.specs.SoundPlans.{StepsKeepBanks}
use Rattle.dh_expressions.specs.declared.scenes.Around.{Around}
use Rattle.dh_expressions.specs.declared.scenes.Scene.{Scene}
use Rattle.dh_sound.specs.PhaseFacts.{HasTest}
use Rattle.dh_commands.specs.declared.buildings.Building.{Building}
use Rattle.dh_blocks.specs.BlockMade.{step_of_block}
use Rattle.dh_laid.specs.BlockSites.{MadeEach}
use Rattle.dh_reached.specs.IndicesKept.{CommandsKeep, TermKeeps}
use Rattle.dh_reached.specs.NeverMeet.{StandsAlong}
use Rattle.dh_reached.specs.ReachedBlocks.{StraightStands, TestStands}
use Rattle.dh_reached.specs.StepsOfNodes.{InTurns}

module _ (scene : Scene) (plan : PlainPlan) (count : ℕ) where
  -- so of a block of straight commands, and the reducers behind them
  pub record ReachedBlock (rounds : List Round) (block : ℕ) : Type 0 where
    pub around : Around
    pub done : List Located
    pub folds : List Located
    pub old : Building
    pub new : Building
    pub made : MadeEach scene around (done ++ folds) old new
    pub more : List Operation
    pub reads : ℕ → Bool
    pub stands : StraightStands scene around plan count block (done ++ folds) old new made more reads
    pub along : StandsAlong scene around done folds
    pub keeps : (registers : List ℕ) (memories : List (List ℕ)) → FitKinds plan.registers registers → Fits plan.table memories → InTurns registers rounds
        → CommandsKeep (step_of_block plan block registers memories) scene around.levels.now (done ++ folds)

  -- and of one of a test
  pub record ReachedTest (rounds : List Round) (block : ℕ) : Type 0 where
    pub around : Around
    pub tested : Located
    pub test : Term
    pub old : Building
    pub new : Building
    pub next : ℕ
    pub tests : List ℕ
    pub more : List Operation
    pub reads : ℕ → Bool
    pub stands : TestStands scene around plan count block tested.first test old new next tests more reads
    pub has : HasTest (phases_of (program_seen scene.program.now)) tested
    pub test_is : test_of (action_form_of tested.command) ≡ Some test
    pub keeps : (registers : List ℕ) (memories : List (List ℕ)) → FitKinds plan.registers registers → Fits plan.table memories → InTurns registers rounds
        → TermKeeps (step_of_block plan block registers memories) scene around.levels.now (λ e. ⊥) test

  abbrev pub reached_tie : Tie
  reached_tie = record {
    of_block = λ rounds cs block. ReachedBlock rounds block;
    of_test = λ rounds test flag block. ReachedTest rounds block;
    of_loop = λ rounds loop counter. Unit {0};
  }

  pub record ReachedPlan (phases : CorePhases) : Type 0 where
    pub table : plan.table ≡ table_of (program_seen scene.program.now)
    -- its accesses are all those of the program, which meet as there
    pub meets : MeetsAs (program_seen scene.program.now) plan
    pub there : (number : ℕ) → number < accesses_of (program_seen scene.program.now).body → In number plan.meets
    pub nodes : AreNodesOf reached_tie [] phases plan.body

-- its steps keep the banks
abbrev pub ReachedPlansKeepBanks : Type 0
ReachedPlansKeepBanks = (scene : Scene) (plan : PlainPlan) (count : ℕ) (phases : CorePhases) → ReachedPlan scene plan count phases → StepsKeepBanks plan
