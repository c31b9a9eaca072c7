-- Plans whose nodes were made of the phases of a program use each access by keys, where each block is that of one node.
use Rattle.std.specs.Prelude.{[]}
use Rattle.dh_tree.specs.Seen.{program_seen}
use Rattle.dh_meaning.specs.CoreOf.{core_of, known_of}
use Rattle.dh_plan.specs.DoneProgram.{ProbesByPaths, UsesByKeys}
use Rattle.dh_plan.specs.PlainPlans.{PlainPlan}
use Rattle.dh_plan.specs.PlanPhases.{AreNodesOf}
use Rattle.dh_sound.specs.Straight.{IsKeptAction}
use Rattle.dh_lengths.specs.SharedReads.{TellsShares}
use Rattle.dh_expressions.specs.declared.scenes.Scene.{Scene}
use Rattle.dh_expressions.specs.ViewsTold.{TellsViews}
use Rattle.dh_blocks.specs.BlockTraced.{TellsWays}
use Rattle.dh_gathering.specs.declared.blocks.Made.{Made}
use Rattle.dh_gathering.specs.Cutting.{AreBlocksOf}
use Rattle.dh_gathering.specs.MadeBlocks.{made_tie}
use Rattle.dh_used.specs.SourceSites.{RowsAreDirect}
use Rattle.dh_used.specs.UsedPlans.{OneNodeEach, used_tie}

-- A plan has the blocks and nodes that were made, and the views that the scene tells, of a program that the scene shows;
-- rows are of memories that are named directly.
pub record IsMadeOf (scene : Scene) (final : Made) (plan : PlainPlan) : Type 0 where
  pub named : IsKeptAction (known_of (program_seen scene.program.now)) (program_seen scene.program.now).body
  pub tells : TellsShares (program_seen scene.program.now) scene.shares.now
  pub ways : TellsWays scene
  pub views : TellsViews scene plan.views
  pub rows : RowsAreDirect (program_seen scene.program.now)
  pub blocks : AreBlocksOf final.building.draft.operations.items final.starts.items plan.blocks
  pub nodes : AreNodesOf (made_tie scene final) [] (core_of (program_seen scene.program.now)).phases plan.body

abbrev pub MadeNodesUse : Type 0
MadeNodesUse = (scene : Scene) (final : Made) (plan : PlainPlan) → IsMadeOf scene final plan → AreNodesOf (used_tie (program_seen scene.program.now) plan) [] (core_of (program_seen scene.program.now)).phases plan.body

abbrev pub MadePlansUse : Type 0
MadePlansUse =
    (scene : Scene) (final : Made) (plan : PlainPlan) → IsMadeOf scene final plan → OneNodeEach plan
    → UsesByKeys (program_seen scene.program.now) plan × ProbesByPaths (program_seen scene.program.now) plan
