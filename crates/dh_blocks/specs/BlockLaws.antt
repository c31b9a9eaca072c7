-- The laws of blocks of straight commands.
use Rattle.std.specs.Prelude.{ℕ, List, ◌++◌}
use Rattle.dh_meaning.specs.CoreOf.{core_commands}
use Rattle.dh_meaning.specs.Effects.{Variables, commands}
use Rattle.dh_meaning.specs.Phases.{Located}
use Rattle.dh_plan.specs.Correspondence.{Round, StandFor}
use Rattle.dh_plan.specs.PlainPlans.{PlainPlan}
use Rattle.dh_plan.specs.PlanPhases.{DoesBlock}
use Rattle.dh_expressions.specs.declared.scenes.Around.{Around}
use Rattle.dh_expressions.specs.declared.scenes.Scene.{Scene}
use Rattle.dh_expressions.specs.Copying.{AreNone}
use Rattle.dh_expressions.specs.Evaluated.{known_in}
use Rattle.dh_commands.specs.declared.buildings.Building.{Building}
use Rattle.dh_blocks.specs.BlockMade.{AreSoundHere, IsBlockMade, IsTop}
use Rattle.dh_blocks.specs.BlockTraced.{IsTraced}
use Rattle.dh_laid.specs.LaidAccesses.{AreLaid}
use Rattle.dh_blocks.specs.SlotsOfScene.{HoldsVariables, slots_in}

-- what was made of sound commands, at the paths inside the loops round them, does their phase
abbrev pub MadeBlocksDo : (scene : Scene) → (around : Around) → PlainPlan → (count block : ℕ) → (done folds : List Located) → List Round → (old new : Building) → Type 0
MadeBlocksDo scene around plan count block done folds rounds old new =
    IsBlockMade scene around plan count block (done ++ folds) old new → HoldsVariables scene plan count → IsTop rounds around → AreSoundHere scene around plan rounds done folds → IsTraced scene done folds
    → DoesBlock plan (slots_in scene) rounds (commands (core_commands (known_in scene) (done ++ folds))) block

-- and the accesses behind it are laid as a later block asks, and none is counted, where there are registers and variables at which it may begin
abbrev pub MadeBlocksLay : (scene : Scene) → (around : Around) → PlainPlan → (count block : ℕ) → (done folds : List Located) → List Round → (old new : Building) → Type 0
MadeBlocksLay scene around plan count block done folds rounds old new =
    IsBlockMade scene around plan count block (done ++ folds) old new → HoldsVariables scene plan count → IsTop rounds around → AreSoundHere scene around plan rounds done folds → IsTraced scene done folds
    → (registers : List ℕ) (variables : Variables) → StandFor plan.registers (slots_in scene) rounds registers variables → AreLaid plan.faults new.accesses × AreNone new.accesses.counts.items
