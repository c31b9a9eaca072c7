-- Blocks of straight commands that stand along the trace of the program do their phases.
use Rattle.std.proofs.Common.{ℕ, List, [], ◌++◌, refl}
use Rattle.dh_meaning.specs.Phases.{Located}
use Rattle.dh_plan.specs.Correspondence.{Round}
use Rattle.dh_plan.specs.PlainPlans.{PlainPlan}
use Rattle.dh_expressions.specs.declared.scenes.Around.{Around}
use Rattle.dh_expressions.specs.declared.scenes.Scene.{Scene}
use Rattle.dh_commands.specs.declared.buildings.Building.{Building}
use Rattle.dh_blocks.specs.BlockLaws.{MadeBlocksDo, MadeBlocksLay}
use Rattle.dh_blocks.specs.BlockMade.{AreSoundHere, IsBlockMade, IsTop, SharesStand, effect_begun, found_in, step_of_block}
use Rattle.dh_blocks.specs.BlockTraced.{IsTraced}
use Rattle.dh_blocks.proofs.BlockDone.{NamedBy, does_block, laid_behind, sound_all}
use Rattle.dh_blocks.proofs.BlockShares.{block_shares}

module _ (scene : Scene) (around : Around) (plan : PlainPlan) (count block : ℕ) (done folds : List Located) (rounds : List Round) (old new : Building)
    (made : IsBlockMade scene around plan count block (done ++ folds) old new) (top : IsTop rounds around) (sound : AreSoundHere scene around plan rounds done folds) (traced : IsTraced scene done folds) where
  shares_stand : SharesStand scene around plan rounds block (done ++ folds) old new made.each
  shares_stand registers memories variables st =
      block_shares scene (step_of_block plan block registers memories) (found_in scene around plan block (done ++ folds) old new made.each registers memories variables) around plan.table
      (NamedBy scene around plan rounds done) top.spread top.counted
      done folds old new made.each (effect_begun variables) traced (sound_all scene around plan rounds done folds sound) made.rising (λ number. refl)

pub made_blocks_do : (scene : Scene) (around : Around) (plan : PlainPlan) (count block : ℕ) (done folds : List Located) (rounds : List Round) (old new : Building) → MadeBlocksDo scene around plan count block done folds rounds old new
made_blocks_do scene around plan count block done folds rounds old new made holds top sound traced =
    does_block scene around plan count block done folds rounds old new made holds top sound (shares_stand scene around plan count block done folds rounds old new made top sound traced)

pub made_blocks_lay : (scene : Scene) (around : Around) (plan : PlainPlan) (count block : ℕ) (done folds : List Located) (rounds : List Round) (old new : Building) → MadeBlocksLay scene around plan count block done folds rounds old new
made_blocks_lay scene around plan count block done folds rounds old new made holds top sound traced registers variables st =
    laid_behind scene around plan count block done folds rounds old new made holds top sound (shares_stand scene around plan count block done folds rounds old new made top sound traced) registers [] variables st
