-- The paths of a block are all those inside the loops round it.
use Rattle.std.specs.Prelude.{List}
use Rattle.dh_plan.specs.Correspondence.{Round}
use Rattle.dh_expressions.specs.declared.scenes.Around.{Around}
use Rattle.dh_expressions.specs.declared.scenes.Scene.{Scene}
use Rattle.dh_laid.specs.LaidQuiet.{BlockStandsIn}
use Rattle.dh_blocks.specs.BlockMade.{IsTop}
use Rattle.dh_gathering.specs.MadeBlocks.{IsRoundBlock}

abbrev pub RoundsAreTop : Type 0
RoundsAreTop = (scene : Scene) (rounds : List Round) (around : Around) → IsRoundBlock rounds around → BlockStandsIn scene around → IsTop rounds around
