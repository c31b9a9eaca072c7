-- What is put down for the commands of a block, one after the other, is formed, and the block with it.
use Rattle.std.specs.Prelude.{◌≡◌, ℕ, List}
use Rattle.std.specs.List.{AllByRecursion}
use Rattle.dh_meaning.specs.Phases.{Located}
use Rattle.dh_plan.specs.Correspondence.{Round}
use Rattle.dh_expressions.specs.declared.scenes.Around.{Around}
use Rattle.dh_expressions.specs.declared.scenes.Scene.{Scene}
use Rattle.dh_formed.specs.Formed.{FormedBlock}
use Rattle.dh_commands.specs.declared.buildings.Building.{Building}
use Rattle.dh_laid.specs.BareCommands.{AreRising}
use Rattle.dh_laid.specs.BlockSites.{MadeEach, block_sites}
use Rattle.dh_laid.specs.LaidCommands.{EachFew, EachSuits, FormsCommand}
use Rattle.dh_typed_laid.specs.SuitingBlocks.{FitsBlock, StandsSo}

-- commands one after the other form what they add
abbrev pub EachForms : Type 0
EachForms =
    (scene : Scene) (around : Around) (cs : List Located) (old new : Building) (m : MadeEach scene around cs old new) → EachFew scene around cs old new m
    → FormsCommand scene around old new (λ x. EachSuits x scene around cs old new m)

-- commands whose sites are the block's suit each, and their numbers are few
abbrev pub MadeCommandsSuit : Type 0
MadeCommandsSuit =
    (x : FormedBlock) (scene : Scene) (count : ℕ) (around : Around) (rounds : List Round) (cs : List Located) (old new : Building) (m : MadeEach scene around cs old new)
    → x.sites ≡ block_sites scene around cs old new m → StandsSo x scene count around → AllByRecursion (FitsBlock x scene around rounds) cs → AreRising 0 cs
    → EachFew scene around cs old new m × EachSuits x scene around cs old new m
