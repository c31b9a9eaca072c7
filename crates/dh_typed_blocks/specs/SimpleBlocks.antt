-- That straight commands of a block hold no reducers but those behind them, which join copies.
use Rattle.std.specs.Prelude.{◌⊎◌, List, []}
use Rattle.std.specs.List.{AllByRecursion}
use Rattle.dh_tree.specs.PlainTrees.{Program}
use Rattle.dh_meaning.specs.Core.{Turning}
use Rattle.dh_meaning.specs.CoreOf.{core_of}
use Rattle.dh_meaning.specs.Effects.{Block}
use Rattle.dh_meaning.specs.Phases.{Located}
use Rattle.dh_sound.specs.Blocks.{StandsIn}
use Rattle.dh_sound.specs.BlocksOfPhases.{OfStraight, OfTest}
use Rattle.dh_sound.specs.SimpleForms.{FoldsInJoins}

pub record StraightSimple (p : Program) (loops : List Turning) (block : Block) : Type 0 where
  pub of : OfStraight p loops block
  pub joins : AllByRecursion (λ (c : Located). FoldsInJoins c.command) of.done

abbrev pub BlocksAreSimple : Program → Type 0
BlocksAreSimple p = (loops : List Turning) (block : Block) → StandsIn [] (core_of p).phases loops block → StraightSimple p loops block ⊎ OfTest p loops block
