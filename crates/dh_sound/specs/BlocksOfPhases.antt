-- A block of the core of a program as the block of a phase of the source, and what is to be told of each block.
use Rattle.std.specs.Prelude.{◌≡◌, ◌⊎◌, List, [], ◌∷◌, ◌++◌, length, false}
use Rattle.dh_tree.specs.PlainTrees.{Program}
use Rattle.dh_meaning.specs.Core.{Turning}
use Rattle.dh_meaning.specs.CoreOf.{known_of, core_of, core_commands, core_test}
use Rattle.dh_meaning.specs.Effects.{Variables, Block, commands, tests}
use Rattle.dh_meaning.specs.Levels.{any_assigns}
use Rattle.dh_meaning.specs.OnePhase.{any_makes, test_makes}
use Rattle.dh_meaning.specs.Paths.{paths_in}
use Rattle.dh_meaning.specs.Phases.{Located, phases_of}
use Rattle.dh_meaning.specs.Sites.{Around}
use Rattle.dh_meets.specs.Charges.{loop_factors}
use Rattle.dh_meets.specs.SourceEvents.{trace}
use Rattle.dh_sound.specs.AssignsInside.{AllAssignInside}
use Rattle.dh_sound.specs.Blocks.{factors, paths_inside, StandsIn, AreInTurn}
use Rattle.dh_sound.specs.BlockTold.{IndicesTold}
use Rattle.dh_sound.specs.Deep.{AreDeep}
use Rattle.dh_sound.specs.PhaseFacts.{HasStraight, HasTest}
use Rattle.dh_sound.specs.SimpleForms.{AreFolds}
use Rattle.dh_sound.specs.Trails.{Follows}
use Rattle.dh_sound.specs.ViewTrails.{FollowsViews}

-- A block is that of straight commands, which stand along the trace in its loops, and behind them of reducers that join
-- copies, which make no access.
pub record OfStraight (p : Program) (loops : List Turning) (block : Block) : Type 0 where
  pub done : List Located
  pub folds : List Located
  pub quiet : AreFolds folds
  pub is : block ≡ commands (core_commands (known_of p) (done ++ folds))
  pub has : HasStraight (phases_of p) (done ++ folds)
  pub round : Around
  pub follows : Follows round [] (trace p) done
  pub inside : factors loops ≡ loop_factors round.loops
  pub paths : paths_inside loops ≡ paths_in (loop_factors round.loops)

-- A block is that of the test of a command, which stands along the trace in its loops.
pub record OfTest (p : Program) (loops : List Turning) (block : Block) : Type 0 where
  pub tested : Located
  pub is : block ≡ tests (core_test (known_of p) tested)
  pub has : HasTest (phases_of p) tested
  pub follows : Follows tested.around [] (trace p) (tested ∷ [])
  pub inside : factors loops ≡ loop_factors tested.around.loops
  pub paths : paths_inside loops ≡ paths_in (loop_factors tested.around.loops)

-- What is told of a block of straight commands: what it assigns has a value for each copy and is declared inside, they
-- stand behind their views, and while its loops are in turns, what stands in the indices of its accesses.
pub record StraightTold (p : Program) (loops : List Turning) (block : Block) : Type 0 where
  pub of : OfStraight p loops block
  pub views : FollowsViews p of.round [] (trace p) of.done
  pub inside : AllAssignInside (known_of p) (length (factors loops)) of.done
  pub deep : AreDeep (length (factors loops)) (core_commands (known_of p) of.done)
  pub indices : (v : Variables) → AreInTurn [] loops v → IndicesTold p (λ k. any_makes k of.done) (λ e. any_assigns e (core_commands (known_of p) of.done)) (paths_inside loops) v

-- And of a test, which assigns nothing.
pub record TestTold (p : Program) (loops : List Turning) (block : Block) : Type 0 where
  pub of : OfTest p loops block
  pub indices : (v : Variables) → AreInTurn [] loops v → IndicesTold p (λ k. test_makes k of.tested) (λ e. false) (paths_inside loops) v

-- each block of a program is that of a phase, of which so much is told
abbrev pub TellsBlocks : Program → Type 0
TellsBlocks p = (loops : List Turning) (block : Block) → StandsIn [] (core_of p).phases loops block → StraightTold p loops block ⊎ TestTold p loops block
