-- Phases that stand in those of a program, at any depth, and the loops in which they stand there.
use Rattle.std.specs.Prelude.{List, [], map}
use Rattle.dh_tree.specs.PlainTrees.{Program}
use Rattle.dh_meaning.specs.Core.{Turning}
use Rattle.dh_meaning.specs.CoreOf.{Known}
use Rattle.dh_meaning.specs.Phases.{Located, Phase, Phases, phases_of}
use Rattle.dh_plan.specs.Correspondence.{Round, loops_round}
use Rattle.dh_gathering.specs.PhasesInLoops.{StraightInLoops, StraightOf, StraightsInLoops, TestInLoops, TestOf, TestsInLoops}

-- in these loops its straight phases and its tests are the program's
pub record IsPlacedPhase (known : Known) (p : Program) (round : List Turning) (q : Phase) : Type 0 where
  pub straights : (loops : List Turning) (cs : List Located) → StraightInLoops known round q loops cs → StraightOf known [] (phases_of p) loops cs
  pub tests : (loops : List Turning) (c : Located) → TestInLoops known round q loops c → TestOf known [] (phases_of p) loops c

-- so are those of all
pub record ArePlacedPhases (known : Known) (p : Program) (round : List Turning) (qs : Phases) : Type 0 where
  pub straights : (loops : List Turning) (cs : List Located) → StraightsInLoops known round qs loops cs → StraightOf known [] (phases_of p) loops cs
  pub tests : (loops : List Turning) (c : Located) → TestsInLoops known round qs loops c → TestOf known [] (phases_of p) loops c
