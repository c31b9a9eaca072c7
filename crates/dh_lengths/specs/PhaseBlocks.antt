-- The blocks of a program's phases in text order, and their lengths in clocks.
use Rattle.std.specs.Prelude.{ℕ, List, [], ◌∷◌, ◌++◌, map}
use Rattle.dh_tree.specs.PlainTrees.{Program}
use Rattle.dh_meaning.specs.Core.{CorePhase, straightly, turning, looping, choosing, CorePhases, no_core_phases, phase_and}
use Rattle.dh_meaning.specs.CoreOf.{core_of}
use Rattle.dh_meaning.specs.Effects.{Block, commands, tests}
use Rattle.dh_meaning.specs.Levels.{block_length}
use Rattle.dh_meets.specs.Sharing.{shared}

abbrev mutual
  -- the commands of a straight phase are one block, and a test is one
  pub phase_blocks : CorePhase → List Block
  phase_blocks (straightly cs) = commands cs ∷ []
  phase_blocks (turning loop body) = blocks_in body
  phase_blocks (looping test body) = tests test ∷ blocks_in body
  phase_blocks (choosing test chosen other) = tests test ∷ (blocks_in chosen ++ blocks_in other)

  pub blocks_in : CorePhases → List Block
  blocks_in no_core_phases = []
  blocks_in (phase_and p ps) = phase_blocks p ++ blocks_in ps

-- the length of each
abbrev pub lengths_of : Program → List ℕ
lengths_of p = map (block_length (shared p)) (blocks_in (core_of p).phases)
