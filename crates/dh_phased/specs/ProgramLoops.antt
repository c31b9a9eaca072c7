-- The loops of a program: each counts with an iterator that no other of them has.
use Rattle.std.specs.Prelude.{◌≤◌, [], length}
use Rattle.dh_tree.specs.Resolved.{HasEntities}
use Rattle.dh_tree.specs.Seen.{program_seen}
use Rattle.dh_meaning.specs.CoreOf.{core_of}
use Rattle.dh_expressions.specs.declared.scenes.Scene.{Scene}
use Rattle.dh_blocks.specs.SlotsOfScene.{placing_in}
use Rattle.dh_gathering.specs.LoopCounters.{AreOwnLoops, LoopsCount, loops_of_phases}

-- the loops of these phases are so, inside one another and beside one another
pub record HasOwnLoops (scene : Scene) : Type 0 where
  pub inside : LoopsCount scene (placing_in scene) [] (core_of (program_seen scene.program.now)).phases
  pub own : AreOwnLoops scene (placing_in scene) (loops_of_phases (core_of (program_seen scene.program.now)).phases)

-- so where names have their entities, and the scene holds them all: behind them stand variables that keep offsets
abbrev pub LoopsAreOwn : Type 0
LoopsAreOwn =
    (scene : Scene) → HasEntities (program_seen scene.program.now) → length (program_seen scene.program.now).entities ≤ length scene.held.now → HasOwnLoops scene
