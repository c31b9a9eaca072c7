-- The kinds of the registers of a plan.
use Rattle.std.specs.Prelude.{◌≡◌, ℕ, map}
use Rattle.std.specs.List.{AllByRecursion}
use Rattle.dh_value.specs.Words.{IsKind}
use Rattle.dh_tree.specs.PlainTrees.{Action}
use Rattle.dh_tree.specs.Ready.{IsReady}
use Rattle.dh_tree.specs.Seen.{program_seen}
use Rattle.dh_meaning.specs.Ways.{ways_of}
use Rattle.dh_ways.specs.Seen.{led_seen}
use Rattle.dh_expressions.specs.declared.scenes.Scene.{Scene}
use Rattle.dh_gathering.specs.declared.making.Phased.{Phased}
use Rattle.dh_gathering.specs.ProgramMade.{IsPhased}
use Rattle.dh_gathering.specs.Registers.{AreSuccessive}
use Rattle.dh_told.specs.ScenesKnown.{AreHeldInOrder}

-- of what is made of a ready program, whose variables have their registers in order
abbrev pub RegistersAreSized : Type 0
RegistersAreSized =
    (scene : Scene) (count : ℕ) (body : Action) (phased : Phased) → IsReady (program_seen scene.program.now) → AreHeldInOrder scene count → map led_seen scene.ways.now ≡ ways_of (program_seen scene.program.now) → AreSuccessive scene.held.now count → IsPhased scene count body phased
    → AllByRecursion IsKind phased.registers
