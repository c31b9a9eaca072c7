-- The phases of a program, as they are run, are those by what is known of names in a scene that has its ways.
use Rattle.std.proofs.Common.{◌≡◌, List, [], map, ap, sym, subst}
use Rattle.dh_tree.specs.Seen.{program_seen}
use Rattle.dh_meaning.specs.Core.{CorePhases, Turning}
use Rattle.dh_meaning.specs.CoreOf.{Known, core_of, core_phases}
use Rattle.dh_meaning.specs.Effects.{Block}
use Rattle.dh_meaning.specs.Phases.{of_list, phases_of}
use Rattle.dh_meaning.specs.Ways.{ways_of}
use Rattle.dh_ways.specs.Seen.{led_seen}
use Rattle.dh_sound.specs.Blocks.{StandsIn}
use Rattle.dh_expressions.specs.declared.scenes.Scene.{Scene}
use Rattle.dh_expressions.specs.Evaluated.{known_in}
use Rattle.dh_typed_blocks.proofs.KnownHere.{known_here}

pub core_here : (scene : Scene) → map led_seen scene.ways.now ≡ ways_of (program_seen scene.program.now) → core_phases (known_in scene) (of_list (phases_of (program_seen scene.program.now))) ≡ (core_of (program_seen scene.program.now)).phases
core_here scene ways = ap (λ (k : Known). core_phases k (of_list (phases_of (program_seen scene.program.now)))) (sym (known_here scene ways))

pub run_here : (scene : Scene) → map led_seen scene.ways.now ≡ ways_of (program_seen scene.program.now) → (loops : List Turning) (b : Block)
    → StandsIn [] (core_phases (known_in scene) (of_list (phases_of (program_seen scene.program.now)))) loops b → StandsIn [] (core_of (program_seen scene.program.now)).phases loops b
run_here scene ways loops b h = subst (λ (qs : CorePhases). StandsIn [] qs loops b) (core_here scene ways) h
