-- What is known of the names of a program is what is known of them in a scene that has its ways.
use Rattle.std.proofs.Common.{◌≡◌, List, map, ap, sym}
use Rattle.dh_tree.specs.Memories.{memories_of}
use Rattle.dh_tree.specs.PlainTrees.{Program}
use Rattle.dh_tree.specs.Seen.{program_seen}
use Rattle.dh_meaning.specs.CoreOf.{Known, known_of}
use Rattle.dh_meaning.specs.Ways.{Led, all_bindings_of, ways_of}
use Rattle.dh_ways.specs.Seen.{led_seen}
use Rattle.dh_expressions.specs.declared.scenes.Scene.{Scene}
use Rattle.dh_expressions.specs.Evaluated.{known_in}

abbrev known_by : Program → List Led → Known
known_by p ls = record { memories = memories_of p; bindings = all_bindings_of p; ways = ls }

pub known_here : (scene : Scene) → map led_seen scene.ways.now ≡ ways_of (program_seen scene.program.now) → known_of (program_seen scene.program.now) ≡ known_in scene
known_here scene ways = ap (λ (ls : List Led). known_by (program_seen scene.program.now) ls) (sym ways)
