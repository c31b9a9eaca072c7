-- What is a memory has no way, in any program.
use Rattle.std.proofs.Common.{◌≡◌, ℕ, Option, Some, None, ap}
use Rattle.dh_tree.specs.Memories.{Memory, memories_of, memory_in}
use Rattle.dh_tree.specs.PlainTrees.{Program}
use Rattle.dh_meaning.specs.Ways.{way_in, way_to, way_unless, ways_of}

pub memory_unled : (p : Program) (entity : Option ℕ) (m : Memory) → memory_in (memories_of p) entity ≡ Some m → way_to p entity ≡ None
memory_unled p entity m e = ap (λ o. way_unless o (way_in (ways_of p) entity)) e
