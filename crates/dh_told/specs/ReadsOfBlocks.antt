-- Which numbers are those of reads that a block makes.
use Rattle.std.specs.Prelude.{ℕ, ◌&&◌, not, Bool, false, slice_get, Option, Some, None}
use Rattle.dh_tree.specs.Seen.{program_seen}
use Rattle.dh_meets.specs.SourceEvents.{SourceAccess, accesses_in, trace}
use Rattle.dh_expressions.specs.declared.scenes.Scene.{Scene}

abbrev pub is_read_of : Option SourceAccess → Bool
is_read_of None = false
is_read_of (Some a) = not a.writes

-- it is made, and reads
abbrev pub reads_in : Scene → (makes : ℕ → Bool) → (number : ℕ) → Bool
reads_in scene makes number = makes number && is_read_of (slice_get (accesses_in (trace (program_seen scene.program.now))) number)
