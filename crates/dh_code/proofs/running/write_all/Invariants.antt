use Rattle.std.proofs.Common.{◌≡◌, drop}
use Rattle.dh_code.specs.Rows.{contents_of}
use Rattle.dh_code.specs.States.{memories_written}
use Rattle.dh_code.proofs.running.write_all.Given as goal

abbrev pub invariant-loop-write : goal.invariant-loop-write
invariant-loop-write l = memories_written (drop l.write-index l.writes) (contents_of l.memories.items) ≡ memories_written l.writes (contents_of l.fn.memories.items)
