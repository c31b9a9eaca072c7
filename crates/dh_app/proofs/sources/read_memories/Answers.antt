-- The bytes that were read hold the memories that are answered, or have the fault.
use Rattle.dh_app.proofs.Reading.{data_read}
use Rattle.dh_app.proofs.sources.read_memories.Goals as goal

pub returns-clause-read : goal.returns-clause-read
returns-clause-read g c =
    λ first begun.
    let read = c.in_ok-bytes.ensures.read in
    data_read first (g.F.Files.seen c.args.files.now) (g.F.Files.seen c.read_file.new.files) c.args.name.now c.in_ok-bytes.bytes.items c.args.table.now c.memories_of.result
    begun read.0 read.1 (rw c.as_slice.ensures.value at c.memories_of.ensures)
