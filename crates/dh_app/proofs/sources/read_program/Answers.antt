-- The bytes that were read come to the verdict that is answered.
use Rattle.std.proofs.Common.{true}
use Rattle.dh_app.proofs.Reading.{program_read}
use Rattle.dh_app.proofs.sources.read_program.Goals as goal

pub returns-clause-read : goal.returns-clause-read
returns-clause-read g c =
    let read = c.in_ok-text.ensures.read in
    program_read (g.F.Files.seen c.args.files.now) (g.F.Files.seen c.read_file.new.files) true c.args.name.now c.in_ok-text.text.items c.program_of.result
    read.0 read.1 (rw c.as_slice.ensures.value at c.program_of.ensures.program)
