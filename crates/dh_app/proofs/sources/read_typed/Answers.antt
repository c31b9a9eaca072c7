-- The bytes that were read come to the verdict that is answered.
use Rattle.std.proofs.Common.{true}
use Rattle.dh_app.specs.Asking.{interpreted}
use Rattle.dh_app.proofs.Reading.{typed_read}
use Rattle.dh_app.proofs.sources.read_typed.Goals as goal

pub returns-clause-read : goal.returns-clause-read
returns-clause-read g c =
    let read = c.in_ok-text.ensures.read in
    typed_read (g.F.Files.seen c.args.files.now) (g.F.Files.seen c.read_file.new.files) (interpreted true) c.args.name.now c.in_ok-text.text.items c.typed_of.result
    read.0 read.1 (rw c.as_slice.ensures.value at c.typed_of.ensures)
