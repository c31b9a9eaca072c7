-- A file that can't be opened, and one that is read.
use Rattle.std.proofs.Common.{[], refl}
use Rattle.dh_base.specs.Outside.{Untold}
use Rattle.dh_system.proofs.Readings.{met_ends, untold}
use Rattle.dh_system.proofs.files.RealFiles.read_named.Goals as goal

pub returns-in-Err-clause-answer : goal.returns-in-Err-clause-answer
returns-in-Err-clause-answer g c = met_ends Untold c.args.name.now c.args.limit c.args.self.now c.args.self.now c.met.new.self c.met.result refl c.met.ensures.answer

pub returns-in-Ok-clause-answer : goal.returns-in-Ok-clause-answer
returns-in-Ok-clause-answer g c = untold (g.R.File.Read.remaining c.in-Ok.file) [] c.args.name.now c.args.limit c.args.self.now c.read_open.new.self c.read_open.result c.read_open.ensures.answer
