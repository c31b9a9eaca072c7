-- The reply is that of the file, or that of its program.
use Rattle.std.proofs.Common.{refl, inl, inr}
use Rattle.dh_tree.specs.Seen.{program_seen}
use Rattle.dh_app.specs.Inputs.{inputs_of}
use Rattle.dh_app.proofs.lowering.lower.Goals as goal

pub returns-in-Ok-clause-comes : goal.returns-in-Ok-clause-comes
returns-in-Ok-clause-comes g c =
    λ engine.
    let read = c.in-Ok.ensures.read in
    inr (program_seen c.in-Ok.accepted, (read.0, c.lower_program-reply.ensures (inputs_of (g.F.Files.seen c.args.files.now) engine) (inputs_of (g.F.Files.seen c.read_program.new.files) engine) (record { read = read.1; idle = refl })))

pub returns-in-Err-clause-comes : goal.returns-in-Err-clause-comes
returns-in-Err-clause-comes g c = λ engine. inl (c.in-Err.ensures.read, refl)
