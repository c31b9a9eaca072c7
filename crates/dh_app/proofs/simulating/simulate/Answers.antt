-- The reply is that of the file, or that of its program.
use Rattle.std.proofs.Common.{refl, inl, inr}
use Rattle.dh_tree.specs.Seen.{program_seen}
use Rattle.dh_app.proofs.simulating.simulate.Goals as goal

pub returns-in-Ok-clause-comes : goal.returns-in-Ok-clause-comes
returns-in-Ok-clause-comes g c =
    let read = c.in-Ok.ensures.read in
    inr (program_seen c.in-Ok.accepted, (read.0, c.simulate_program-reply.ensures.comes (g.F.Files.seen c.args.files.now) (record { keeps = c.in-Ok.ensures.files; read = read.1 })))

pub returns-in-Err-clause-comes : goal.returns-in-Err-clause-comes
returns-in-Err-clause-comes g c = inl (c.in-Err.ensures.read, refl)
