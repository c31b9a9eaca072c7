-- The reply is that of the file, or that the program is accepted.
use Rattle.std.proofs.Common.{refl, inl, inr}
use Rattle.dh_tree.specs.Seen.{program_seen}
use Rattle.dh_app.proofs.checking.check_file.Goals as goal

pub returns-in-Ok-clause-comes : goal.returns-in-Ok-clause-comes
returns-in-Ok-clause-comes g c =
    λ engine. let read = c.in-Ok.ensures.read in inr (program_seen c.in-Ok.program, (read.0, (record { read = read.1; idle = refl }, c.ok_reply.ensures)))

pub returns-in-Err-clause-comes : goal.returns-in-Err-clause-comes
returns-in-Err-clause-comes g c = λ engine. inl (c.in-Err.ensures.read, refl)
