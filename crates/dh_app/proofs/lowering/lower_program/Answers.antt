-- There is a net that plays the program, and its text is the reply; or there is none.
use Rattle.std.proofs.Common.{inl, inr}
use Rattle.dh_app.proofs.lowering.lower_program.Goals as goal

pub returns-in-Ok : goal.returns-in-Ok
returns-in-Ok c = λ old new only. inr (c.in-Ok.net, (c.in-Ok.ensures, (only, c.net_text-reply.ensures)))

pub returns-in-Err : goal.returns-in-Err
returns-in-Err c = λ old new only. inl (only, c.in-Err.ensures)
