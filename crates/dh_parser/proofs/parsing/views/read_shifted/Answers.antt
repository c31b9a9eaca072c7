use Rattle.std.proofs.Common.{refl}
use Rattle.dh_parser.proofs.Going.{ok_then, err_then, given}
use Rattle.dh_parser.proofs.parsing.views.read_shifted.Goals as goal

pub returns-in_err-offsets-clause-answer : goal.returns-in_err-offsets-clause-answer
returns-in_err-offsets-clause-answer c =
    rw (given c.from_residual-in_err-offsets.ensures)
    (ok_then _ c.in_ok-parent.ensures.answer λ a0 s0.
    err_then _ c.in_err-offsets.ensures.answer)

pub returns-clause-answer : goal.returns-clause-answer
returns-clause-answer c =
    ok_then _ c.in_ok-parent.ensures.answer λ parent p0.
    ok_then _ c.in_ok-offsets.ensures.answer λ l p1.
    record { holds = ((p0, p1), refl) }

pub returns-in_err-parent-clause-answer : goal.returns-in_err-parent-clause-answer
returns-in_err-parent-clause-answer c =
    rw (given c.from_residual.ensures)
    (err_then _ c.in_err-parent.ensures.answer)
