use Rattle.std.proofs.Common.{refl}
use Rattle.dh_parser.proofs.Going.{ok_then, err_then, given}
use Rattle.dh_parser.proofs.parsing.programs.read_parameter.Goals as goal

pub returns-clause-answer : goal.returns-clause-answer
returns-clause-answer c =
    ok_then _ c.in_ok-name.ensures.answer λ n p0.
    ok_then _ c.in_ok-skip.ensures.answer λ colon p1.
    ok_then _ c.in_ok-written.ensures.answer λ t p2.
    record { holds = (c.parameter_of.ensures n colon t p0 p2, refl) }

pub returns-in_err-written-clause-answer : goal.returns-in_err-written-clause-answer
returns-in_err-written-clause-answer c =
    rw (given c.from_residual-in_err-written.ensures)
    (ok_then _ c.in_ok-name.ensures.answer λ n p0.
    ok_then _ c.in_ok-skip.ensures.answer λ colon p1.
    err_then _ c.in_err-written.ensures.answer)

pub returns-in_err-name-clause-answer : goal.returns-in_err-name-clause-answer
returns-in_err-name-clause-answer c =
    rw (given c.from_residual.ensures)
    (err_then _ c.in_err-name.ensures.answer)

pub returns-in_err-skip-clause-answer : goal.returns-in_err-skip-clause-answer
returns-in_err-skip-clause-answer c =
    rw (given c.from_residual-in_err-skip.ensures)
    (ok_then _ c.in_ok-name.ensures.answer λ a0 p0.
    err_then _ c.in_err-skip.ensures.answer)
