use Rattle.std.proofs.Common.{refl}
use Rattle.dh_parser.proofs.Going.{ok_then, err_then, given}
use Rattle.dh_parser.proofs.parsing.expressions.read_argument.Goals as goal

pub returns-in_err-skip-clause-answer : goal.returns-in_err-skip-clause-answer
returns-in_err-skip-clause-answer c =
    rw (given c.from_residual.ensures)
    (err_then _ c.in_err-skip.ensures.answer)

pub returns-in_err-argument-clause-answer : goal.returns-in_err-argument-clause-answer
returns-in_err-argument-clause-answer c =
    rw (given c.from_residual-in_err-argument.ensures)
    (ok_then _ c.in_ok-skip.ensures.answer λ a0 p0.
    err_then _ c.in_err-argument.ensures.answer)

pub returns-clause-answer : goal.returns-clause-answer
returns-clause-answer c =
    ok_then _ c.in_ok-skip.ensures.answer λ a0 p0.
    ok_then _ c.in_ok-argument.ensures.answer λ a1 p1.
    record { holds = (p1, refl) }
