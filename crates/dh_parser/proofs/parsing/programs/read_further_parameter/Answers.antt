use Rattle.std.proofs.Common.{refl}
use Rattle.dh_parser.proofs.Going.{ok_then, err_then, given}
use Rattle.dh_parser.proofs.parsing.programs.read_further_parameter.Goals as goal

pub returns-in_err-parameter-clause-answer : goal.returns-in_err-parameter-clause-answer
returns-in_err-parameter-clause-answer c =
    rw (given c.from_residual-in_err-parameter.ensures)
    (ok_then _ c.in_ok-skip.ensures.answer λ comma p0.
    err_then _ c.in_err-parameter.ensures.answer)

pub returns-clause-answer : goal.returns-clause-answer
returns-clause-answer c =
    ok_then _ c.in_ok-skip.ensures.answer λ comma p0.
    ok_then _ c.in_ok-parameter.ensures.answer λ p p1.
    record { holds = (p1, refl) }

pub returns-in_err-skip-clause-answer : goal.returns-in_err-skip-clause-answer
returns-in_err-skip-clause-answer c =
    rw (given c.from_residual.ensures)
    (err_then _ c.in_err-skip.ensures.answer)
