use Rattle.std.proofs.Common.{refl}
use Rattle.dh_parser.proofs.Going.{ok_then, err_then, given}
use Rattle.dh_parser.proofs.parsing.expressions.read_bank.Goals as goal

pub returns-in_err-skip-clause-answer : goal.returns-in_err-skip-clause-answer
returns-in_err-skip-clause-answer c =
    rw (given c.from_residual.ensures)
    (err_then _ c.in_err-skip.ensures.answer)

pub returns-in_err-bank-clause-answer : goal.returns-in_err-bank-clause-answer
returns-in_err-bank-clause-answer c =
    rw (given c.from_residual-in_err-bank.ensures)
    (ok_then _ c.in_ok-skip.ensures.answer λ a0 p0.
    err_then _ c.in_err-bank.ensures.answer)

pub returns-in_err-skip-2-clause-answer : goal.returns-in_err-skip-2-clause-answer
returns-in_err-skip-2-clause-answer c =
    rw (given c.from_residual-in_err-skip-2.ensures)
    (ok_then _ c.in_ok-skip.ensures.answer λ a0 p0.
    ok_then _ c.in_ok-bank.ensures.answer λ a1 p1.
    err_then _ c.in_err-skip-2.ensures.answer)

pub returns-clause-answer : goal.returns-clause-answer
returns-clause-answer c =
    ok_then _ c.in_ok-skip.ensures.answer λ a0 p0.
    ok_then _ c.in_ok-bank.ensures.answer λ a1 p1.
    ok_then _ c.in_ok-skip-2.ensures.answer λ a2 p2.
    record { holds = (p1, refl) }
