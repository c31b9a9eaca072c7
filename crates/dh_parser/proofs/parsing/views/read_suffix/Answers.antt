use Rattle.std.proofs.Common.{refl}
use Rattle.dh_parser.proofs.Going.{ok_then, err_then, given}
use Rattle.dh_parser.proofs.WholeExpressions.{operand_is}
use Rattle.dh_parser.proofs.parsing.views.read_suffix.Goals as goal

pub returns-in_err-skip-3-clause-answer : goal.returns-in_err-skip-3-clause-answer
returns-in_err-skip-3-clause-answer c =
    rw (given c.from_residual-in_err-skip-3.ensures)
    (ok_then _ c.in_ok-skip.ensures.answer λ a0 s0.
    ok_then _ c.in_ok-skip-2.ensures.answer λ a1 s1.
    ok_then _ c.in_ok-factor.ensures.answer λ a2 s2.
    err_then _ c.in_err-skip-3.ensures.answer)

pub returns-in_err-offset-clause-answer : goal.returns-in_err-offset-clause-answer
returns-in_err-offset-clause-answer c =
    rw (given c.from_residual-in_err-offset.ensures)
    (ok_then _ c.in_ok-skip.ensures.answer λ opener p0.
    ok_then _ c.in_ok-skip-2.ensures.answer λ word p1.
    ok_then _ c.in_ok-factor.ensures.answer λ factor p2.
    ok_then _ c.in_ok-skip-3.ensures.answer λ star p3.
    err_then _ (rw (← operand_is _) at c.in_err-offset.ensures.answer))

pub returns-in_err-skip-4-clause-answer : goal.returns-in_err-skip-4-clause-answer
returns-in_err-skip-4-clause-answer c =
    rw (given c.from_residual-in_err-skip-4.ensures)
    (ok_then _ c.in_ok-skip.ensures.answer λ opener p0.
    ok_then _ c.in_ok-skip-2.ensures.answer λ word p1.
    ok_then _ c.in_ok-factor.ensures.answer λ factor p2.
    ok_then _ c.in_ok-skip-3.ensures.answer λ star p3.
    ok_then _ (rw (← operand_is _) at c.in_ok-offset.ensures.answer) λ offset p4.
    err_then _ c.in_err-skip-4.ensures.answer)

pub returns-clause-answer : goal.returns-clause-answer
returns-clause-answer c =
    ok_then _ c.in_ok-skip.ensures.answer λ opener p0.
    ok_then _ c.in_ok-skip-2.ensures.answer λ word p1.
    ok_then _ c.in_ok-factor.ensures.answer λ factor p2.
    ok_then _ c.in_ok-skip-3.ensures.answer λ star p3.
    ok_then _ (rw (← operand_is _) at c.in_ok-offset.ensures.answer) λ offset p4.
    ok_then _ c.in_ok-skip-4.ensures.answer λ closer p5.
    record { holds = ((p2, p4), refl) }

pub returns-in_err-skip-clause-answer : goal.returns-in_err-skip-clause-answer
returns-in_err-skip-clause-answer c =
    rw (given c.from_residual.ensures)
    (err_then _ c.in_err-skip.ensures.answer)

pub returns-in_err-skip-2-clause-answer : goal.returns-in_err-skip-2-clause-answer
returns-in_err-skip-2-clause-answer c =
    rw (given c.from_residual-in_err-skip-2.ensures)
    (ok_then _ c.in_ok-skip.ensures.answer λ a0 p0.
    err_then _ c.in_err-skip-2.ensures.answer)

pub returns-in_err-factor-clause-answer : goal.returns-in_err-factor-clause-answer
returns-in_err-factor-clause-answer c =
    rw (given c.from_residual-in_err-factor.ensures)
    (ok_then _ c.in_ok-skip.ensures.answer λ a0 p0.
    ok_then _ c.in_ok-skip-2.ensures.answer λ a1 p1.
    err_then _ c.in_err-factor.ensures.answer)
