use Rattle.std.proofs.Common.{refl, sym}
use Rattle.dh_parser.proofs.Going.{ok_then, err_then, given, when_true}
use Rattle.dh_parser.proofs.parsing.types.read_ports.Goals as goal

pub returns-in_err-braces-clause-answer : goal.returns-in_err-braces-clause-answer
returns-in_err-braces-clause-answer c =
    rw (given c.from_residual.ensures)
    (when_true _ _ (sym c.if-not-is_next.ensures)
    (err_then _ c.in_err-braces.ensures.answer))

pub returns-in_err-number-clause-answer : goal.returns-in_err-number-clause-answer
returns-in_err-number-clause-answer c =
    rw (given c.from_residual-in_err-number.ensures)
    (when_true _ _ (sym c.if-not-is_next.ensures)
    (ok_then _ c.in_ok-braces.ensures.answer λ a0 p0.
    err_then _ c.in_err-number.ensures.answer))

pub returns-in_err-skip-clause-answer : goal.returns-in_err-skip-clause-answer
returns-in_err-skip-clause-answer c =
    rw (given c.from_residual-in_err-skip.ensures)
    (when_true _ _ (sym c.if-not-is_next.ensures)
    (ok_then _ c.in_ok-braces.ensures.answer λ a0 p0.
    ok_then _ c.in_ok-number.ensures.answer λ a1 p1.
    err_then _ c.in_err-skip.ensures.answer))

pub returns-clause-answer : goal.returns-clause-answer
returns-clause-answer c =
    when_true _ _ (sym c.if-not-is_next.ensures)
    (ok_then _ c.in_ok-braces.ensures.answer λ a0 p0.
    ok_then _ c.in_ok-number.ensures.answer λ a1 p1.
    ok_then _ c.in_ok-skip.ensures.answer λ a2 p2.
    record { holds = ((p0, p1), refl) })
