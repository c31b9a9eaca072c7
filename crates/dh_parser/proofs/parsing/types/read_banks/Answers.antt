use Rattle.std.proofs.Common.{refl, sym, ap, Some}
use Rattle.dh_parser.proofs.Going.{ok_then, err_then, given, when_true}
use Rattle.dh_parser.proofs.parsing.types.read_banks.Goals as goal

pub returns-in_err-word-clause-answer : goal.returns-in_err-word-clause-answer
returns-in_err-word-clause-answer c =
    rw (given c.from_residual.ensures)
    (when_true _ _ (sym c.if-not-is_next.ensures)
    (err_then _ c.in_err-word.ensures.answer))

pub returns-in_err-number-clause-answer : goal.returns-in_err-number-clause-answer
returns-in_err-number-clause-answer c =
    rw (given c.from_residual-in_err-number.ensures)
    (when_true _ _ (sym c.if-not-is_next.ensures)
    (ok_then _ c.in_ok-word.ensures.answer λ a0 p0.
    err_then _ c.in_err-number.ensures.answer))

pub returns-clause-answer : goal.returns-clause-answer
returns-clause-answer c =
    when_true _ _ (sym c.if-not-is_next.ensures)
    (ok_then _ c.in_ok-word.ensures.answer λ a0 p0.
    ok_then _ c.in_ok-number.ensures.answer λ a1 p1.
    record { holds = ((ap Some p0, p1), refl) })
