use Rattle.std.proofs.Common.{refl, sym}
use Rattle.dh_parser.proofs.Going.{ok_then, err_then, given, when_true, when_false}
use Rattle.dh_parser.proofs.ActionForms.{value_seen, let_seen}
use Rattle.dh_parser.proofs.parsing.simple.read_let.Goals as goal

pub returns-then-not-is_next-clause-answer : goal.returns-then-not-is_next-clause-answer
returns-then-not-is_next-clause-answer c = λ word.
    ok_then _ c.in_ok-name.ensures.answer λ n p0.
    when_false _ _ (sym c.if-not-is_next.ensures)
    (ok_then _ c.in_ok-skip.ensures.answer λ equal p1.
    ok_then _ c.in_ok-value.ensures.answer λ t p2.
    record { holds = ((value_seen _ _ _ word equal n t c.in_ok-held.ensures.ok p0 p2, refl), refl) })

pub returns-in_err-written-clause-answer : goal.returns-in_err-written-clause-answer
returns-in_err-written-clause-answer c = λ word.
    rw (given c.from_residual-in_err-written.ensures)
    (ok_then _ c.in_ok-name.ensures.answer λ n p0.
    when_true _ _ (sym c.if-not-is_next.ensures)
    (ok_then _ c.in_ok-skip-2.ensures.answer λ colon p1.
    err_then _ c.in_err-written.ensures.answer))

pub returns-in_err-value-2-clause-answer : goal.returns-in_err-value-2-clause-answer
returns-in_err-value-2-clause-answer c = λ word.
    rw (given c.from_residual-in_err-value-2.ensures)
    (ok_then _ c.in_ok-name.ensures.answer λ n p0.
    when_true _ _ (sym c.if-not-is_next.ensures)
    (ok_then _ c.in_ok-skip-2.ensures.answer λ colon p1.
    ok_then _ c.in_ok-written.ensures.answer λ t p2.
    err_then _ c.in_err-value-2.ensures.answer))

pub returns-clause-answer : goal.returns-clause-answer
returns-clause-answer c = λ word.
    ok_then _ c.in_ok-name.ensures.answer λ n p0.
    when_true _ _ (sym c.if-not-is_next.ensures)
    (ok_then _ c.in_ok-skip-2.ensures.answer λ colon p1.
    ok_then _ c.in_ok-written.ensures.answer λ t p2.
    ok_then _ c.in_ok-value-2.ensures.answer λ v p3.
    record { holds = ((let_seen _ c.in_ok-written.written _ n t v c.in_ok-form.ensures p0 p2 p3, refl), refl) })

pub returns-in_err-name-clause-answer : goal.returns-in_err-name-clause-answer
returns-in_err-name-clause-answer c = λ word.
    rw (given c.from_residual.ensures)
    (err_then _ c.in_err-name.ensures.answer)
