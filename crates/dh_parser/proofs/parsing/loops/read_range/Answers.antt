use Rattle.std.proofs.Common.{refl}
use Rattle.dh_parser.proofs.Going.{ok_then, err_then, given}
use Rattle.dh_parser.proofs.parsing.loops.read_range.Goals as goal

pub returns-in_err-declared-clause-answer : goal.returns-in_err-declared-clause-answer
returns-in_err-declared-clause-answer c =
    rw (given c.from_residual.ensures)
    (err_then _ c.in_err-declared.ensures.answer)

pub returns-in_err-skip-clause-answer : goal.returns-in_err-skip-clause-answer
returns-in_err-skip-clause-answer c =
    rw (given c.from_residual-in_err-skip.ensures)
    (ok_then _ c.in_ok-declared.ensures.answer λ a0 p0.
    err_then _ c.in_err-skip.ensures.answer)

pub returns-in_err-low-clause-answer : goal.returns-in_err-low-clause-answer
returns-in_err-low-clause-answer c =
    rw (given c.from_residual-in_err-low.ensures)
    (ok_then _ c.in_ok-declared.ensures.answer λ a0 p0.
    ok_then _ c.in_ok-skip.ensures.answer λ a1 p1.
    err_then _ c.in_err-low.ensures.answer)

pub returns-in_err-skip-2-clause-answer : goal.returns-in_err-skip-2-clause-answer
returns-in_err-skip-2-clause-answer c =
    rw (given c.from_residual-in_err-skip-2.ensures)
    (ok_then _ c.in_ok-declared.ensures.answer λ a0 p0.
    ok_then _ c.in_ok-skip.ensures.answer λ a1 p1.
    ok_then _ c.in_ok-low.ensures.answer λ a2 p2.
    err_then _ c.in_err-skip-2.ensures.answer)

pub returns-in_err-high-clause-answer : goal.returns-in_err-high-clause-answer
returns-in_err-high-clause-answer c =
    rw (given c.from_residual-in_err-high.ensures)
    (ok_then _ c.in_ok-declared.ensures.answer λ a0 p0.
    ok_then _ c.in_ok-skip.ensures.answer λ a1 p1.
    ok_then _ c.in_ok-low.ensures.answer λ a2 p2.
    ok_then _ c.in_ok-skip-2.ensures.answer λ a3 p3.
    err_then _ c.in_err-high.ensures.answer)

pub returns-in_err-skip-3-clause-answer : goal.returns-in_err-skip-3-clause-answer
returns-in_err-skip-3-clause-answer c =
    rw (given c.from_residual-in_err-skip-3.ensures)
    (ok_then _ c.in_ok-declared.ensures.answer λ a0 p0.
    ok_then _ c.in_ok-skip.ensures.answer λ a1 p1.
    ok_then _ c.in_ok-low.ensures.answer λ a2 p2.
    ok_then _ c.in_ok-skip-2.ensures.answer λ a3 p3.
    ok_then _ c.in_ok-high.ensures.answer λ a4 p4.
    err_then _ c.in_err-skip-3.ensures.answer)

pub returns-clause-answer : goal.returns-clause-answer
returns-clause-answer c =
    ok_then _ c.in_ok-declared.ensures.answer λ a0 p0.
    ok_then _ c.in_ok-skip.ensures.answer λ a1 p1.
    ok_then _ c.in_ok-low.ensures.answer λ a2 p2.
    ok_then _ c.in_ok-skip-2.ensures.answer λ a3 p3.
    ok_then _ c.in_ok-high.ensures.answer λ a4 p4.
    ok_then _ c.in_ok-skip-3.ensures.answer λ a5 p5.
    record { holds = (record { declared = p0; low = p2; high = p4 }, refl) }
