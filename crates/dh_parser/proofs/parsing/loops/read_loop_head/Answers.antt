use Rattle.std.proofs.Common.{refl}
use Rattle.dh_parser.proofs.Going.{ok_then, err_then, given}
use Rattle.dh_parser.proofs.FirstTokens.{same_head}
use Rattle.dh_parser.proofs.HeadForms.{head_by_range}
use Rattle.dh_parser.proofs.parsing.loops.read_loop_head.Goals as goal

pub returns-in_err-place-clause-answer : goal.returns-in_err-place-clause-answer
returns-in_err-place-clause-answer c =
    rw (head_by_range c.args.reader.now.rest.now, given c.from_residual.ensures)
    (err_then _ c.in_err-place.ensures.answer)

pub returns-in_err-skip-clause-answer : goal.returns-in_err-skip-clause-answer
returns-in_err-skip-clause-answer c =
    rw (head_by_range c.args.reader.now.rest.now, given c.from_residual-in_err-skip.ensures)
    (ok_then _ c.in_ok-place.ensures.answer λ a0 p0.
    err_then _ c.in_err-skip.ensures.answer)

pub returns-in_err-skip-2-clause-answer : goal.returns-in_err-skip-2-clause-answer
returns-in_err-skip-2-clause-answer c =
    rw (head_by_range c.args.reader.now.rest.now, given c.from_residual-in_err-skip-2.ensures)
    (ok_then _ c.in_ok-place.ensures.answer λ a0 p0.
    ok_then _ c.in_ok-skip.ensures.answer λ a1 p1.
    err_then _ c.in_err-skip-2.ensures.answer)

pub returns-in_err-iterator-clause-answer : goal.returns-in_err-iterator-clause-answer
returns-in_err-iterator-clause-answer c =
    rw (head_by_range c.args.reader.now.rest.now, given c.from_residual-in_err-iterator.ensures)
    (ok_then _ c.in_ok-place.ensures.answer λ a0 p0.
    ok_then _ c.in_ok-skip.ensures.answer λ a1 p1.
    ok_then _ c.in_ok-skip-2.ensures.answer λ a2 p2.
    err_then _ c.in_err-iterator.ensures.answer)

pub returns-in_err-range-clause-answer : goal.returns-in_err-range-clause-answer
returns-in_err-range-clause-answer c =
    rw (head_by_range c.args.reader.now.rest.now, given c.from_residual-in_err-range.ensures)
    (ok_then _ c.in_ok-place.ensures.answer λ a0 p0.
    ok_then _ c.in_ok-skip.ensures.answer λ a1 p1.
    ok_then _ c.in_ok-skip-2.ensures.answer λ a2 p2.
    ok_then _ c.in_ok-iterator.ensures.answer λ a3 p3.
    err_then _ c.in_err-range.ensures.answer)

pub returns-in_err-factor-clause-answer : goal.returns-in_err-factor-clause-answer
returns-in_err-factor-clause-answer c =
    rw (head_by_range c.args.reader.now.rest.now, given c.from_residual-in_err-factor.ensures)
    (ok_then _ c.in_ok-place.ensures.answer λ a0 p0.
    ok_then _ c.in_ok-skip.ensures.answer λ a1 p1.
    ok_then _ c.in_ok-skip-2.ensures.answer λ a2 p2.
    ok_then _ c.in_ok-iterator.ensures.answer λ a3 p3.
    ok_then _ c.in_ok-range.ensures.answer λ a4 p4.
    err_then _ c.in_err-factor.ensures.answer)

pub returns-clause-answer : goal.returns-clause-answer
returns-clause-answer c =
    rw (head_by_range c.args.reader.now.rest.now)
    (ok_then _ c.in_ok-place.ensures.answer λ a0 p0.
    ok_then _ c.in_ok-skip.ensures.answer λ a1 p1.
    ok_then _ c.in_ok-skip-2.ensures.answer λ a2 p2.
    ok_then _ c.in_ok-iterator.ensures.answer λ a3 p3.
    ok_then _ c.in_ok-range.ensures.answer λ a4 p4.
    ok_then _ c.in_ok-factor.ensures.answer λ a5 p5.
    record { holds = (same_head _ _ p0 p3 p4.declared p4.low p4.high p5, refl) })
