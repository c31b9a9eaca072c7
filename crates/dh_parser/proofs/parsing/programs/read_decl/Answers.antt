use Rattle.std.proofs.Common.{refl}
use Rattle.dh_parser.proofs.Going.{ok_then, err_then, given}
use Rattle.dh_parser.proofs.ItemLoops.{decl_made}
use Rattle.dh_parser.proofs.parsing.programs.read_decl.Goals as goal

pub returns-in_err-skip-2-clause-answer : goal.returns-in_err-skip-2-clause-answer
returns-in_err-skip-2-clause-answer c = λ word.
    rw (given c.from_residual-in_err-skip-2.ensures)
    (ok_then _ c.in_ok-name.ensures.answer λ n p0.
    ok_then _ c.in_ok-skip.ensures.answer λ colon p1.
    ok_then _ c.in_ok-written.ensures.answer λ t p2.
    err_then _ c.in_err-skip-2.ensures.answer)

pub returns-clause-answer : goal.returns-clause-answer
returns-clause-answer c = λ word.
    ok_then _ c.in_ok-name.ensures.answer λ n p0.
    ok_then _ c.in_ok-skip.ensures.answer λ colon p1.
    ok_then _ c.in_ok-written.ensures.answer λ t p2.
    ok_then _ c.in_ok-skip-2.ensures.answer λ semicolon p3.
    record { holds = (decl_made _ c.in_ok-written.written word n colon t semicolon p0 p2 refl refl, refl) }

pub returns-in_err-written-clause-answer : goal.returns-in_err-written-clause-answer
returns-in_err-written-clause-answer c = λ word.
    rw (given c.from_residual-in_err-written.ensures)
    (ok_then _ c.in_ok-name.ensures.answer λ n p0.
    ok_then _ c.in_ok-skip.ensures.answer λ colon p1.
    err_then _ c.in_err-written.ensures.answer)

pub returns-in_err-name-clause-answer : goal.returns-in_err-name-clause-answer
returns-in_err-name-clause-answer c = λ word.
    rw (given c.from_residual.ensures)
    (err_then _ c.in_err-name.ensures.answer)

pub returns-in_err-skip-clause-answer : goal.returns-in_err-skip-clause-answer
returns-in_err-skip-clause-answer c = λ word.
    rw (given c.from_residual-in_err-skip.ensures)
    (ok_then _ c.in_ok-name.ensures.answer λ a0 p0.
    err_then _ c.in_err-skip.ensures.answer)
