use Rattle.std.proofs.Common.{refl, ◌∙◌}
use Rattle.dh_parser.proofs.Going.{ok_then, err_then, given}
use Rattle.dh_parser.proofs.ItemLoops.{function_made}
use Rattle.dh_parser.proofs.parsing.programs.read_function.Goals as goal

pub returns-in_err-skip-2-clause-answer : goal.returns-in_err-skip-2-clause-answer
returns-in_err-skip-2-clause-answer c =
    rw (given c.from_residual-in_err-skip-2.ensures)
    (ok_then _ c.in_ok-name.ensures.answer λ a0 p0.
    ok_then _ c.in_ok-skip.ensures.answer λ a1 p1.
    ok_then _ c.in_ok-parameters.ensures.answer λ a2 p2.
    err_then _ c.in_err-skip-2.ensures.answer)

pub returns-in_err-body-clause-answer : goal.returns-in_err-body-clause-answer
returns-in_err-body-clause-answer c =
    rw (given c.from_residual-in_err-body.ensures)
    (ok_then _ c.in_ok-name.ensures.answer λ a0 p0.
    ok_then _ c.in_ok-skip.ensures.answer λ a1 p1.
    ok_then _ c.in_ok-parameters.ensures.answer λ a2 p2.
    ok_then _ c.in_ok-skip-2.ensures.answer λ a3 p3.
    err_then _ c.in_err-body.ensures.answer)

pub returns-clause-answer : goal.returns-clause-answer
returns-clause-answer c =
    ok_then _ c.in_ok-name.ensures.answer λ n p0.
    ok_then _ c.in_ok-skip.ensures.answer λ opener p1.
    ok_then _ c.in_ok-parameters.ensures.answer λ ps p2.
    ok_then _ c.in_ok-skip-2.ensures.answer λ equal p3.
    ok_then _ c.in_ok-body.ensures.answer λ b p4.
    record { holds = (function_made _ c.args.reader.now.commands _ _ c.args.word n opener ps equal b refl p0 p2 (c.in_ok-skip-2.ensures.commands ∙ (c.in_ok-parameters.ensures.commands ∙ (c.in_ok-skip.ensures.commands ∙ c.in_ok-name.ensures.commands))) p4, refl) }

pub returns-in_err-parameters-clause-answer : goal.returns-in_err-parameters-clause-answer
returns-in_err-parameters-clause-answer c =
    rw (given c.from_residual-in_err-parameters.ensures)
    (ok_then _ c.in_ok-name.ensures.answer λ n p0.
    ok_then _ c.in_ok-skip.ensures.answer λ opener p1.
    err_then _ c.in_err-parameters.ensures.answer)

pub returns-in_err-name-clause-answer : goal.returns-in_err-name-clause-answer
returns-in_err-name-clause-answer c =
    rw (given c.from_residual.ensures)
    (err_then _ c.in_err-name.ensures.answer)

pub returns-in_err-skip-clause-answer : goal.returns-in_err-skip-clause-answer
returns-in_err-skip-clause-answer c =
    rw (given c.from_residual-in_err-skip.ensures)
    (ok_then _ c.in_ok-name.ensures.answer λ a0 p0.
    err_then _ c.in_err-skip.ensures.answer)
