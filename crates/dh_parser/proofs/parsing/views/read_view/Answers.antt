use Rattle.std.proofs.Common.{refl}
use Rattle.dh_parser.proofs.Going.{ok_then, err_then, given}
use Rattle.dh_parser.proofs.ActionForms.{view_seen}
use Rattle.dh_parser.proofs.parsing.views.read_view.Goals as goal

pub returns-in_err-parent-clause-answer : goal.returns-in_err-parent-clause-answer
returns-in_err-parent-clause-answer c = λ word.
    rw (given c.from_residual-in_err-parent.ensures)
    (ok_then _ c.in_ok-name.ensures.answer λ n p0.
    ok_then _ c.in_ok-skip.ensures.answer λ equal p1.
    err_then _ c.in_err-parent.ensures.answer)

pub returns-clause-answer : goal.returns-clause-answer
returns-clause-answer c = λ word.
    ok_then _ c.in_ok-name.ensures.answer λ n p0.
    ok_then _ c.in_ok-skip.ensures.answer λ equal p1.
    ok_then _ c.in_ok-parent.ensures.answer λ v p2.
    record { holds = ((view_seen _ _ _ _ _ _ word equal n v c.in_ok-view.ensures.ok c.in_ok-shown.ensures.ok c.in_ok-plan.ensures.ok p0 p2, refl), refl) }

pub returns-in_err-name-clause-answer : goal.returns-in_err-name-clause-answer
returns-in_err-name-clause-answer c = λ word.
    rw (given c.from_residual.ensures)
    (err_then _ c.in_err-name.ensures.answer)

pub returns-in_err-skip-clause-answer : goal.returns-in_err-skip-clause-answer
returns-in_err-skip-clause-answer c = λ word.
    rw (given c.from_residual-in_err-skip.ensures)
    (ok_then _ c.in_ok-name.ensures.answer λ a0 p0.
    err_then _ c.in_err-skip.ensures.answer)
