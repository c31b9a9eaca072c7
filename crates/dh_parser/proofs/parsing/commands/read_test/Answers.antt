use Rattle.std.proofs.Common.{refl, ap, ◌∙◌}
use Rattle.dh_tree.specs.Seen.{term_seen}
use Rattle.dh_parser.proofs.Going.{ok_then, err_then, given}
use Rattle.dh_parser.proofs.parsing.commands.read_test.Goals as goal

pub returns-in_err-skip-clause-answer : goal.returns-in_err-skip-clause-answer
returns-in_err-skip-clause-answer c =
    rw (given c.from_residual.ensures)
    (err_then _ c.in_err-skip.ensures.answer)

pub returns-in_err-test-clause-answer : goal.returns-in_err-test-clause-answer
returns-in_err-test-clause-answer c =
    rw (given c.from_residual-in_err-test.ensures)
    (ok_then _ c.in_ok-skip.ensures.answer λ a0 p0.
    err_then _ c.in_err-test.ensures.answer)

pub returns-in_err-skip-2-clause-answer : goal.returns-in_err-skip-2-clause-answer
returns-in_err-skip-2-clause-answer c =
    rw (given c.from_residual-in_err-skip-2.ensures)
    (ok_then _ c.in_ok-skip.ensures.answer λ a0 p0.
    ok_then _ c.in_ok-test.ensures.answer λ a1 p1.
    err_then _ c.in_err-skip-2.ensures.answer)

pub returns-clause-answer : goal.returns-clause-answer
returns-clause-answer c =
    ok_then _ c.in_ok-skip.ensures.answer λ a0 p0.
    ok_then _ c.in_ok-test.ensures.answer λ a1 p1.
    ok_then _ c.in_ok-skip-2.ensures.answer λ a2 p2.
    record { holds = (ap term_seen c.in_ok-held.ensures.ok ∙ p1, refl) }
