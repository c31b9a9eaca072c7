use Rattle.std.proofs.Common.{◌+◌, refl, ap, ◌∙◌}
use Rattle.dh_parser.proofs.Going.{ok_then, err_then, given}
use Rattle.dh_parser.proofs.parsing.commands.read_asked.Goals as goal

pub returns-in_err-place-clause-answer : goal.returns-in_err-place-clause-answer
returns-in_err-place-clause-answer c =
    rw (given c.from_residual.ensures)
    (err_then _ c.in_err-place.ensures.answer)

pub returns-in_err-test-clause-answer : goal.returns-in_err-test-clause-answer
returns-in_err-test-clause-answer c =
    rw (given c.from_residual-in_err-test.ensures)
    (ok_then _ c.in_ok-place.ensures.answer λ p p0.
    err_then _ c.in_err-test.ensures.answer)

pub returns-clause-answer : goal.returns-clause-answer
returns-clause-answer c =
    ok_then _ c.in_ok-place.ensures.answer λ p p0.
    ok_then _ c.in_ok-test.ensures.answer λ t p1.
    record {
      holds = (
        record {
          number = c.begin-id.ensures.id ∙ c.in_ok-place.ensures.commands;
          place = p0;
          test = p1;
          counted = c.in_ok-test.ensures.commands ∙ (c.begin-id.ensures.count ∙ ap (λ n. n + 1) c.in_ok-place.ensures.commands);
        },
        refl,
      );
    }
