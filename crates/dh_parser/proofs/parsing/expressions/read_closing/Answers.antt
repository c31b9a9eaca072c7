use Rattle.std.proofs.Common.{refl}
use Rattle.dh_parser.proofs.Going.{ok_as, err_as, given}
use Rattle.dh_parser.proofs.parsing.expressions.read_closing.Goals as goal

pub returns-in_err-skip-clause-answer : goal.returns-in_err-skip-clause-answer
returns-in_err-skip-clause-answer c = rw (given c.from_residual.ensures) (err_as c.in_err-skip.ensures.answer)

pub returns-clause-answer : goal.returns-clause-answer
returns-clause-answer c = ok_as c.in_ok-skip.ensures.answer (λ p s. refl)
