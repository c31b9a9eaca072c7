use Rattle.std.proofs.Common.{rules}
use Rattle.dh_parser.proofs.Going.{ok_as, err_as, given}
use Rattle.dh_parser.proofs.TermForms.{cast_made}
use Rattle.dh_parser.proofs.parsing.expressions.read_cast_of.Goals as goal

pub returns-in_err-to-clause-answer : goal.returns-in_err-to-clause-answer
returns-in_err-to-clause-answer c = rw (given c.from_residual.ensures) (err_as c.in_err-to.ensures.answer)

pub returns-clause-answer : goal.returns-clause-answer
returns-clause-answer c =
    ok_as c.in_ok-to.ensures.answer (λ k s. cast_made c.args.opening _ c.in_ok-to.to c.args.inner k.kind c.plain.ensures (search rules) s)
