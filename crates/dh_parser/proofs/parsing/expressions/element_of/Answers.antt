use Rattle.dh_parser.proofs.TermForms.{element_made}
use Rattle.dh_parser.proofs.parsing.expressions.element_of.Goals as goal

pub returns-in-Ok : goal.returns-in-Ok
returns-in-Ok c = rw c.in-Ok.is (record { holds = element_made c.args.of c.in-Ok.indices c.plain.ensures })
