use Rattle.std.proofs.Common.{rules}
use Rattle.dh_parser.proofs.TermForms.{row_made}
use Rattle.dh_parser.proofs.parsing.expressions.physical.Goals as goal

pub returns : goal.returns
returns c = row_made c.args.of c.args.written _ c.plain.ensures (search rules)
