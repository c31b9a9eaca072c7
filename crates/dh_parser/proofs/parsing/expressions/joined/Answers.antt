use Rattle.std.proofs.Common.{rules}
use Rattle.dh_parser.proofs.TermForms.{joined_seen}
use Rattle.dh_parser.proofs.parsing.expressions.joined.Goals as goal

pub returns : goal.returns
returns c = joined_seen c.args.op _ _ c.args.left c.args.right c.plain.ensures (search rules) (search rules)
