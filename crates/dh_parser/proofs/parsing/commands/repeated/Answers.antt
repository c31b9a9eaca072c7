use Rattle.std.proofs.Common.{ap}
use Rattle.dh_tree.specs.PlainTrees.{action}
use Rattle.dh_tree.proofs.SeenActions.{while_is}
use Rattle.dh_parser.proofs.parsing.commands.repeated.Goals as goal

pub returns : goal.returns
returns c = ap (λ f. action c.args.asked.id c.args.asked.place f) (while_is c.args.asked.test c.args.body)
