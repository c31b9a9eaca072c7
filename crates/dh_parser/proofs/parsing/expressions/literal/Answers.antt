use Rattle.std.proofs.Common.{None, ap, ◌∙◌}
use Rattle.dh_tree.specs.PlainTrees.{term}
use Rattle.dh_tree.proofs.SeenTerms.{number_is}
use Rattle.dh_parser.proofs.parsing.expressions.literal.Goals as goal

pub returns : goal.returns
returns c = c.plain.ensures ∙ ap (λ f. term c.args.place None f) (number_is c.args.negative c.args.value)
