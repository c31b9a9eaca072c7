use Rattle.std.proofs.Common.{None, ap, ◌∙◌}
use Rattle.dh_tree.specs.PlainTrees.{term}
use Rattle.dh_tree.proofs.SeenTerms.{truth_is}
use Rattle.dh_parser.proofs.parsing.expressions.truth.Goals as goal

pub returns : goal.returns
returns c = c.plain.ensures ∙ ap (λ f. term c.args.place None f) (truth_is c.args.value)
