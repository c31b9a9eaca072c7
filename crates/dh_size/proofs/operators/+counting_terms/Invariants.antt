-- the sum to come of what is left is that of all
use Rattle.std.proofs.Common.{drop}
use Rattle.dh_plan.specs.PlanSizes.{terms_operators}
use Rattle.dh_tree.specs.Seen.{all_terms_seen}
use Rattle.dh_size.proofs.SummedParts.{Left}
use Rattle.dh_size.proofs.operators.+counting_terms.Given as goal

abbrev pub invariant-with_all_operators-loop-index : goal.invariant-with_all_operators-loop-index
invariant-with_all_operators-loop-index l = Left l.next (terms_operators (all_terms_seen (drop l.index-index l.indices))) l.sum (terms_operators (all_terms_seen l.indices))
