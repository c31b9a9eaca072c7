use Rattle.dh_tree.proofs.LargestSums.{load_is_largest, upto_is_largest}
use Rattle.dh_tree.proofs.loads.loads_are_largest_sums.Goals as goal

pub returns-clause-whole : goal.returns-clause-whole
returns-clause-whole c = load_is_largest

pub returns-clause-upto_one : goal.returns-clause-upto_one
returns-clause-upto_one c = upto_is_largest
