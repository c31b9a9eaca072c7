use Rattle.dh_tree.proofs.SeenTerms.{access_is}
use Rattle.dh_tree.proofs.SeenActions.{block_is}
use Rattle.dh_tree.proofs.laws.lists_are_seen_in_order.Goals as goal

pub returns-clause-indices : goal.returns-clause-indices
returns-clause-indices c = access_is

pub returns-clause-parts : goal.returns-clause-parts
returns-clause-parts c = block_is
