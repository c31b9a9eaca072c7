use Rattle.dh_cells.proofs.WireTrees.{first_none}
use Rattle.dh_cells.proofs.trees.push_none.Goals as goal

pub returns : goal.returns
returns c = first_none _ _ _ c.args.width c.in_ok-test.test c.in_ok-value.value c.in_ok-test.ensures c.in_ok-value.ensures
