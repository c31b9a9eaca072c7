use Rattle.dh_reached.proofs.StepsOfNodes as steps
use Rattle.dh_reached.proofs.laws.nodes_keep_banks.Goals as goal

pub returns : goal.returns
returns c = steps.nodes_keep_banks
