use Rattle.dh_told.proofs.NodesMultiply.{made_plans_multiply}
use Rattle.dh_told.proofs.laws.made_plans_multiply.Goals as goal

pub returns : goal.returns
returns c scene final plan is = made_plans_multiply scene final plan is
