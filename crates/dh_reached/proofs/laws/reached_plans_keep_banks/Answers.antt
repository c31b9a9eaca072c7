use Rattle.dh_reached.proofs.ReachedPlans.{reached_keep_banks}
use Rattle.dh_reached.proofs.laws.reached_plans_keep_banks.Goals as goal

pub returns : goal.returns
returns c = reached_keep_banks
