use Rattle.dh_used.proofs.PlansUsed.{plans_use}
use Rattle.dh_used.proofs.laws.plans_use_by_keys.Goals as goal

pub returns : goal.returns
returns c p plan named nodes once = plans_use p plan named nodes once
