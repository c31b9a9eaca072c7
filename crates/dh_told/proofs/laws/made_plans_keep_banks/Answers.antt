use Rattle.dh_told.proofs.MadeBanks.{made_keep_banks}
use Rattle.dh_told.proofs.laws.made_plans_keep_banks.Goals as goal

pub returns : goal.returns
returns c = made_keep_banks
