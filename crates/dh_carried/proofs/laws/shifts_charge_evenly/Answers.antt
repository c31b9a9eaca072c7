use Rattle.dh_carried.proofs.CarriedKeys.{evenly}
use Rattle.dh_carried.proofs.laws.shifts_charge_evenly.Goals as goal

pub returns : goal.returns
returns c vs charge bank other has = evenly vs charge bank other has
