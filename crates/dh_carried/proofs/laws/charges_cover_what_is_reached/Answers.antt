use Rattle.dh_carried.proofs.CarriedKeys.{covers}
use Rattle.dh_carried.proofs.laws.charges_cover_what_is_reached.Goals as goal

pub returns : goal.returns
returns c vs cs level leads bank = covers vs cs level leads bank
