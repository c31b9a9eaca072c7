use Rattle.dh_data.proofs.OneMeaning.{one_meaning}
use Rattle.dh_data.proofs.laws.bytes_mean_one_thing.Goals as goal

pub returns : goal.returns
returns c = one_meaning
