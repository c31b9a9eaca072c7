use Rattle.dh_ports.proofs.ClaimFacts.{takes_charge}
use Rattle.dh_ports.proofs.laws.claims_are_charges.Goals as goal

pub returns : goal.returns
returns c = λ p flags event k a table memory number bank is_memory there stands told. takes_charge p flags event k memory number bank a is_memory there stands told
