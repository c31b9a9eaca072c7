use Rattle.dh_net.proofs.Valuations.{has_one_valuation, has_one_run, wires_fit}
use Rattle.dh_net.proofs.laws.valuation_is_unique.Goals as goal

pub returns : goal.returns
returns c net valid = record { one_valuation = has_one_valuation net valid; one_run = has_one_run net valid; fits = wires_fit net valid }
