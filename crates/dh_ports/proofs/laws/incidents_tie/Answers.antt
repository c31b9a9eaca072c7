use Rattle.dh_ports.proofs.IncidentTies.{action_ties}
use Rattle.dh_ports.proofs.laws.incidents_tie.Goals as goal

pub returns : goal.returns
returns c = action_ties
