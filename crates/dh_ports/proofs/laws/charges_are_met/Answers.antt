use Rattle.dh_ports.proofs.MeetingFacts.{found_meeting, meeting_found}
use Rattle.dh_ports.proofs.laws.charges_are_met.Goals as goal

pub returns-clause-found : goal.returns-clause-found
returns-clause-found c = found_meeting

pub returns-clause-met : goal.returns-clause-met
returns-clause-met c = meeting_found
