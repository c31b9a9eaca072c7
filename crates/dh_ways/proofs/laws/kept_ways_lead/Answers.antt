use Rattle.dh_ways.proofs.WaysLead.{ways_lead}
use Rattle.dh_ways.proofs.laws.kept_ways_lead.Goals as goal

pub returns : goal.returns
returns c = ways_lead
