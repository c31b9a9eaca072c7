use Rattle.dh_ways.proofs.HiddenApart.{are_numbered, way_within}
use Rattle.dh_ways.proofs.laws.hidden_variables_are_apart.Goals as goal

pub returns-clause-numbered : goal.returns-clause-numbered
returns-clause-numbered c = are_numbered

pub returns-clause-within : goal.returns-clause-within
returns-clause-within c = way_within
