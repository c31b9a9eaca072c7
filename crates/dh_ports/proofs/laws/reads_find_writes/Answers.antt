use Rattle.dh_ports.proofs.ReadsBehind.{finds_is, is_found}
use Rattle.dh_ports.proofs.laws.reads_find_writes.Goals as goal

pub returns-clause-found : goal.returns-clause-found
returns-clause-found c = finds_is

pub returns-clause-finds : goal.returns-clause-finds
returns-clause-finds c = is_found
