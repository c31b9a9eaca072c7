use Rattle.dh_ports.proofs.SitesTold.{tells_phases, tells_loops}
use Rattle.dh_ports.proofs.laws.incidents_tell_sites.Goals as goal

pub returns-clause-phases : goal.returns-clause-phases
returns-clause-phases c = tells_phases

pub returns-clause-loops : goal.returns-clause-loops
returns-clause-loops c = tells_loops
