use Rattle.dh_names.proofs.AgainPrograms.{breaches_again, resolved_again}
use Rattle.dh_names.proofs.laws.resolved_programs_stay_so.Goals as goal

pub returns-clause-entities : goal.returns-clause-entities
returns-clause-entities c p = resolved_again p

pub returns-clause-breaches : goal.returns-clause-breaches
returns-clause-breaches c p = breaches_again p
