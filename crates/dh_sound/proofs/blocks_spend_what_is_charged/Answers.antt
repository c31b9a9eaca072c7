use Rattle.dh_sound.proofs.AcceptedPrograms.{checked_covered}
use Rattle.dh_sound.proofs.PortsKept.{covered_keep}
use Rattle.dh_sound.proofs.blocks_spend_what_is_charged.Goals as goal

pub returns-clause-covered : goal.returns-clause-covered
returns-clause-covered c = λ p h. checked_covered p h

pub returns-clause-kept : goal.returns-clause-kept
returns-clause-kept c = λ p h k. covered_keep p h k
