use Rattle.dh_sound.proofs.Opposite.{apart_opposite}
use Rattle.dh_sound.proofs.TestsMeet.{test_together}
use Rattle.dh_sound.proofs.unmet_accesses_stand_opposite.Goals as goal

pub returns-clause-straight : goal.returns-clause-straight
returns-clause-straight c = λ p. apart_opposite p

pub returns-clause-tests : goal.returns-clause-tests
returns-clause-tests c = λ p. test_together p
