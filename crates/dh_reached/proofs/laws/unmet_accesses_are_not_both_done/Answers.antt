use Rattle.dh_reached.proofs.NeverMeet.{straight_never, test_never}
use Rattle.dh_reached.proofs.laws.unmet_accesses_are_not_both_done.Goals as goal

pub returns-clause-straight : goal.returns-clause-straight
returns-clause-straight c = straight_never

pub returns-clause-tests : goal.returns-clause-tests
returns-clause-tests c = test_never
