use Rattle.dh_blocks.proofs.PhasesTraced.{straight_traced, test_traced}
use Rattle.dh_blocks.proofs.laws.programs_tell_blocks.Goals as goal

pub returns-clause-straight : goal.returns-clause-straight
returns-clause-straight c = straight_traced

pub returns-clause-tests : goal.returns-clause-tests
returns-clause-tests c = test_traced
