use Rattle.dh_reached.proofs.BlocksPut.{straight_reaches, test_reaches}
use Rattle.dh_reached.proofs.laws.blocks_use_what_stands.Goals as goal

pub returns-clause-straight : goal.returns-clause-straight
returns-clause-straight c scene around plan count block cs old new made more reads h registers memories keeps = straight_reaches scene around plan count block cs old new made more reads h registers memories keeps

pub returns-clause-tests : goal.returns-clause-tests
returns-clause-tests c scene around plan count block first t old new next tests more reads h registers memories table keeps = test_reaches scene around plan count block first t old new next tests more reads h registers memories table keeps
