use Rattle.dh_laid.proofs.StoresLaid.{all_stores_form}
use Rattle.dh_laid.proofs.ReducersLaid.{all_reduces_form}
use Rattle.dh_laid.proofs.PathsLaid.{all_assignments_form, all_clearings_form, tests_form}
use Rattle.dh_laid.proofs.laws.paths_are_formed.Goals as goal

pub returns-clause-assigned : goal.returns-clause-assigned
returns-clause-assigned c scene around first entity t count old new next m few within = all_assignments_form scene around first entity t count old new next m few within

pub returns-clause-cleared : goal.returns-clause-cleared
returns-clause-cleared c scene around first entity count old new next m within = all_clearings_form scene around first entity count old new next m within

pub returns-clause-tests : goal.returns-clause-tests
returns-clause-tests c scene around first t count old new next tests few bool within m = tests_form scene around first t count old new next tests few bool within m

pub returns-clause-reduced : goal.returns-clause-reduced
returns-clause-reduced c scene around first entity op t count old new next m few within = all_reduces_form scene around first entity op t count old new next m few within

pub returns-clause-stored : goal.returns-clause-stored
returns-clause-stored c scene around first target t count old new next m few within = all_stores_form scene around first target t count old new next m few within
