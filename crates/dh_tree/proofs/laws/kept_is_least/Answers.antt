use Rattle.dh_tree.proofs.FirstBreaches.{none_is_kept, least_is_kept, least_is_one}
use Rattle.dh_tree.proofs.laws.kept_is_least.Goals as goal

pub returns-clause-none : goal.returns-clause-none
returns-clause-none c = none_is_kept

pub returns-clause-least : goal.returns-clause-least
returns-clause-least c = least_is_kept

pub returns-clause-one : goal.returns-clause-one
returns-clause-one c = least_is_one
