use Rattle.dh_told.proofs.EntitiesKnown.{scenes_tell}
use Rattle.dh_told.proofs.VariablesKept.{scenes_hold}
use Rattle.dh_told.proofs.laws.ready_scenes_are_known.Goals as goal

pub returns-clause-tells : goal.returns-clause-tells
returns-clause-tells c scene count ready order ways = scenes_tell scene count ready order ways

pub returns-clause-holds : goal.returns-clause-holds
returns-clause-holds c scene plan count ready order views scopes table kinds = scenes_hold scene plan count ready order views scopes table kinds
