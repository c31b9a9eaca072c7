use Rattle.dh_formed.proofs.TouchedOwn.{touched_own, writes_touch_own}
use Rattle.dh_formed.proofs.laws.accesses_are_own.Goals as goal

pub returns-clause-terms : goal.returns-clause-terms
returns-clause-terms c scene lane current t old new before after n next v m few k out = touched_own scene lane current t old new before after n next v m few k out

pub returns-clause-writes : goal.returns-clause-writes
returns-clause-writes c = writes_touch_own
