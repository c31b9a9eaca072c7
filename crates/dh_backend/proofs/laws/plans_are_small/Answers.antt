use Rattle.dh_backend.proofs.FaultsFew.{faults_are_few}
use Rattle.dh_backend.proofs.OneThreads.{plans_are_one_thread}
use Rattle.dh_backend.proofs.ShortBlocks.{blocks_are_short}
use Rattle.dh_backend.proofs.SmallTimes.{times_are_small}
use Rattle.dh_backend.proofs.laws.plans_are_small.Goals as goal

pub returns-clause-blocks : goal.returns-clause-blocks
returns-clause-blocks c plan = blocks_are_short plan

pub returns-clause-times : goal.returns-clause-times
returns-clause-times c plan = times_are_small plan

pub returns-clause-faults : goal.returns-clause-faults
returns-clause-faults c p = faults_are_few p

pub returns-clause-threads : goal.returns-clause-threads
returns-clause-threads c p = plans_are_one_thread p
