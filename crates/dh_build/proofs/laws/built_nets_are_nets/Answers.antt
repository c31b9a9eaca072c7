use Rattle.dh_build.proofs.ThreadsBuilt.{net_of_thread}
use Rattle.dh_build.proofs.laws.built_nets_are_nets.Goals as goal

pub returns : goal.returns
returns c = λ plan u g group s net graph one can sizes built valid. net_of_thread plan u g group s net graph one can sizes built valid
