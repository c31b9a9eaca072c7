use Rattle.dh_control.proofs.ThreadNets.{thread_net}
use Rattle.dh_control.proofs.laws.wired_nets_are_nets.Goals as goal

pub returns : goal.returns
returns c = λ k net w wired. thread_net k net w wired
