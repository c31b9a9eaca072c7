use Rattle.dh_build.proofs.NetWired.{net_wired}
use Rattle.dh_build.proofs.laws.made_nets_are_wired.Goals as goal

pub returns : goal.returns
returns c = λ start d plan flow u states s p net h. net_wired start d plan flow u states s p net h
