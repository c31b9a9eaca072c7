use Rattle.dh_tests.proofs.nets.net_of.Goals as goal

pub returns : goal.returns
returns c = c.in_ok-net.ensures.plays.valid
