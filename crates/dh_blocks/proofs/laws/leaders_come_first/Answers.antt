use Rattle.dh_blocks.proofs.PathNumbers.{agree_leaders, leader_leads, leaders_agree, leads}
use Rattle.dh_blocks.proofs.laws.leaders_come_first.Goals as goal

pub returns : goal.returns
returns c levels s counts = record {
  agree = leaders_agree levels s counts;
  same = agree_leaders levels s counts;
  own = leader_leads levels s counts;
  first = λ n below. (leads levels s counts n below).low;
}
