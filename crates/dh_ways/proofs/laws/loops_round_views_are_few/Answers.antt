use Rattle.dh_ways.proofs.RoundsFew.{all_few}
use Rattle.dh_ways.proofs.laws.loops_round_views_are_few.Goals as goal

pub returns : goal.returns
returns c = all_few
