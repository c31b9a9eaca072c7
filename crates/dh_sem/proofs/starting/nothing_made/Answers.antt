use Rattle.dh_sem.proofs.FirstRun.{sound_empty}
use Rattle.dh_sem.proofs.starting.nothing_made.Goals as goal

pub returns : goal.returns
returns c = record {
  first_lanes = c.in_ok-lanes.ensures;
  sound = λ table. sound_empty table _ c.new.ensures c.new-2.ensures c.new-3.ensures.items;
}
