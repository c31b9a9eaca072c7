use Rattle.std.proofs.Common.{[]}
use Rattle.dh_plan.specs.SoundPlans.{countings}
use Rattle.dh_gathering.specs.LoopCounters.{loops_of_phases}
use Rattle.dh_gathering.proofs.CountersApart.{loops_apart}
use Rattle.dh_gathering.proofs.CountersWide.{counters_are, countings_are}
use Rattle.dh_gathering.proofs.laws.counters_are_apart.Goals as goal

pub returns : goal.returns
returns c = record {
  apart = λ scene p slots count final qs ns by placing loops nodes. loops_apart scene p slots count by placing final [] qs ns tt loops nodes;
  own = λ scene p slots count final plan qs ns by placing own wide nodes. counters_are scene p slots count by placing plan (countings ns) (loops_of_phases qs) (countings_are scene final [] qs ns nodes) own wide;
}
