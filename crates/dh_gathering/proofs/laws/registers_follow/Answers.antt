use Rattle.dh_gathering.proofs.CountersWide.{counter_has}
use Rattle.dh_gathering.proofs.KindsOfRegisters.{places_successive}
use Rattle.dh_gathering.proofs.laws.registers_follow.Goals as goal

pub returns : goal.returns
returns c = record {
  follow = places_successive;
  counters = counter_has;
}
