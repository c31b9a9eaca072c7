use Rattle.dh_carried.proofs.GroupedKeys.{groups_cover}
use Rattle.dh_carried.proofs.laws.groups_cover_what_is_reached.Goals as goal

pub returns : goal.returns
returns c p w a cs copies bank = groups_cover p w a cs copies bank
