use Rattle.dh_accesses.proofs.MetParts.{pair_of, two_one}
use Rattle.dh_accesses.proofs.meeting.either.Goals as goal

pub returns : goal.returns
returns c = two_one c.push-2.new.self c.args.first c.args.second (pair_of _ _ _ _ _ c.new-parts.ensures.items c.in_ok-push.ensures.items c.in_ok-push-2.ensures.items)
