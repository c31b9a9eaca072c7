use Rattle.dh_accesses.proofs.MetParts.{pair_of, two_all}
use Rattle.dh_accesses.proofs.meeting.both.Goals as goal

pub returns : goal.returns
returns c = two_all c.push-2.new.self c.args.first c.args.second (pair_of _ _ _ _ _ c.new-parts.ensures.items c.in_ok-push.ensures.items c.in_ok-push-2.ensures.items)
