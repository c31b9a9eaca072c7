use Rattle.dh_lower.proofs.SpotsFollow.{follows}
use Rattle.dh_lower.proofs.laws.spots_follow_places.Goals as goal

pub returns : goal.returns
returns c = follows
