use Rattle.dh_lower.proofs.StoreMakeable.{store_plays}
use Rattle.dh_lower.proofs.examples.a_store_is_played.Goals as goal

pub returns : goal.returns
returns c = store_plays
