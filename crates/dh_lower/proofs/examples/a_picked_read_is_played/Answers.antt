use Rattle.dh_lower.proofs.ReadMakeable.{read_plays}
use Rattle.dh_lower.proofs.examples.a_picked_read_is_played.Goals as goal

pub returns : goal.returns
returns c = read_plays
