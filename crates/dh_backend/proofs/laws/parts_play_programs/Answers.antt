use Rattle.dh_backend.proofs.PartsPlay.{parts_play_programs}
use Rattle.dh_backend.proofs.laws.parts_play_programs.Goals as goal

pub returns : goal.returns
returns c p = parts_play_programs p
