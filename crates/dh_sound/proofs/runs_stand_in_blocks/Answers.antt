use Rattle.dh_meaning.specs.CoreOf.{core_of}
use Rattle.dh_sound.proofs.ReadyKeeps.{ready_keeps}
use Rattle.dh_sound.proofs.Standing.{run_stands}
use Rattle.dh_sound.proofs.runs_stand_in_blocks.Goals as goal

pub returns : goal.returns
returns c = λ p ready memories n. run_stands (core_of p) (ready_keeps p ready) memories n
