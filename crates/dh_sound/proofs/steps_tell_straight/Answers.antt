use Rattle.dh_tree.specs.PhaseKinds.{phase_kind}
use Rattle.dh_meaning.specs.Phases.{phases}
use Rattle.dh_sound.proofs.StraightKinds.{kinded, kinded_straight}
use Rattle.dh_sound.proofs.steps_tell_straight.Goals as goal

pub returns : goal.returns
returns c = λ a r n. kinded_straight (phase_kind a) (phases r n a) (kinded a r n)
