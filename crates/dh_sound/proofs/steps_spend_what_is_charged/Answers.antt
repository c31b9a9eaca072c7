use Rattle.dh_sound.proofs.StepsCovered.{steps_covered, steps_kept}
use Rattle.dh_sound.proofs.steps_spend_what_is_charged.Goals as goal

pub returns-clause-covered : goal.returns-clause-covered
returns-clause-covered c = λ p ready. steps_covered p ready

pub returns-clause-kept : goal.returns-clause-kept
returns-clause-kept c = λ p ready keeps. steps_kept p ready keeps
