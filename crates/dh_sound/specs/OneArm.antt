-- Arms of which no two are of one `if`.
use Rattle.std.specs.Prelude.{ℕ, true, false, List}
use Rattle.dh_meaning.specs.Sites.{Arm}
use Rattle.dh_sound.specs.PhaseFacts.{HasArm, arm_of}

-- no two of these arms are of one command: what stands round a command is in one arm of each `if` only
pub record HasOneOfEach (arms : List Arm) : Type 0 where
  pub single : (command : ℕ) → HasArm (arm_of command true) arms → HasArm (arm_of command false) arms → ⊥
