-- How many phases a command has, as the rule on steps of copies (K16) counts them, tells whether its phases are straight.
use Rattle.std.specs.Prelude.{◌≡◌, ℕ, nat_le}
use Rattle.dh_tree.specs.PhaseKinds.{phase_kind}
use Rattle.dh_tree.specs.PlainTrees.{Action}
use Rattle.dh_meaning.specs.Phases.{are_straight, phases}
use Rattle.dh_meaning.specs.Sites.{Around}

-- whatever is round it, and however its accesses are numbered
abbrev pub TellsStraight : Action → Type 0
TellsStraight a = (r : Around) (n : ℕ) → are_straight (phases r n a) ≡ nat_le (phase_kind a) 1
