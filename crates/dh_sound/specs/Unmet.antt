-- What is told of two accesses that never meet.
use Rattle.std.specs.Prelude.{◌≡◌, ℕ, List, true, Some}
use Rattle.dh_tree.specs.Meets.{Apart}
use Rattle.dh_tree.specs.PlainTrees.{Program}
use Rattle.dh_meaning.specs.OnePhase.{any_makes, test_makes}
use Rattle.dh_meaning.specs.Phases.{Located, phases_of}
use Rattle.dh_meets.specs.MayMeet.{meets_in}
use Rattle.dh_meets.specs.SourceEvents.{SourceAccess}
use Rattle.dh_sound.specs.PhaseFacts.{HasStraight, HasTest, InOppositeArms}
use Rattle.dh_sound.specs.ToldEvents.{access_at}

-- where one Straight phase makes both, they stand in opposite arms of an `if` outside every unrolled loop
abbrev pub StandOpposite : Program → Type 0
StandOpposite p =
    (cs : List Located) (j k : ℕ) → HasStraight (phases_of p) cs → any_makes j cs ≡ true → any_makes k cs ≡ true → Apart (meets_in p) j k
    → (a b : SourceAccess) → access_at p j ≡ Some a → access_at p k ≡ Some b → InOppositeArms a b

-- and no test makes both
abbrev pub TestsMeet : Program → Type 0
TestsMeet p = (c : Located) (j k : ℕ) → HasTest (phases_of p) c → test_makes j c ≡ true → test_makes k c ≡ true → Apart (meets_in p) j k → ⊥
