-- Trees of accesses that say the same, and what the walk that makes one says of commands.
use Rattle.std.specs.Prelude.{◌≡◌, ◌↔◌, ℕ, ◌+◌, ◌-◌, ◌<◌, ◌^◌, Bool, false}
use Rattle.dh_meaning.specs.AccessNumbers.{accesses_of, other_accesses, groups_accesses}
use Rattle.dh_meets.specs.MayMeet.{row_of_accesses, meets, other_meets, groups_meet}
use Rattle.dh_plan.specs.declared.plans.Meets.{Meets as Tree}
use Rattle.dh_plan.specs.SeenPlans.{meets_seen}
use Rattle.dh_tree.specs.Meets.{Meets, In, Distinct, Apart, Before}
use Rattle.dh_tree.specs.PlainTrees.{Action, MaybeAction, Groups}
use Rattle.dh_phases.specs.Counted.{behind}
use Rattle.dh_accesses.specs.declared.meeting.MeetingAccesses.{MeetingAccesses}

-- the same accesses, of which the same may meet, in the same order
pub record SameMeets (x y : Meets) : Type 0 where
  pub known : (a : ℕ) → In a x ↔ In a y
  pub apart : (a b : ℕ) → Apart x a b ↔ Apart y a b
  pub order : (a b : ℕ) → Before x a b ↔ Before y a b
  pub distinct : Distinct y → Distinct x

pub record MeetsRow (first next : ℕ) (m : MeetingAccesses) : Type 0 where
  pub seen : meets_seen m.meets ≡ row_of_accesses first (next - first)
  pub next_is : m.next ≡ next

-- of a part with so many accesses, numbered from `first` on: it says what the definition says, and counts them
pub record MeetsAll (first count : ℕ) (defined : Meets) (m : MeetingAccesses) : Type 0 where
  pub next_is : m.next ≡ behind first count
  pub same : first + count < 2 ^ 32 → SameMeets (meets_seen m.meets) defined

abbrev pub MeetsCommand : (unrolled : Bool) → (first : ℕ) → Action → MeetingAccesses → Type 0
MeetsCommand unrolled first a m = MeetsAll first (accesses_of a) (meets unrolled first a) m

abbrev pub MeetsOther : (unrolled : Bool) → (first : ℕ) → MaybeAction → MeetingAccesses → Type 0
MeetsOther unrolled first o m = MeetsAll first (other_accesses o) (other_meets unrolled first o) m

abbrev pub MeetsParts : (unrolled : Bool) → (first : ℕ) → Groups → MeetingAccesses → Type 0
MeetsParts unrolled first gs m = MeetsAll first (groups_accesses gs) (groups_meet unrolled first gs) m

-- of a program's body
abbrev pub MeetsBody : Action → Tree → Type 0
MeetsBody a t = accesses_of a < 2 ^ 32 → SameMeets (meets_seen t) (meets false 0 a)
