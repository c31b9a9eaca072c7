-- Which earlier read each access of a program shares, as a list, and what the walk over its events makes of them.
use Rattle.std.specs.Prelude.{◌≡◌, ℕ, ◌<◌, length, List, [], ◌∷◌, Option, Some, None, slice_get}
use Rattle.dh_tree.specs.Numbers.{IsNumbered}
use Rattle.dh_tree.specs.PlainTrees.{Action, Program}
use Rattle.dh_meaning.specs.AccessNumbers.{accesses_of}
use Rattle.dh_meets.specs.Sharing.{shared}
use Rattle.dh_events.specs.declared.classes.Key.{Key}
use Rattle.dh_events.specs.declared.events.Event.{Event}
use Rattle.dh_events.specs.declared.events.Event.TheVariants as event
use Rattle.dh_events.specs.Classes.{KeysAreDistinct}
use Rattle.dh_ports.specs.Scanned.{read_key}
use Rattle.dh_lengths.specs.declared.sharing.Met.{Met}
use Rattle.dh_lengths.specs.declared.sharing.Met.TheVariants as met
use Rattle.dh_lengths.specs.LiveFirsts.{none_read, shares_of}

-- what a list says of the access of a number, None past its end
abbrev pub share_told : Option (Option ℕ) → Option ℕ
share_told None = None
share_told (Some shared) = shared

abbrev pub told : List (Option ℕ) → (number : ℕ) → Option ℕ
told shares number = share_told (slice_get shares number)

-- one entry for each access of the program, by its number: the earlier read that it shares
pub record TellsShares (p : Program) (shares : List (Option ℕ)) : Type 0 where
  pub long : length shares ≡ accesses_of p.body
  pub each : (k : ℕ) → k < accesses_of p.body → slice_get shares k ≡ Some (shared p k)
  pub all : (k : ℕ) → told shares k ≡ shared p k

-- the same of each program that has this body
abbrev pub TellsSharesIn : Action → (shares : List (Option ℕ)) → Type 0
TellsSharesIn body shares = (p : Program) (first : ℕ) → p.body ≡ body → IsNumbered first p.body → TellsShares p shares

-- What events are.

-- an access with a key, where it is a read that has one
abbrev pub IsKeyMet : List Key → Option Key → Met → Type 0
IsKeyMet known None m = m ≡ met.Alone
IsKeyMet known (Some k) m = (class : ℕ) × ((slice_get known class ≡ Some k) × (m ≡ met.Read class))

abbrev pub IsMet : List Key → Event → Met → Type 0
IsMet known (event.Touch writes phase round access element newest) m = IsKeyMet known (read_key (event.Touch writes phase round access element newest)) m
IsMet known (event.Assigned entity) m = m ≡ met.Other
IsMet known event.ArmBegins m = m ≡ met.Begins
IsMet known event.ArmEnds m = m ≡ met.Ends
IsMet known event.Begins m = m ≡ met.Other
IsMet known event.Next m = m ≡ met.Other
IsMet known event.Ends m = m ≡ met.Other

abbrev pub AreMet : List Key → List Event → List Met → Type 0
AreMet known [] [] = Unit {0}
AreMet known (e ∷ es) (m ∷ ms) = IsMet known e m × AreMet known es ms
AreMet known _ _ = ⊥

-- of so many classes
abbrev pub IsWithinClasses : (classes : ℕ) → Met → Type 0
IsWithinClasses classes (met.Read class) = class < classes
IsWithinClasses classes met.Alone = Unit {0}
IsWithinClasses classes met.Begins = Unit {0}
IsWithinClasses classes met.Ends = Unit {0}
IsWithinClasses classes met.Other = Unit {0}

abbrev pub AreWithinClasses : (classes : ℕ) → List Met → Type 0
AreWithinClasses classes [] = Unit {0}
AreWithinClasses classes (m ∷ ms) = IsWithinClasses classes m × AreWithinClasses classes ms

-- of each access among events the read that it shares, by the classes of their keys
pub record FindsShares (events : List Event) (shares : List (Option ℕ)) : Type 0 where
  pub known : List Key
  pub distinct : KeysAreDistinct known
  pub steps : List Met
  pub are : AreMet known events steps
  pub shared_so : shares ≡ shares_of none_read 0 steps
