-- Which of the events so far share.
use Rattle.std.specs.Prelude.{◌≡◌, ℕ, ◌+◌, ◌≤◌, Bool, List, [], ◌∷◌, ◌++◌, length, replicate, take}
use Rattle.dh_events.specs.declared.classes.Key.{Key}
use Rattle.dh_events.specs.declared.events.Event.{Event}
use Rattle.dh_events.specs.Classes.{KeysAreDistinct, ExtendsKeys}
use Rattle.dh_ports.specs.declared.levels.Levels.{Levels}
use Rattle.dh_ports.specs.declared.levels.Step.{Step}
use Rattle.dh_ports.specs.declared.sharing.Sharing.{Sharing}
use Rattle.dh_ports.specs.Levels.{advance, left_before, level_at, lefts_from, left_before_each, LevelsKept, Turns}
use Rattle.dh_ports.specs.Scanned.{all_share, shares, AreSharing, FindsShared, IsSharing}

-- whether an event shares, as its step looks at what is left before it is taken
pub record SharesNext (old_known known : List Key) (old new : Levels) (e : Event) (flag : Bool) : Type 0 where
  pub step : Step
  pub sharing : IsSharing known e step
  pub extends : ExtendsKeys old_known known
  pub few : length known ≤ length old_known + 1
  pub told : flag ≡ shares step (left_before step (λ s. level_at old s))
  pub kept : LevelsKept new
  pub stepped : Turns old new (λ s l. advance s step l)

-- Which of these events share, of so many classes at most: with the flags so far those of what stands behind are found
-- from the levels now as from the start.
pub record SharesSoFar (classes : ℕ) (known : List Key) (events : List Event) (levels : Levels) (flags : List Bool) : Type 0 where
  pub steps : List Step
  pub sharing : AreSharing known events steps
  pub few : length known ≤ length events
  pub kept : LevelsKept levels
  pub told : (rest : List Step) → flags ++ all_share rest (left_before_each (λ s. level_at levels s) rest) ≡ all_share (steps ++ rest) (lefts_from (replicate classes 1) (steps ++ rest))

-- what is noted of one event more
pub record NotesShare (old new : Sharing) (e : Event) : Type 0 where
  pub flag : Bool
  pub next : SharesNext old.classes new.classes old.levels new.levels e flag
  pub more : new.flags.items ≡ old.flags.items ++ flag ∷ []

-- so much is noted of so many of these events
pub record IsShared (events : List Event) (i : ℕ) (s : Sharing) : Type 0 where
  pub shares : SharesSoFar (length events) s.classes (take i events) s.levels s.flags.items

-- where nothing is noted yet, of so many events
abbrev pub BeginsShared : (count : ℕ) → Sharing → Type 0
BeginsShared count s = (events : List Event) → length events ≡ count → IsShared events 0 s

-- all is noted of these events
pub record AreShared (events : List Event) (s : Sharing) : Type 0 where
  pub found : KeysAreDistinct s.classes → FindsShared events s.flags.items
  pub long : length s.flags.items ≡ length events
