-- What the walk over events finds.
use Rattle.std.specs.Prelude.{◌≡◌, Bool, List, ◌++◌, Option, None, length}
use Rattle.std.specs.List.{AllByRecursion}
use Rattle.dh_base.specs.declared.places.Place.{Place}
use Rattle.dh_tree.specs.Memories.{table_of}
use Rattle.dh_tree.specs.PlainTrees.{Program}
use Rattle.dh_events.specs.declared.events.Event.{Event}
use Rattle.dh_events.specs.Classes.{KeysAreDistinct}
use Rattle.dh_events.specs.Incidents.{PortEvent}
use Rattle.dh_events.specs.Noted.{all_seen}
use Rattle.dh_ports.specs.declared.lasts.LastWrites.{LastWrites}
use Rattle.dh_ports.specs.declared.levels.Levels.{Levels}
use Rattle.dh_ports.specs.declared.moves.ProgramLayout.{ProgramLayout}
use Rattle.dh_ports.specs.declared.moves.Move.{Move}
use Rattle.dh_ports.specs.declared.sharing.Sharing.{Sharing}
use Rattle.dh_ports.specs.declared.spending.Walked.{Walked}
use Rattle.dh_ports.specs.declared.spending.Walked.TheVariants as walked
use Rattle.dh_ports.specs.Ahead.{IsAhead}
use Rattle.dh_ports.specs.EventMoves.{moves_known}
use Rattle.dh_ports.specs.Levels.{LevelsKept}
use Rattle.dh_ports.specs.Passing.{ComesTo}
use Rattle.dh_ports.specs.Scanned.{spent_place, IsMoveOf}
use Rattle.dh_ports.specs.SharedSoFar.{AreShared}

-- the place of the first move that takes more than is left, if there is one
abbrev pub place_walked : Walked → Option Place
place_walked walked.Past = None
place_walked (walked.Beyond place) = place

-- while no move took more than was left, what is left is kept
abbrev pub KeptWhile : Walked → Levels → Type 0
KeptWhile walked.Past levels = LevelsKept levels
KeptWhile (walked.Beyond place) levels = Unit {0}

-- moves come to this behind those that came to that
abbrev pub SpendsTo : List PortEvent → (shared : List Bool) → (before : Walked) → (old : Levels) → List Move → (after : Walked) → (new : Levels) → Type 0
SpendsTo xs shared walked.Past old ms after new = ComesTo xs shared old ms new after
SpendsTo xs shared (walked.Beyond place) old ms after new = after ≡ walked.Beyond place

-- the same of these events, whatever flags come behind those that are known
abbrev pub SpendsToSoFar : List Event → (shared : List Bool) → (before : Walked) → (old : Levels) → List Move → (after : Walked) → (new : Levels) → Type 0
SpendsToSoFar events shared before old ms after new = (more : List Bool) → SpendsTo (all_seen events) (shared ++ more) before old ms after new

-- all is found of these events
pub record EventsAreWalked (p : Program) (layout : ProgramLayout) (events : List Event) (sharing : Sharing) (lasts : LastWrites) (walked : Walked) : Type 0 where
  pub distinct : KeysAreDistinct sharing.classes
  pub shared : AreShared events sharing
  pub within : AllByRecursion (IsMoveOf (length events)) (moves_known p layout events)
  pub ahead : IsAhead events (moves_known p layout events) lasts
  pub spent : place_walked walked ≡ spent_place (table_of p) events sharing.flags.items (moves_known p layout events)
