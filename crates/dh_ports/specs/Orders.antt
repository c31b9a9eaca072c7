-- The step that a move is for the order of writes and reads, as a function: the keys that are known have one place each.
use Rattle.std.specs.Prelude.{◌≡◌, ◌⊎◌, ℕ, suc, ◌==◌, Bool, false, true, if◌then◌else◌, List, [], ◌∷◌, Option, Some, None, option_map, slice_get, slice_index}
use Rattle.dh_events.specs.declared.classes.Key.{Key}
use Rattle.dh_events.specs.Classes.{is_same}
use Rattle.dh_events.specs.declared.events.Event.{Event}
use Rattle.dh_events.specs.declared.events.Event.TheVariants as event
use Rattle.dh_ports.specs.declared.levels.Step.{Step}
use Rattle.dh_ports.specs.declared.levels.Step.TheVariants as step
use Rattle.dh_ports.specs.declared.moves.Move.{Move}
use Rattle.dh_ports.specs.declared.moves.Move.TheVariants as move
use Rattle.dh_events.specs.Tables.{table_at, with_number}
use Rattle.dh_ports.specs.Scanned.{bank_key, take_of, HasRead}

-- the number of a key, where it has one
abbrev pub slot_in : List Key → Key → Option ℕ
slot_in [] k = None
slot_in (x ∷ xs) k = if is_same x k then Some 0 else option_map suc (slot_in xs k)

abbrev pub step_in : Option ℕ → (takes : ℕ) → Step
step_in None takes = step.Other
step_in (Some slot) takes = step.Access slot takes

-- the step of the claim of a bank by an event
abbrev pub order_of : List Key → Option Event → (bank : ℕ) → Step
order_of known None bank = step.Other
order_of known (Some (event.Touch writes phase round access element newest)) bank = step_in (slot_in known (bank_key phase bank)) (take_of writes)
order_of known (Some (event.Assigned entity)) bank = step.Other
order_of known (Some event.ArmBegins) bank = step.Other
order_of known (Some event.ArmEnds) bank = step.Other
order_of known (Some event.Begins) bank = step.Other
order_of known (Some event.Next) bank = step.Other
order_of known (Some event.Ends) bank = step.Other

abbrev pub order_step : List Key → List Event → Move → Step
order_step known events (move.Claim e bank keys) = order_of known (slice_get events e) bank
order_step known events move.Begin = step.Begin
order_step known events move.Next = step.Next
order_step known events move.End = step.End

-- Phases in which nothing is written, or nothing is read.

-- each key that is known is of a phase that is marked
abbrev pub AreMarked : List Key → (marked : List ℕ) → Type 0
AreMarked known marked = (n : ℕ) (k : Key) → slice_get known n ≡ Some k → slice_index marked k.phase ≡ 1

-- an event is an access in a phase that is not
abbrev pub is_quiet : (marked : List ℕ) → Event → Bool
is_quiet marked (event.Touch writes phase round access element newest) = slice_index marked phase == 0
is_quiet marked (event.Assigned entity) = false
is_quiet marked event.ArmBegins = false
is_quiet marked event.ArmEnds = false
is_quiet marked event.Begins = false
is_quiet marked event.Next = false
is_quiet marked event.Ends = false

abbrev pub is_quiet_at : (marked : List ℕ) → Option Event → Bool
is_quiet_at marked None = false
is_quiet_at marked (Some e) = is_quiet marked e

abbrev pub is_quiet_move : (marked : List ℕ) → List Event → Move → Bool
is_quiet_move marked events (move.Claim e bank keys) = is_quiet_at marked (slice_get events e)
is_quiet_move marked events move.Begin = false
is_quiet_move marked events move.Next = false
is_quiet_move marked events move.End = false

-- each phase in which a read stands is marked
abbrev pub AreRead : List Event → (marked : List ℕ) → Type 0
AreRead events marked = (phase : ℕ) → HasRead events phase → slice_index marked phase ≡ 1

-- each phase with a read is marked, or has one among the events that are left
abbrev pub ReadSoFar : (events left : List Event) → (marked : List ℕ) → Type 0
ReadSoFar events left marked = (phase : ℕ) → HasRead events phase → (slice_index marked phase ≡ 1) ⊎ HasRead left phase

-- an event marks its phase, where it is a read
abbrev pub MarksRead : (old new : List ℕ) → Event → Type 0
MarksRead old new (event.Touch true phase round access element newest) = table_at new ≡ table_at old
MarksRead old new (event.Touch false phase round access element newest) = table_at new ≡ with_number (table_at old) phase 1
MarksRead old new (event.Assigned entity) = table_at new ≡ table_at old
MarksRead old new event.ArmBegins = table_at new ≡ table_at old
MarksRead old new event.ArmEnds = table_at new ≡ table_at old
MarksRead old new event.Begins = table_at new ≡ table_at old
MarksRead old new event.Next = table_at new ≡ table_at old
MarksRead old new event.Ends = table_at new ≡ table_at old
