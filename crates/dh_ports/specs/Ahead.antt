-- Reads that stand ahead of the writes of their banks in their phases, and what is noted of writes to tell so.
use Rattle.std.specs.Prelude.{◌≡◌, ℕ, ◌≤◌, ◌&&◌, nat_lt, true, false, List, [], ◌∷◌, ◌++◌, Option, Some, None, slice_get, slice_index}
use Rattle.std.specs.List.{AllByRecursion}
use Rattle.dh_events.specs.declared.events.Event.{Event}
use Rattle.dh_events.specs.declared.events.Event.TheVariants as event
use Rattle.dh_ports.specs.declared.lasts.LastWrites.{LastWrites}
use Rattle.dh_ports.specs.declared.moves.Move.{Move}
use Rattle.dh_ports.specs.declared.moves.Move.TheVariants as move
use Rattle.dh_ports.specs.Scanned.{IsReadAt}

-- a write stands in a phase
abbrev pub IsWriteAt : Option Event → (phase : ℕ) → Type 0
IsWriteAt None phase = ⊥
IsWriteAt (Some (event.Touch true other round access element newest)) phase = other ≡ phase
IsWriteAt (Some (event.Touch false other round access element newest)) phase = ⊥
IsWriteAt (Some (event.Assigned entity)) phase = ⊥
IsWriteAt (Some event.ArmBegins) phase = ⊥
IsWriteAt (Some event.ArmEnds) phase = ⊥
IsWriteAt (Some event.Begins) phase = ⊥
IsWriteAt (Some event.Next) phase = ⊥
IsWriteAt (Some event.Ends) phase = ⊥

-- a move claims a bank for a write in a phase, or for a read
abbrev pub ClaimsWrite : List Event → (phase bank : ℕ) → Move → Type 0
ClaimsWrite events phase bank (move.Claim e other keys) = IsWriteAt (slice_get events e) phase × (other ≡ bank)
ClaimsWrite events phase bank move.Begin = ⊥
ClaimsWrite events phase bank move.Next = ⊥
ClaimsWrite events phase bank move.End = ⊥

abbrev pub ClaimsRead : List Event → (phase bank : ℕ) → Move → Type 0
ClaimsRead events phase bank (move.Claim e other keys) = IsReadAt (slice_get events e) phase × (other ≡ bank)
ClaimsRead events phase bank move.Begin = ⊥
ClaimsRead events phase bank move.Next = ⊥
ClaimsRead events phase bank move.End = ⊥

-- none of these moves claims a bank for a read in a phase
abbrev pub NoneReads : List Event → (phase bank : ℕ) → List Move → Type 0
NoneReads events phase bank ms = AllByRecursion (λ m. ClaimsRead events phase bank m → ⊥) ms

-- no read comes behind a write of its bank in its phase
abbrev pub AreAhead : List Event → List Move → Type 0
AreAhead events [] = Unit {0}
AreAhead events (m ∷ ms) = ((phase bank : ℕ) → ClaimsWrite events phase bank m → NoneReads events phase bank ms) × AreAhead events ms

-- no write of a bank is in a later phase than the one that is noted
abbrev pub Covers : List Event → (phases : List ℕ) → List Move → Type 0
Covers events phases ms = AllByRecursion (λ m. (phase bank : ℕ) → ClaimsWrite events phase bank m → phase ≤ slice_index phases bank) ms

-- so much is noted of these moves
pub record IsAhead (events : List Event) (ms : List Move) (lasts : LastWrites) : Type 0 where
  pub covers : Covers events lasts.phases.items ms
  pub ahead : lasts.ahead ≡ true → AreAhead events ms

-- a bank's last phase is not before this one, and none of another bank falls
pub record Raises (old new : List ℕ) (bank phase : ℕ) : Type 0 where
  pub covers : phase ≤ slice_index new bank
  pub keeps : (other : ℕ) → slice_index old other ≤ slice_index new other

-- what the claim of a bank by an event notes
abbrev pub NotesEvent : (old new : LastWrites) → Event → (bank : ℕ) → Type 0
NotesEvent old new (event.Touch true phase round access element newest) bank = Raises old.phases.items new.phases.items bank phase × (new.ahead ≡ old.ahead)
NotesEvent old new (event.Touch false phase round access element newest) bank = (new.phases.items ≡ old.phases.items) × (new.ahead ≡ (old.ahead && nat_lt (slice_index old.phases.items bank) phase))
NotesEvent old new (event.Assigned entity) bank = new ≡ old
NotesEvent old new event.ArmBegins bank = new ≡ old
NotesEvent old new event.ArmEnds bank = new ≡ old
NotesEvent old new event.Begins bank = new ≡ old
NotesEvent old new event.Next bank = new ≡ old
NotesEvent old new event.Ends bank = new ≡ old

-- the same of an event that is there, and what a move notes
abbrev pub NotesAt : (old new : LastWrites) → Option Event → (bank : ℕ) → Type 0
NotesAt old new None bank = ⊥
NotesAt old new (Some e) bank = NotesEvent old new e bank

abbrev pub NotesMove : List Event → (old new : LastWrites) → Move → Type 0
NotesMove events old new (move.Claim e bank keys) = NotesAt old new (slice_get events e) bank
NotesMove events old new move.Begin = new ≡ old
NotesMove events old new move.Next = new ≡ old
NotesMove events old new move.End = new ≡ old

-- whatever was noted of moves before them, so much is noted with these
abbrev pub NotesMoves : List Event → (old : LastWrites) → List Move → (new : LastWrites) → Type 0
NotesMoves events old ms new = (before : List Move) → IsAhead events before old → IsAhead events (before ++ ms) new
