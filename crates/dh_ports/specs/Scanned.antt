-- What the walks over what happens make of it: steps that take of slots, and which accesses break a rule.
use Rattle.std.specs.Prelude.{◌≡◌, ◌⊎◌, ℕ, ◌<◌, ◌==◌, ◌&&◌, nat_lt, map, replicate, length, Bool, false, true, if◌then◌else◌, List, [], ◌∷◌, ◌++◌, Option, Some, None, slice_get}
use Rattle.std.specs.List.{AllByRecursion}
use Rattle.dh_base.specs.declared.places.Place.{Place}
use Rattle.dh_base.specs.declared.rules.Rule.TheVariants as rule
use Rattle.dh_tree.specs.declared.breaches.Breach.{Breach}
use Rattle.dh_tree.specs.LeastBreach.{breach, least_of}
use Rattle.dh_tree.specs.declared.tables.MemEntry.{MemEntry}
use Rattle.dh_tree.specs.Kinds.{place_of as term_place}
use Rattle.dh_tree.specs.Seen.{form_seen}
use Rattle.dh_events.specs.declared.classes.Key.{Key}
use Rattle.dh_events.specs.declared.events.Event.{Event}
use Rattle.dh_events.specs.declared.events.Event.TheVariants as event
use Rattle.dh_events.specs.Accesses.{entity_in}
use Rattle.dh_ports.specs.Claims.{bank_ports_in}
use Rattle.dh_events.specs.Classes.{KeysAreDistinct}
use Rattle.dh_ports.specs.Levels.{lefts_from}
use Rattle.dh_events.specs.Noted.{all_seen}
use Rattle.dh_ports.specs.declared.levels.Step.{Step}
use Rattle.dh_ports.specs.declared.levels.Step.TheVariants as step
use Rattle.dh_ports.specs.declared.moves.Move.{Move}
use Rattle.dh_ports.specs.declared.moves.Move.TheVariants as move
use Rattle.dh_events.specs.Incidents.{PortEvent, touches, assigned, arm_begins, arm_ends, begins, next, ends}

-- Sharing.

-- a step takes where nothing is left
abbrev pub shares : Step → (left : ℕ) → Bool
shares (step.Access slot takes) left = left == 0
shares step.Other left = false
shares step.Begin left = false
shares step.Next left = false
shares step.End left = false
shares step.Back left = false

abbrev pub all_share : List Step → List ℕ → List Bool
all_share (s ∷ ss) (l ∷ ls) = shares s l ∷ all_share ss ls
all_share _ _ = []

-- Ports.

abbrev pub flag_at : Option Bool → Bool
flag_at None = false
flag_at (Some b) = b

-- an access takes a port for each of its keys, and none where it shares
abbrev pub spending_step : (shared : List Bool) → Move → Step
spending_step shared (move.Claim event slot keys) = step.Access slot (if flag_at (slice_get shared event) then 0 else keys)
spending_step shared move.Begin = step.Begin
spending_step shared move.Next = step.Next
spending_step shared move.End = step.End

-- a step takes more than is left
abbrev pub step_exceeds : Step → (left : ℕ) → Bool
step_exceeds (step.Access slot takes) left = nat_lt left takes
step_exceeds step.Other left = false
step_exceeds step.Begin left = false
step_exceeds step.Next left = false
step_exceeds step.End left = false
step_exceeds step.Back left = false

-- Places.

-- the place of an incident that is an access
abbrev pub event_place : PortEvent → Option Place
event_place (touches access writes site) = Some (term_place access)
event_place (assigned entity) = None
event_place arm_begins = None
event_place arm_ends = None
event_place begins = None
event_place next = None
event_place ends = None

abbrev pub maybe_event_place : Option PortEvent → Option Place
maybe_event_place None = None
maybe_event_place (Some x) = event_place x

-- the place of the access of a move
abbrev pub move_place : List PortEvent → Move → Option Place
move_place xs (move.Claim event slot keys) = maybe_event_place (slice_get xs event)
move_place xs move.Begin = None
move_place xs move.Next = None
move_place xs move.End = None

-- the place of the first move whose step takes more than is left
abbrev pub first_beyond : List PortEvent → List Move → List Step → List ℕ → Option Place
first_beyond xs (m ∷ ms) (s ∷ ss) (l ∷ ls) = if step_exceeds s l then move_place xs m else first_beyond xs ms ss ls
first_beyond xs _ _ _ = None

-- Order.

-- a step reads where nothing is left
abbrev pub is_late : Step → (left : ℕ) → Bool
is_late (step.Access slot takes) left = (takes == 0) && (left == 0)
is_late step.Other left = false
is_late step.Begin left = false
is_late step.Next left = false
is_late step.End left = false
is_late step.Back left = false

abbrev pub late_at : Option Place → List Breach
late_at None = []
late_at (Some place) = breach rule.ReadAfterWrite place ∷ []

abbrev pub all_late : List PortEvent → List Move → List Step → List ℕ → List Breach
all_late xs (m ∷ ms) (s ∷ ss) (l ∷ ls) = if is_late s l then late_at (move_place xs m) ++ all_late xs ms ss ls else all_late xs ms ss ls
all_late xs _ _ _ = []

-- Classes.

-- the key of a read in a phase, where its names stand for something
abbrev pub key_with : (phase : ℕ) → (entity element : Option ℕ) → (newest : ℕ) → Option Key
key_with phase None element newest = None
key_with phase (Some e) None newest = None
key_with phase (Some e) (Some n) newest = Some (record { phase = phase; entity = e; element = n; newest = newest })

abbrev pub read_key : Event → Option Key
read_key (event.Touch true phase round access element newest) = None
read_key (event.Touch false phase round access element newest) = key_with phase (entity_in (form_seen access.now.form)) element newest
read_key (event.Assigned entity) = None
read_key event.ArmBegins = None
read_key event.ArmEnds = None
read_key event.Begins = None
read_key event.Next = None
read_key event.Ends = None

-- a step that takes of the slot of a key
abbrev pub TakesOf : List Key → (takes : ℕ) → Option Key → Step → Type 0
TakesOf known takes None s = s ≡ step.Other
TakesOf known takes (Some k) s = (slot : ℕ) × ((slice_get known slot ≡ Some k) × (s ≡ step.Access slot takes))

-- the step that an event is for the sharing of reads: of a class one is to take
abbrev pub IsSharing : List Key → Event → Step → Type 0
IsSharing known (event.Touch writes phase round access element newest) s = TakesOf known 1 (read_key (event.Touch writes phase round access element newest)) s
IsSharing known (event.Assigned entity) s = s ≡ step.Other
IsSharing known event.ArmBegins s = s ≡ step.Begin
IsSharing known event.ArmEnds s = s ≡ step.Back
IsSharing known event.Begins s = s ≡ step.Other
IsSharing known event.Next s = s ≡ step.Other
IsSharing known event.Ends s = s ≡ step.Other

abbrev pub AreSharing : List Key → List Event → List Step → Type 0
AreSharing known [] [] = Unit {0}
AreSharing known (e ∷ es) (s ∷ ss) = IsSharing known e s × AreSharing known es ss
AreSharing known _ _ = ⊥

-- of each event a flag: a read shares where nothing is left of its class
pub record FindsShared (events : List Event) (flags : List Bool) : Type 0 where
  pub known : List Key
  pub distinct : KeysAreDistinct known
  pub steps : List Step
  pub sharing : AreSharing known events steps
  pub told : flags ≡ all_share steps (lefts_from (replicate (length known) 1) steps)

abbrev pub bank_key : (phase slot : ℕ) → Key
bank_key phase slot = record { phase = phase; entity = 0; element = slot; newest = 0 }

-- a step that takes so much of the slot of a key, where the key has one
abbrev pub StepsAt : List Key → Key → (takes : ℕ) → Step → Type 0
StepsAt known k takes s = ((slot : ℕ) × ((slice_get known slot ≡ Some k) × (s ≡ step.Access slot takes))) ⊎ (((n : ℕ) → slice_get known n ≡ Some k → ⊥) × (s ≡ step.Other))

abbrev pub take_of : (writes : Bool) → ℕ
take_of writes = if writes then 1 else 0

-- The step that the claim of a bank is for the order of writes and reads: a write takes what is left of the bank
-- in its phase, a read only looks.
abbrev pub ClaimOrders : List Key → Event → (bank : ℕ) → Step → Type 0
ClaimOrders known (event.Touch writes phase round access element newest) bank s = StepsAt known (bank_key phase bank) (take_of writes) s
ClaimOrders known (event.Assigned entity) bank s = s ≡ step.Other
ClaimOrders known event.ArmBegins bank s = s ≡ step.Other
ClaimOrders known event.ArmEnds bank s = s ≡ step.Other
ClaimOrders known event.Begins bank s = s ≡ step.Other
ClaimOrders known event.Next bank s = s ≡ step.Other
ClaimOrders known event.Ends bank s = s ≡ step.Other

-- of an event that is there
abbrev pub ClaimOrdersAt : List Key → Option Event → (bank : ℕ) → Step → Type 0
ClaimOrdersAt known None bank s = ⊥
ClaimOrdersAt known (Some e) bank s = ClaimOrders known e bank s

-- where an event is a write, the key of a bank in its phase has a number
abbrev pub IsWritten : List Key → Option Event → (bank : ℕ) → Type 0
IsWritten known None bank = ⊥
IsWritten known (Some (event.Touch true phase round access element newest)) bank = (slot : ℕ) × (slice_get known slot ≡ Some (bank_key phase bank))
IsWritten known (Some (event.Touch false phase round access element newest)) bank = Unit {0}
IsWritten known (Some (event.Assigned entity)) bank = Unit {0}
IsWritten known (Some event.ArmBegins) bank = Unit {0}
IsWritten known (Some event.ArmEnds) bank = Unit {0}
IsWritten known (Some event.Begins) bank = Unit {0}
IsWritten known (Some event.Next) bank = Unit {0}
IsWritten known (Some event.Ends) bank = Unit {0}

abbrev pub IsNotedClaim : List Key → List Event → Move → Type 0
IsNotedClaim known events (move.Claim event bank keys) = IsWritten known (slice_get events event) bank
IsNotedClaim known events move.Begin = Unit {0}
IsNotedClaim known events move.Next = Unit {0}
IsNotedClaim known events move.End = Unit {0}

-- the phase of an event that is an access, and of the claim of one
abbrev pub event_phase : Option Event → ℕ
event_phase None = 0
event_phase (Some (event.Touch writes phase round access element newest)) = phase
event_phase (Some (event.Assigned entity)) = 0
event_phase (Some event.ArmBegins) = 0
event_phase (Some event.ArmEnds) = 0
event_phase (Some event.Begins) = 0
event_phase (Some event.Next) = 0
event_phase (Some event.Ends) = 0

abbrev pub move_phase : List Event → Move → ℕ
move_phase events (move.Claim event bank keys) = event_phase (slice_get events event)
move_phase events move.Begin = 0
move_phase events move.Next = 0
move_phase events move.End = 0

-- a read stands in a phase
abbrev pub IsReadAt : Option Event → (phase : ℕ) → Type 0
IsReadAt None phase = ⊥
IsReadAt (Some (event.Touch true other round access element newest)) phase = ⊥
IsReadAt (Some (event.Touch false other round access element newest)) phase = other ≡ phase
IsReadAt (Some (event.Assigned entity)) phase = ⊥
IsReadAt (Some event.ArmBegins) phase = ⊥
IsReadAt (Some event.ArmEnds) phase = ⊥
IsReadAt (Some event.Begins) phase = ⊥
IsReadAt (Some event.Next) phase = ⊥
IsReadAt (Some event.Ends) phase = ⊥

abbrev pub HasRead : List Event → (phase : ℕ) → Type 0
HasRead events phase = (i : ℕ) × IsReadAt (slice_get events i) phase

-- where one does, the claim of a write is noted
abbrev pub IsNotedFor : List Key → List Event → Move → Type 0
IsNotedFor known events m = HasRead events (move_phase events m) → IsNotedClaim known events m

abbrev pub IsOrdering : List Key → List Event → Move → Step → Type 0
IsOrdering known events (move.Claim event bank keys) s = ClaimOrdersAt known (slice_get events event) bank s
IsOrdering known events move.Begin s = s ≡ step.Begin
IsOrdering known events move.Next s = s ≡ step.Next
IsOrdering known events move.End s = s ≡ step.End

abbrev pub AreOrdering : List Key → List Event → List Move → List Step → Type 0
AreOrdering known events [] [] = Unit {0}
AreOrdering known events (m ∷ ms) (s ∷ ss) = IsOrdering known events m s × AreOrdering known events ms ss
AreOrdering known events _ _ = ⊥

-- the reads that come behind a write of a bank in their phase
pub record FindsLate (events : List Event) (moves : List Move) (late : List Breach) : Type 0 where
  pub known : List Key
  pub distinct : KeysAreDistinct known
  pub written : AllByRecursion (IsNotedFor known events) moves
  pub steps : List Step
  pub ordering : AreOrdering known events moves steps
  pub told : late ≡ all_late (all_seen events) moves steps (lefts_from (replicate (length known) 1) steps)

-- the place of the first access that takes more ports than are left
abbrev pub spent_place : List MemEntry → List Event → (shared : List Bool) → List Move → Option Place
spent_place table events shared moves =
    first_beyond (all_seen events) moves (map (spending_step shared) moves) (lefts_from (bank_ports_in table) (map (spending_step shared) moves))

-- the breach of ports that are spent at a place
abbrev pub ports_spent_breach : Option Place → Option Breach
ports_spent_breach None = None
ports_spent_breach (Some place) = Some (breach rule.PortsSpent place)

-- a claim is of one of so many events
abbrev pub IsMoveOf : (events : ℕ) → Move → Type 0
IsMoveOf events (move.Claim event slot keys) = event < events
IsMoveOf events move.Begin = Unit {0}
IsMoveOf events move.Next = Unit {0}
IsMoveOf events move.End = Unit {0}

-- claims are of these events
abbrev pub AreMovesOf : List Event → List Move → Type 0
AreMovesOf events ms = AllByRecursion (IsMoveOf (length events)) ms

-- the least of what was kept and the breaches of reads behind writes
pub record KeepsLate (events : List Event) (moves : List Move) (old new : Option Breach) : Type 0 where
  pub late : List Breach
  pub found : FindsLate events moves late
  pub kept : new ≡ least_of old late
