-- What holds of all programs: how the walks of this crate tell what the definitions say.
use Rattle.std.specs.Prelude.{◌≡◌, ℕ, ◌+◌, ◌<◌, ◌≤◌, Bool, List, Option, Some, length, map, slice_get, take}
use Rattle.std.specs.Option.{is_some}
use Rattle.dh_base.specs.declared.places.Place.{Place}
use Rattle.dh_tree.specs.declared.breaches.Breach.{Breach}
use Rattle.dh_tree.specs.Meets.{Meets, In, Distinct, upto}
use Rattle.dh_tree.specs.Memories.{table_of}
use Rattle.dh_tree.specs.Numbers.{IsNumbered}
use Rattle.dh_tree.specs.PlainTrees.{Action, Program}
use Rattle.dh_tree.specs.Shapes.{IsProgramTable}
use Rattle.dh_meaning.specs.Sites.{Around}
use Rattle.dh_meets.specs.MayMeet.{meets, meets_in}
use Rattle.dh_meets.specs.Ports.{place_in, PortsSpent}
use Rattle.dh_meets.specs.SourceEvents as source
use Rattle.dh_meets.specs.SourceEvents.{SourceAccess, accesses_in}
use Rattle.dh_events.specs.declared.events.Event.{Event}
use Rattle.dh_events.specs.declared.noting.Open.{Open}
use Rattle.dh_events.specs.Incidents.{PortEvent, incidents}
use Rattle.dh_events.specs.Noted.{all_seen}
use Rattle.dh_ports.specs.declared.levels.Step.{Step}
use Rattle.dh_ports.specs.declared.levels.Step.TheVariants as step
use Rattle.dh_ports.specs.Claims.{moves_from}
use Rattle.dh_ports.specs.Courses.{before_at, access_count, Ties}
use Rattle.dh_ports.specs.Expanded.{all_taken, expand, steps_before, AreTaking}
use Rattle.dh_ports.specs.Levels.{Level, left_before_each}
use Rattle.dh_ports.specs.Scanned.{spent_place, FindsLate, FindsShared}
use Rattle.dh_ports.specs.Spent.{AccessOverspends}
use Rattle.dh_ports.specs.Told.{IsToldBefore}
use Rattle.dh_ports.specs.Wholes.{loops_known, of_access, touched, AreEventsOf, TakesCharge, TellsLate, TellsLoops, TellsPhases, TellsShared, TellsSpent}
use Rattle.dh_ports.specs.WritesFound.{Meeting}

-- what happens in a command is tied to the tree of its accesses, with any charges
abbrev pub IncidentsTie : Type 0
IncidentsTie = (charge stages : ℕ → ℕ) (first : ℕ) (round : Option ℕ) (behind : Open) (a : Action) → Ties charge first (incidents stages round behind a) (meets (is_some round) first a)

-- where a charged access finds fewer ports than it needs and none before it does, ports are spent there
abbrev pub FirstSpendingIsTold : Type 0
FirstSpendingIsTold = (p : Program) (k : ℕ) (place : Place) → place_in p k ≡ Some place → In k (meets_in p) → AccessOverspends p k → ((x : ℕ) → x < k → AccessOverspends p x → ⊥) → PortsSpent p place

-- an access without a charge finds one up to it where a charged access before it may meet it, and only there
abbrev pub ChargesTellMeetings : Type 0
ChargesTellMeetings = (charge : ℕ → ℕ) (t : Meets) (k : ℕ) → Distinct t → In k t → charge k ≡ 0 → 1 ≤ upto charge k t → Meeting charge t k

abbrev pub MeetingsAreCharged : Type 0
MeetingsAreCharged = (charge : ℕ → ℕ) (t : Meets) (k : ℕ) → Distinct t → In k t → Meeting charge t k → 1 ≤ upto charge k t

-- before a step of an access is left of a slot what its course leaves there, where the access took nothing of it before
abbrev pub StepsFollowCourses : Type 0
StepsFollowCourses =
    (f : ℕ → List Step) → ((k : ℕ) → AreTaking (f k)) → (slot n : ℕ) (levels : ℕ → Level) (xs : List PortEvent) (k j takes : ℕ) → n ≤ k → k < n + access_count xs → slice_get (f k) j ≡ Some (step.Access slot takes) → all_taken slot (take j (f k)) ≡ 0
    → slice_get (left_before_each levels (expand f n xs)) (steps_before f n xs k + j) ≡ Some (before_at (λ k. all_taken slot (f k)) n (levels slot) xs k)

-- the accesses of a command's incidents are those of its events, in order
abbrev pub IncidentsTouchAll : Type 0
IncidentsTouchAll = (stages : ℕ → ℕ) (round : Option ℕ) (behind : Open) (r : Around) (a : Action) → touched (incidents stages round behind a) ≡ map of_access (accesses_in (source.events r a))

-- flags that the walk finds tell which accesses share earlier ones
abbrev pub SharedReadsAreFound : Type 0
SharedReadsAreFound = (first : ℕ) (p : Program) (events : List Event) (flags : List Bool) → IsNumbered first p.body → TellsPhases p → AreEventsOf p events → FindsShared events flags → TellsShared p events flags

-- what an access takes of a bank is its charge there
abbrev pub ClaimsAreCharges : Type 0
ClaimsAreCharges = (p : Program) (flags : List Bool) (event k : ℕ) (a : SourceAccess) → IsProgramTable (table_of p) → TakesCharge p flags event k a

-- the first access that takes more ports than are left tells where ports are spent
abbrev pub SpentPortsAreTold : Type 0
SpentPortsAreTold =
    (p : Program) (events : List Event) (flags : List Bool) → IsToldBefore p → TellsLoops p → AreEventsOf p events → length flags ≡ length events → TellsShared p events flags
    → TellsSpent p (spent_place (table_of p) events flags (moves_from p (loops_known p) 0 (all_seen events)))

-- the reads that find nothing left of their bank in their phase tell which come behind a write
abbrev pub LateReadsAreTold : Type 0
LateReadsAreTold =
    (p : Program) (events : List Event) (late : List Breach) → IsToldBefore p → TellsLoops p → TellsPhases p → AreEventsOf p events → FindsLate events (moves_from p (loops_known p) 0 (all_seen events)) late → TellsLate p late
