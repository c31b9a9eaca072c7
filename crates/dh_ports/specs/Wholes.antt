-- What happens in a whole program, and what each walk over it is to tell.
use Rattle.std.specs.Prelude.{◌≡◌, ◌↔◌, ℕ, ◌+◌, ◌<◌, ◌==◌, Bool, List, [], ◌∷◌, map, Contains, Option, Some, None, slice_get}
use Rattle.std.specs.Option.{is_some}
use Rattle.dh_base.specs.declared.places.Place.{Place}
use Rattle.dh_base.specs.declared.rules.Rule.TheVariants as rule
use Rattle.dh_tree.specs.declared.breaches.Breach.{Breach}
use Rattle.dh_tree.specs.declared.trees.counters.Counter.{Counter}
use Rattle.dh_tree.specs.declared.tables.MemEntry.{MemEntry}
use Rattle.dh_tree.specs.Elements.{banks_of}
use Rattle.dh_tree.specs.LeastBreach.{breach}
use Rattle.dh_tree.specs.Memories.{memories_of, number_in, table_of}
use Rattle.dh_tree.specs.PlainTrees.{Term, term, Program}
use Rattle.dh_meaning.specs.OnePhase.{in_one_phase}
use Rattle.dh_meets.specs.Charges.{charge}
use Rattle.dh_meets.specs.Ports.{KeepsPorts, PortsSpent, ReadsAfterWrite}
use Rattle.dh_meets.specs.Sharing.{shared}
use Rattle.dh_meets.specs.SourceEvents.{Element, SourceAccess, accesses_in, trace}
use Rattle.dh_events.specs.declared.events.Event.{Event}
use Rattle.dh_events.specs.declared.events.Site.{Site}
use Rattle.dh_events.specs.declared.structures.Structure.{Structure}
use Rattle.dh_events.specs.Accesses.{entity_in, element_in}
use Rattle.dh_ports.specs.Claims.{first_bank_of, claims_of}
use Rattle.dh_events.specs.Elements.{AreReads, no_clocks}
use Rattle.dh_ports.specs.Expanded.{all_taken}
use Rattle.dh_events.specs.Incidents.{PortEvent, touches, assigned, arm_begins, arm_ends, begins, next, ends, closed, incidents}
use Rattle.dh_ports.specs.Layouts.{no_rounds}
use Rattle.dh_events.specs.Noted.{all_seen}
use Rattle.dh_events.specs.Rounds.{rounds_in}
use Rattle.dh_ports.specs.Scanned.{spending_step}
use Rattle.dh_events.specs.Stages.{stages_in}
use Rattle.dh_events.specs.Structures.{StructuresAreDistinct}

-- no command is counted
abbrev pub no_stages : ℕ → ℕ
no_stages n = 0

-- what happens in a program's body
abbrev pub happenings_of : Program → List PortEvent
happenings_of p = incidents (stages_in p.body no_stages) None closed p.body

-- of each incident, those that are accesses alone
abbrev pub at_touch : {A : Type 0} → PortEvent → A → List A → List A
at_touch (touches access writes site) a rest = a ∷ rest
at_touch (assigned entity) a rest = rest
at_touch arm_begins a rest = rest
at_touch arm_ends a rest = rest
at_touch begins a rest = rest
at_touch next a rest = rest
at_touch ends a rest = rest

abbrev pub at_touches : {A : Type 0} → List PortEvent → List A → List A
at_touches (x ∷ xs) (a ∷ rest) = at_touch x a (at_touches xs rest)
at_touches _ _ = []

-- an access by what it says of an element
pub record Touched : Type 0 where
  pub place : Place
  pub entity : Option ℕ
  pub element : Element
  pub writes : Bool

abbrev pub touched_by : Term → Bool → Touched
touched_by (term place kind form) writes = record { place = place; entity = entity_in form; element = element_in form; writes = writes }

abbrev pub touched : List PortEvent → List Touched
touched [] = []
touched (touches access writes site ∷ xs) = touched_by access writes ∷ touched xs
touched (assigned entity ∷ xs) = touched xs
touched (arm_begins ∷ xs) = touched xs
touched (arm_ends ∷ xs) = touched xs
touched (begins ∷ xs) = touched xs
touched (next ∷ xs) = touched xs
touched (ends ∷ xs) = touched xs

abbrev pub of_access : SourceAccess → Touched
of_access a = record { place = a.place; entity = a.entity; element = a.element; writes = a.writes }

-- where the accesses of incidents stand
abbrev pub sites_in : List PortEvent → List Site
sites_in [] = []
sites_in (touches access writes site ∷ xs) = site ∷ sites_in xs
sites_in (assigned entity ∷ xs) = sites_in xs
sites_in (arm_begins ∷ xs) = sites_in xs
sites_in (arm_ends ∷ xs) = sites_in xs
sites_in (begins ∷ xs) = sites_in xs
sites_in (next ∷ xs) = sites_in xs
sites_in (ends ∷ xs) = sites_in xs

-- two accesses stand in one Straight phase exactly where their phases have one number
abbrev pub TellsPhases : Program → Type 0
TellsPhases p = (i j : ℕ) (s t : Site) → slice_get (sites_in (happenings_of p)) i ≡ Some s → slice_get (sites_in (happenings_of p)) j ≡ Some t → in_one_phase p i j ≡ (s.phase == t.phase)

-- the unrolled loops round what stands innermost in this one
abbrev pub loops_known : Program → Option ℕ → List Counter
loops_known p None = []
loops_known p (Some id) = rounds_in [] p.body no_rounds id

-- of each access the loops round it
abbrev pub TellsLoops : Program → Type 0
TellsLoops p = (k : ℕ) (s : Site) (a : SourceAccess) → slice_get (sites_in (happenings_of p)) k ≡ Some s → slice_get (accesses_in (trace p)) k ≡ Some a → loops_known p s.round ≡ a.site.loops

-- events that are a program's, whose reads have the numbers and moments of their indices
pub record AreEventsOf (p : Program) (events : List Event) : Type 0 where
  pub seen : all_seen events ≡ happenings_of p
  pub known : List Structure
  pub distinct : StructuresAreDistinct known
  pub reads : AreReads known no_clocks 0 events

-- flags that tell of each access whether it shares an earlier one
abbrev pub TellsShared : Program → List Event → List Bool → Type 0
TellsShared p events flags = (k : ℕ) (flag : Bool) → slice_get (at_touches (all_seen events) flags) k ≡ Some flag → flag ≡ is_some (shared p k)

-- the banks of the memory of a number
abbrev pub entry_bank_count : Option MemEntry → ℕ
entry_bank_count None = 0
entry_bank_count (Some e) = banks_of e.shape.dims

abbrev pub memory_bank_count : Program → (number : ℕ) → ℕ
memory_bank_count p number = entry_bank_count (slice_get (table_of p) number)

-- what an access takes of a bank is its charge: of a memory's bank by the number of its entity and of the bank
abbrev pub TakesCharge : Program → (flags : List Bool) → (event k : ℕ) → SourceAccess → Type 0
TakesCharge p flags event k a =
    (memory number bank : ℕ) → number_in (memories_of p) (Some memory) ≡ Some number → bank < memory_bank_count p number → slice_get (accesses_in (trace p)) k ≡ Some a → slice_get flags event ≡ Some (is_some (shared p k))
    → all_taken (first_bank_of (table_of p) number + bank) (map (spending_step flags) (claims_of p event a)) ≡ charge p memory bank k

-- the first access that takes too many ports is where ports are spent; where there is none, they are kept
abbrev pub TellsSpent : Program → Option Place → Type 0
TellsSpent p None = KeepsPorts p
TellsSpent p (Some place) = PortsSpent p place

-- the breaches of reads behind writes are these
abbrev pub TellsLate : Program → List Breach → Type 0
TellsLate p late = (place : Place) → Contains late (breach rule.ReadAfterWrite place) ↔ ReadsAfterWrite p place
