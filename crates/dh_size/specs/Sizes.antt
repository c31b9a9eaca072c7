-- The size of accesses, from what the code knows of each: whether it shares, and the unrolled loops round it.
use Rattle.std.specs.Prelude.{ℕ, zero, suc, ◌+◌, ◌*◌, ◌≤◌, ◌==◌, ◌&&◌, nat_lt, Bool, false, if◌then◌else◌, List, [], ◌∷◌, length, Option, Some, None, Vec}
use Rattle.std.specs.Global.{Global}
use Rattle.std.specs.List.{list_any}
use Rattle.std.specs.Option.{is_some}
use Rattle.dh_tree.specs.declared.tables.Dim.{Dim}
use Rattle.dh_tree.specs.declared.trees.counters.Counter.{Counter}
use Rattle.dh_tree.specs.declared.trees.expressions.Expr.{Expr}
use Rattle.dh_tree.specs.declared.trees.programs.Tree.{Tree}
use Rattle.dh_tree.specs.Counters.{counters_of}
use Rattle.dh_tree.specs.Elements.{banks_of}
use Rattle.dh_tree.specs.Memories.{Memory, memories_of, memory_in}
use Rattle.dh_tree.specs.PlainTrees.{Program}
use Rattle.dh_tree.specs.Seen.{program_seen}
use Rattle.dh_meaning.specs.Ways.{Way, way_to}
use Rattle.dh_meets.specs.Charges.{bank_named, bank_reached, may_reach, paths_of}
use Rattle.dh_base.specs.Limits.{most_copies}
use Rattle.dh_meets.specs.SourceEvents.{SourceAccess}
use Rattle.dh_ways.specs.Kept as kept
use Rattle.dh_ways.specs.Seen.{way_seen}
use Rattle.dh_events.specs.declared.events.Event.{Event}
use Rattle.dh_events.specs.Accesses.{loops_listed}
use Rattle.dh_events.specs.Incidents.{PortEvent, touches, assigned, arm_begins, arm_ends, begins, next, ends}
use Rattle.dh_events.specs.Noted.{all_seen}
use Rattle.dh_ports.specs.Claims.{access_of, source_of}
use Rattle.dh_ports.specs.Copies.{copies_round}
use Rattle.dh_lengths.specs.SharedReads.{told}

-- Banks.

-- an access reaches this bank of a memory of these dimensions at some path
abbrev pub is_reached : Program → List Dim → SourceAccess → (bank : ℕ) → Bool
is_reached p dims a bank = list_any (λ path. bank_reached (counters_of p) dims a path a.element == bank) (paths_of a)

-- of how many numbers below a number a test is true
abbrev pub count_below : (ℕ → Bool) → (n : ℕ) → ℕ
count_below test zero = 0
count_below test (suc n) = (if test n then 1 else 0) + count_below test n

-- the banks of a memory of these dimensions that it reaches
abbrev pub banks_within : Program → List Dim → SourceAccess → ℕ
banks_within p dims a = count_below (is_reached p dims a) (banks_of dims)

-- the banks of its memory that it reaches
abbrev pub memory_banks_reached : Program → Option Memory → SourceAccess → ℕ
memory_banks_reached p None a = 0
memory_banks_reached p (Some m) a = banks_within p m.shape.dims a

-- an access through views reaches this bank behind them at some path
abbrev pub is_reached_through : Program → Way → SourceAccess → (bank : ℕ) → Bool
is_reached_through p w a bank = list_any (λ path. nat_lt (bank_named p w a path) (banks_of w.is.shape.dims) && may_reach w.steps (bank_named p w a path) bank) (paths_of a)

-- the banks of the memory behind the views that it reaches
abbrev pub banks_through : Program → Way → Option Memory → SourceAccess → ℕ
banks_through p w None a = 0
banks_through p w (Some m) a = count_below (is_reached_through p w a) (banks_of m.shape.dims)

abbrev pub banks_led : Program → Option Way → SourceAccess → ℕ
banks_led p None a = memory_banks_reached p (memory_in (memories_of p) a.entity) a
banks_led p (Some w) a = banks_through p w (memory_in (memories_of p) w.memory) a

-- the banks that it reaches of the memory that its name leads to
abbrev pub banks_met : Program → SourceAccess → ℕ
banks_met p a = banks_led p (way_to p a.entity) a

-- how many marks are set
abbrev pub marked : List Bool → ℕ
marked [] = 0
marked (m ∷ ms) = (if m then 1 else 0) + marked ms

-- Accesses.

-- the size of an access that shares or does not
abbrev pub size_by : Program → (shares : Bool) → SourceAccess → ℕ
size_by p shares a = length (paths_of a) * suc (if shares then 0 else banks_met p a)

-- the sizes of the accesses among incidents, numbered from one on, by the loops that are known and by a list of shares
abbrev pub sizes_from : Program → (loops : Option ℕ → List Counter) → (shares : List (Option ℕ)) → (number : ℕ) → List PortEvent → ℕ
sizes_from p loops shares number [] = 0
sizes_from p loops shares number (touches access writes site ∷ xs) = size_by p (is_some (told shares number)) (access_of (loops site.round) false access) + sizes_from p loops shares (suc number) xs
sizes_from p loops shares number (assigned entity ∷ xs) = sizes_from p loops shares number xs
sizes_from p loops shares number (arm_begins ∷ xs) = sizes_from p loops shares number xs
sizes_from p loops shares number (arm_ends ∷ xs) = sizes_from p loops shares number xs
sizes_from p loops shares number (begins ∷ xs) = sizes_from p loops shares number xs
sizes_from p loops shares number (next ∷ xs) = sizes_from p loops shares number xs
sizes_from p loops shares number (ends ∷ xs) = sizes_from p loops shares number xs

-- each of them stands in few copies
abbrev pub EventsHaveFewCopies : (loops : Option ℕ → List Counter) → List PortEvent → Type 0
EventsHaveFewCopies loops [] = Unit {0}
EventsHaveFewCopies loops (touches access writes site ∷ xs) = (copies_round (loops site.round) ≤ most_copies) × EventsHaveFewCopies loops xs
EventsHaveFewCopies loops (assigned entity ∷ xs) = EventsHaveFewCopies loops xs
EventsHaveFewCopies loops (arm_begins ∷ xs) = EventsHaveFewCopies loops xs
EventsHaveFewCopies loops (arm_ends ∷ xs) = EventsHaveFewCopies loops xs
EventsHaveFewCopies loops (begins ∷ xs) = EventsHaveFewCopies loops xs
EventsHaveFewCopies loops (next ∷ xs) = EventsHaveFewCopies loops xs
EventsHaveFewCopies loops (ends ∷ xs) = EventsHaveFewCopies loops xs

-- Of a program as the code knows it.

-- the banks that an access in these loops reaches: of a memory of these dimensions, through the views on a way, and of the
-- memory that its name leads to
abbrev pub own_banks : Tree → List Counter → List Dim → Expr → ℕ
own_banks tree loops dims e = banks_within (program_seen tree) dims (source_of loops false e)

abbrev pub led_banks : Tree → List Counter → kept.KeptWay → Expr → ℕ
led_banks tree loops w e = banks_through (program_seen tree) (way_seen w) (memory_in (memories_of (program_seen tree)) w.memory) (source_of loops false e)

abbrev pub met_banks : Tree → List Counter → Expr → ℕ
met_banks tree loops e = banks_met (program_seen tree) (source_of loops false e)

-- its size, where it shares or does not
abbrev pub size_of_access : Tree → List Counter → Expr → (shares : Bool) → ℕ
size_of_access tree loops e shares = size_by (program_seen tree) shares (source_of loops false e)

-- the sizes of the accesses among events, by the loops that are known and by a list of shares
abbrev pub event_sizes : Tree → (rounds : List (Vec Counter Global)) → (shares : List (Option ℕ)) → List Event → ℕ
event_sizes tree rounds shares events = sizes_from (program_seen tree) (loops_listed rounds) shares 0 (all_seen events)
