-- What is known of a program's loops, memories and views before its accesses claim banks.
use Rattle.std.specs.Prelude.{◌≡◌, ℕ, ◌≤◌, Bool, List, [], Option, Some, map, slice_get, Vec}
use Rattle.std.specs.Global.{Global}
use Rattle.std.specs.List.{AllByRecursion}
use Rattle.dh_tree.specs.declared.trees.counters.Counter.{Counter}
use Rattle.dh_tree.specs.Memories.{memories_of, table_of}
use Rattle.dh_tree.specs.PlainTrees.{Program}
use Rattle.dh_meaning.specs.Ways.{all_bindings_of, ways_of}
use Rattle.dh_ways.specs.declared.ways.Hidden.{Hidden}
use Rattle.dh_ways.specs.Kept.{KeptLed}
use Rattle.dh_ways.specs.Leading.{LeadsTo}
use Rattle.dh_ways.specs.Seen.{led_seen}
use Rattle.dh_ways.specs.Stands.{hidden_of_program}
use Rattle.dh_events.specs.declared.dependence.Scope.{Scope}
use Rattle.dh_events.specs.declared.events.Event.{Event}
use Rattle.dh_events.specs.declared.events.Event.TheVariants as event
use Rattle.dh_ports.specs.declared.moves.ProgramLayout.{ProgramLayout}
use Rattle.dh_events.specs.Accesses.{loops_listed}
use Rattle.dh_ports.specs.Carriers.{AreEach}
use Rattle.dh_ports.specs.Claims.{AreBases}
use Rattle.dh_ports.specs.Copies.{copies_round}
use Rattle.dh_events.specs.Rounds.{rounds_in, rounds_of}
use Rattle.dh_events.specs.Scopes.{scope_at, scopes_in, AreScopes}
use Rattle.dh_base.specs.Limits.{most_copies}

-- no loop is known
abbrev pub no_rounds : ℕ → List Counter
no_rounds id = []

-- the unrolled loops of a program are noted so
abbrev pub AreRoundsOf : Program → List (Vec Counter Global) → Type 0
AreRoundsOf p rounds = rounds_of rounds ≡ rounds_in [] p.body no_rounds

-- where loops are unrolled, it is noted where the variables of the body are declared
abbrev pub AreScopesNoted : Program → (rounds : List (Vec Counter Global)) → (scopes : List (Option Scope)) → Type 0
AreScopesNoted p rounds scopes = (id : ℕ) → (rounds_of rounds id ≡ [] → ⊥) → scope_at scopes ≡ scopes_in 0 p.body (scope_at [])

-- where loops are unrolled, it is known where variables are declared
abbrev pub AreScopesWhere : Program → (rounds : List (Vec Counter Global)) → (scopes : List (Option Scope)) → Type 0
AreScopesWhere p rounds scopes = (id : ℕ) → (rounds_of rounds id ≡ [] → ⊥) → AreScopes (all_bindings_of p) scopes

-- Where the variables of a body were noted, they and what its views keep are: of each program that has these views, of
-- which these variables keep the offsets.
abbrev pub NotesViews : List KeptLed → List Hidden → (rounds : List (Vec Counter Global)) → (old new : List (Option Scope)) → Type 0
NotesViews ways hidden rounds old new =
    (p : Program) → map led_seen ways ≡ ways_of p → hidden ≡ hidden_of_program p → AreScopesNoted p rounds old → AreScopesWhere p rounds new

-- the way of each view of a program leads to a memory
abbrev pub AllWaysLead : Program → Type 0
AllWaysLead p = AllByRecursion (λ l. LeadsTo (memories_of p) l.way) (ways_of p)

pub record IsLayout (p : Program) (layout : ProgramLayout) : Type 0 where
  pub bases : AreBases (table_of p) layout.bases.items
  pub rounds : AreRoundsOf p layout.rounds.items
  pub scopes : AreScopesWhere p layout.rounds.items layout.scopes.items
  pub ways : map led_seen layout.ways ≡ ways_of p
  pub carriers : AreEach layout.ways layout.carriers.items

-- no access stands in too many copies
abbrev pub HaveFewCopies : List (Vec Counter Global) → List Event → Type 0
HaveFewCopies rounds events =
    (i : ℕ) (access : _) (writes : Bool) (phase : ℕ) (round : Option ℕ) (element : Option ℕ) (newest : ℕ) → slice_get events i ≡ Some (event.Touch writes phase round access element newest) → copies_round (loops_listed rounds round) ≤ most_copies
