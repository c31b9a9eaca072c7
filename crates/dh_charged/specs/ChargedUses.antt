-- What reads and writes of a block charge: no more on a bank than their accesses do in the program. It is told of the
-- sites of a block, each of which tells of an access of the program.
use Rattle.std.specs.Prelude.{◌≡◌, ◌⊎◌, ℕ, ◌<◌, ◌≤◌, ◌^◌, true, List, length, map, slice_get, Option, Some, None}
use Rattle.std.specs.List.{AllByRecursion}
use Rattle.dh_tree.specs.declared.trees.counters.Counter.{Counter}
use Rattle.dh_tree.specs.Counters.{counters_of}
use Rattle.dh_tree.specs.Elements.{banks_of}
use Rattle.dh_tree.specs.Memories.{Memory, memory_in, memories_of, number_in}
use Rattle.dh_tree.specs.PlainTrees.{Program, TermForm}
use Rattle.dh_tree.specs.Seen.{program_seen}
use Rattle.dh_meaning.specs.CoreOf.{dims_by, entity_number}
use Rattle.dh_meaning.specs.Paths.{Path, copies_in}
use Rattle.dh_meaning.specs.Ways.{Way, all_bindings_of, base_of, way_to}
use Rattle.dh_viewing.specs.Carried.{HasShift}
use Rattle.dh_ways.specs.Leading.{LeadsTo}
use Rattle.dh_meets.specs.Charges.{bank_reached, charge, depends, may_reach}
use Rattle.dh_meets.specs.Sharing.{shared}
use Rattle.dh_meets.specs.SourceEvents.{SourceAccess, accesses_in, trace}
use Rattle.dh_events.specs.Accesses.{element_in}
use Rattle.dh_plan.specs.declared.operations.Operation.{Operation}
use Rattle.dh_plan.specs.SoundPlans.{operations_charge}
use Rattle.dh_expressions.specs.declared.paths.Level.{Level}
use Rattle.dh_expressions.specs.declared.scenes.Scene.{Scene}
use Rattle.dh_expressions.specs.Copying.{groups_by}
use Rattle.dh_expressions.specs.Counting.{places_by}
use Rattle.dh_expressions.specs.Levels.{leader_number}
use Rattle.dh_expressions.specs.Named.{shifts_on}
use Rattle.dh_expressions.specs.Numbers.{narrowed}
use Rattle.dh_expressions.specs.ReachedBanks.{bank_by}
use Rattle.dh_formed.specs.Formed.{BlockSite}
use Rattle.dh_commands.specs.ShownVariables.{level_factors}
use Rattle.dh_laid.specs.LaidUses.{AreLedUses}
use Rattle.dh_blocks.specs.PathsOfLevels.{AreSpread}

-- Sites.

-- levels are those of these unrolled loops
pub record AreLevelsOf (levels : List Level) (loops : List Counter) : Type 0 where
  pub entities : map (λ (l : Level). l.entity) levels ≡ map (λ (c : Counter). c.entity) loops
  pub factors : map (λ (l : Level). l.factor) levels ≡ map (λ (c : Counter). c.factor) loops

-- a bank of the view that has a way
abbrev pub IsBankOf : Option Way → (bank : ℕ) → Type 0
IsBankOf None bank = Unit {0}
IsBankOf (Some w) bank = bank < banks_of w.is.shape.dims

-- a bank, with its place, that is reached from a bank of what is named: of a memory that bank itself
abbrev pub IsReachedFrom : Option Way → (named place : ℕ) → ℕ × ℕ → Type 0
IsReachedFrom None named place b = (b.0 ≡ named) × (b.1 ≡ place)
IsReachedFrom (Some w) named place b = (may_reach w.steps named b.0 ≡ true) × (b.1 ≡ place)

-- a site tells where an access of the program stands
pub record TellsAccess (scene : Scene) (levels : List Level) (site : BlockSite) (a : SourceAccess) : Type 0 where
  pub form : TermForm
  pub memory_is : site.memory ≡ entity_number (number_in (memories_of (program_seen scene.program.now)) (base_of (way_to (program_seen scene.program.now) a.entity) a.entity))
  pub element_is : element_in form ≡ a.element
  pub leader_is : (path : ℕ) → site.standing.leader path ≡ leader_number levels (depends (all_bindings_of (program_seen scene.program.now)) a) path
  pub bank_is : (path : ℕ) → site.standing.bank path ≡ narrowed (bank_by (program_seen scene.program.now) (way_to (program_seen scene.program.now) a.entity) levels site.memory form path)
  pub places_is : (path : ℕ) → site.standing.places path ≡ places_by site.standing.leader site.standing.bank (λ p. groups_by levels (shifts_on (way_to (program_seen scene.program.now) a.entity)) p) path
  pub reaches : (named place : ℕ) → IsBankOf (way_to (program_seen scene.program.now) a.entity) named
      → AllByRecursion (IsReachedFrom (way_to (program_seen scene.program.now) a.entity) named place) (site.standing.reaches named place)
  pub long : length site.standing.guards ≡ copies_in (level_factors levels)
  pub loops : AreLevelsOf levels a.site.loops

-- An access is of a memory that is declared, or leads to one through views; memories and banks are few. Its loops round the
-- deepest shift are none where none of the views is a shift.
pub record IsOfSmallMemory (p : Program) (a : SourceAccess) : Type 0 where
  pub entity : ℕ
  pub memory : Memory
  pub number : ℕ
  pub is : base_of (way_to p a.entity) a.entity ≡ Some entity
  pub declared : memory_in (memories_of p) (Some entity) ≡ Some memory
  pub number_is : number_in (memories_of p) (Some entity) ≡ Some number
  pub small : number < 2 ^ 32
  pub inside : (path : Path) → bank_reached (counters_of p) (dims_by memory.shape.dims (way_to p a.entity)) a path a.element < banks_of (dims_by memory.shape.dims (way_to p a.entity))
  pub few : banks_of (dims_by memory.shape.dims (way_to p a.entity)) ≤ 2 ^ 32
  pub leads : (w : Way) → way_to p a.entity ≡ Some w → LeadsTo (memories_of p) w
  pub shifts : (w : Way) → way_to p a.entity ≡ Some w → (w.shifts ≡ 0) ⊎ HasShift (map (λ s. s.is) w.steps)

-- each site of a block is of an access of the program
pub record IsSiteAt (scene : Scene) (levels : List Level) (number : ℕ) (site : BlockSite) : Type 0 where
  pub access : SourceAccess
  pub at : slice_get (accesses_in (trace (program_seen scene.program.now))) number ≡ Some access
  pub tells : TellsAccess scene levels site access
  pub memory : IsOfSmallMemory (program_seen scene.program.now) access

abbrev pub AreSitesAt : Scene → List Level → (sites : ℕ → Option BlockSite) → Type 0
AreSitesAt scene levels sites = (number : ℕ) (s : BlockSite) → sites number ≡ Some s → IsSiteAt scene levels number s

-- the scene tells each read that shares an earlier one
abbrev pub HasShares : Scene → Type 0
HasShares scene = (number earlier : ℕ) → shared (program_seen scene.program.now) number ≡ Some earlier → slice_get scene.shares.now number ≡ Some (Some earlier)

-- Charges.

-- of an access, on a bank of a memory, operations charge no more than the program does
abbrev pub OperationsCharge : Program → List Operation → Type 0
OperationsCharge p os =
    (entity memory bank access : ℕ) → number_in (memories_of p) (Some entity) ≡ Some memory → operations_charge access memory bank os ≤ charge p entity bank access

abbrev pub LedUsesCharge : Type 0
LedUsesCharge =
    (scene : Scene) (levels : List Level) (sites : ℕ → Option BlockSite) (os : List Operation)
    → AreSpread levels → HasShares scene → AreLedUses scene sites os → AreSitesAt scene levels sites → OperationsCharge (program_seen scene.program.now) os
