-- What a step keeps of what its commands did so far.
use Rattle.std.specs.Prelude.{◌≡◌, ℕ, ◌+◌, ◌<◌, ◌≤◌, ◌^◌, Vec, Bool, true, false, if◌then◌else◌, List, [], ◌∷◌, ◌++◌, length, map, slice_set, slice_index, slice_index_or, Option, Some, Result, Ok, Err, IfOk}
use Rattle.std.specs.List.{AllByRecursion}
use Rattle.std.specs.Global.{Global}
use Rattle.dh_value.specs.declared.words.Word.{Word}
use Rattle.dh_value.specs.Words as words
use Rattle.dh_value.specs.Words.{residue, width_of}
use Rattle.dh_base.specs.declared.places.Place.{Place}
use Rattle.dh_tree.specs.declared.tables.MemEntry.{MemEntry}
use Rattle.dh_meaning.specs.Paths.{Path}
use Rattle.dh_meaning.specs.Core.{Reach, CoreTerm, CoreTerms, CoreCommand, CoreCommands}
use Rattle.dh_meaning.specs.Core as core
use Rattle.dh_meaning.specs.Effects.{Event, reads, writes, faults, Effect, assigned_at, at_each, command_run, commands_run, holds_at, kept_at, kept_bits, kind_in, paths_where, stop_after, stored_at, tested_at}
use Rattle.dh_code.specs.declared.codes.Access.{Access}
use Rattle.dh_code.specs.declared.codes.Action.{Action}
use Rattle.dh_code.specs.declared.codes.Action.TheVariants.{Store, Assign, Keep, Choose}
use Rattle.dh_code.specs.declared.codes.Kept.{Kept}
use Rattle.dh_code.specs.declared.codes.FlatExpression.{FlatExpression}
use Rattle.dh_code.specs.declared.evaluating.StepContext.{StepContext}
use Rattle.dh_code.specs.declared.evaluating.StepStop.{StepStop}
use Rattle.dh_code.specs.declared.evaluating.StepStop.TheVariants as stop
use Rattle.dh_code.specs.declared.running.Write.{Write}
use Rattle.dh_code.specs.declared.running.UndoEntry.{UndoEntry}
use Rattle.dh_code.specs.declared.running.StepState.{StepState}
use Rattle.dh_code.specs.declared.spots.Element.{Element}
use Rattle.dh_code.specs.Banks.{all_banks}
use Rattle.dh_code.specs.Coded.{AreCoded, AreFlat, AreSlotsFrom, AreSlotsOf, IsCoded, IsFlat, IsFlatStore, operands_kept}
use Rattle.dh_code.specs.Operated.{IsValidAccess, Sight, operand_word, sight}
use Rattle.dh_code.specs.Plain.{all_plain}
use Rattle.dh_code.specs.Ranks.{ArePaths, IsPath, ranks_of}
use Rattle.dh_code.specs.Rows.{contents_of, spot_seen}
use Rattle.dh_code.specs.Scenes.{AreHeldValues, IsHeld, Spends, SpendsMore, begun_in, flat_events, flat_sight}
use Rattle.dh_code.specs.Slots.{Holds, Placing}
use Rattle.dh_code.specs.Spent.{AreUsedBy, HaveSpent}
use Rattle.dh_code.specs.Suited.{AreInsideFrom, CanDo, CanDoAll, CanEvaluate, CanEvaluateAll, IsInside, IsSuitedTarget, TargetInside}

-- the writes among events, in order
abbrev pub writes_in : List Event → List Write
writes_in [] = []
writes_in (reads number place path s ∷ es) = writes_in es
writes_in (writes number place path s value ∷ es) = record { memory = s.memory; position = s.position; bits = value } ∷ writes_in es
writes_in (faults number place path kind ∷ es) = writes_in es

-- the memories after writes, in order
abbrev pub memories_written : List Write → List (List ℕ) → List (List ℕ)
memories_written [] memories = memories
memories_written (w ∷ ws) memories = memories_written ws (slice_set memories w.memory (slice_set (slice_index_or memories w.memory []) w.position w.bits))

-- memories have these writes, in order
abbrev pub AreWritten : (old new : Vec (Vec ℕ Global) Global) → List Write → Type 0
AreWritten old new ws = contents_of new.items ≡ memories_written ws (contents_of old.items)

-- the slots before changes were made to them, in order
abbrev pub undone_slots : List UndoEntry → List ℕ → List ℕ
undone_slots [] slots = slots
undone_slots (c ∷ cs) slots = slice_set (undone_slots cs slots) c.slot c.before

-- a write of a value of the memory's kind
abbrev pub IsSmallWrite : List MemEntry → Write → Type 0
IsSmallWrite table w = w.bits < 2 ^ width_of (kind_in table w.memory)

-- a state of a step of this scene
pub record IsReadyState (s : StepContext) (state : StepState) : Type 0 where
  pub long : length state.banks.items ≡ all_banks s.entries.now
  pub room : length s.code.now.operations ≤ length state.given.items
  pub used : AreUsedBy s.step state.banks.items
  pub small : AllByRecursion (IsSmallWrite s.entries.now) state.writes.items

-- so many slots as before, and what they held before the step is the same
pub record KeepsBack (old new : StepState) : Type 0 where
  pub long : length new.variables.items ≡ length old.variables.items
  pub back : undone_slots new.changes.items new.variables.items ≡ undone_slots old.changes.items old.variables.items

-- undoing all changes leads to the same slots as before
abbrev pub GoBackAlike : (old new : StepState) → Type 0
GoBackAlike old new = undone_slots new.changes.items new.variables.items ≡ undone_slots old.changes.items old.variables.items

-- one slot is set
abbrev pub IsAssigned : (old new : StepState) → (slot bits : ℕ) → Type 0
IsAssigned old new slot bits = new.variables.items ≡ slice_set old.variables.items slot bits

-- the state keeps an effect, which has no stop
pub record Keeps (p : Placing) (table : List MemEntry) (e : Effect) (now : ℕ) (s : StepState) : Type 0 where
  pub variables : Holds p s.variables.items e.variables
  pub spent : HaveSpent table (all_plain e.events) now s.banks.items
  pub writes : s.writes.items ≡ writes_in e.events

-- commands with this effect end so: at the first stop
abbrev pub Ends : {A : Type 0} → Placing → List MemEntry → Effect → (now : ℕ) → Result A StepStop → StepState → Type 0
Ends p table e now (Ok a) s = Keeps p table e now s
Ends p table e now (Err (stop.At outcome)) s = stop_after table [] (all_plain e.events) ≡ Some outcome
Ends p table e now (Err stop.NoMemory) s = Unit {0}

-- for every effect that the state kept it keeps the effect of what ran, or the events stop so
abbrev pub Runs : {A : Type 0} → Placing → StepContext → StepState → Result A StepStop → StepState → (Effect → Effect) → Type 0
Runs p s old result new run = (e : Effect) → Keeps p s.entries.now e s.step old → Ends p s.entries.now (run e) s.step result new

-- Expressions, whatever they mean.

abbrev pub sight_in : StepState → (ranks : List ℕ) → Sight
sight_in state ranks = sight state.variables.items state.given.items ranks

-- behind the operations of an expression a state shows what is seen there
abbrev pub ShowsFlat : StepContext → (old new : StepState) → (ranks : List ℕ) → FlatExpression → Type 0
ShowsFlat s old new ranks f = sight_in new ranks ≡ flat_sight s (sight_in old ranks) f

-- nothing but what operations gave and banks spent is changed
pub record KeepsVariables (old new : StepState) : Type 0 where
  pub variables : new.variables ≡ old.variables
  pub writes : new.writes ≡ old.writes
  pub changes : new.changes ≡ old.changes

abbrev pub SpendsFlat : {A : Type 0} → StepContext → StepState → Result A StepStop → StepState → (ranks : List ℕ) → FlatExpression → Type 0
SpendsFlat s old result new ranks f = SpendsMore s old.banks.items result new.banks.items (flat_events s (sight_in old ranks) f)

-- nothing but a write and what banks spent is changed
pub record KeepsSlots (old new : StepState) : Type 0 where
  pub variables : new.variables ≡ old.variables
  pub given : new.given ≡ old.given
  pub changes : new.changes ≡ old.changes

-- a write is noted and paid for
abbrev pub Puts : {A : Type 0} → StepContext → StepState → Result A StepStop → StepState → Place → Element → Word → Type 0
Puts s old result new place element value =
    (es : List Event) → HaveSpent s.entries.now es s.step old.banks.items
    → Spends s.entries.now (es ++ writes 0 place [] (spot_seen element) (kept_bits s.entries.now element.memory value) ∷ []) s.step result new.banks.items
    × IfOk result (λ _. new.writes.items ≡ old.writes.items ++ record { memory = element.memory; position = element.position; bits = kept_bits s.entries.now element.memory value } ∷ [])

-- What code means.

-- the ranks of a path inside loops
pub record AreRanks (factors ranks : List ℕ) (path : Path) : Type 0 where
  pub inside : IsPath factors path
  pub are : ranks ≡ ranks_of factors path

-- the ranks of paths inside loops, by their numbers
abbrev pub ranks_chosen : (rows : List (List ℕ)) → (numbers : List ℕ) → List (List ℕ)
ranks_chosen rows numbers = map (λ i. slice_index_or rows i []) numbers

pub record AreRows (factors : List ℕ) (rows : List (List ℕ)) (numbers : List ℕ) (paths : List Path) : Type 0 where
  pub inside : ArePaths factors paths
  pub are : ranks_chosen rows numbers ≡ map (ranks_of factors) paths

abbrev pub AssignsVariable : {A : Type 0} → StepContext → StepState → Result A StepStop → StepState → (ranks : List ℕ) → FlatExpression → (first depth : ℕ) → Type 0
AssignsVariable s old result new ranks f first depth =
    (p : Placing) (factors : List ℕ) (path : Path) (deep entity : ℕ) (t : CoreTerm) → AreRanks factors ranks path
    → IsFlat p.held s.entries.now s.code.now t f → AreSlotsOf p.held entity first depth
    → IsInside p factors deep entity → CanEvaluate s.entries.now p factors t
    → Runs p s old result new (assigned_at (begun_in s) deep entity t path)

-- what operands that are kept show, modulo 2^64
abbrev pub bits_kept : Sight → List Kept → List ℕ
bits_kept w ks = map (λ k. residue (2 ^ 64) (words.value_of (operand_word w k.value))) ks

-- the slots with these bits in those of the variables, at a path of these ranks
abbrev pub slots_kept : (slots ranks : List ℕ) → (depth : ℕ) → List Kept → (bits : List ℕ) → List ℕ
slots_kept slots ranks depth [] bits = slots
slots_kept slots ranks depth (k ∷ ks) [] = slots
slots_kept slots ranks depth (k ∷ ks) (b ∷ bs) = slots_kept (slice_set slots (k.first + slice_index ranks depth) b) ranks depth ks bs

-- what a state shows of them, and that their variables are set to what was found
abbrev pub bits_found : StepState → (ranks : List ℕ) → List Kept → List ℕ
bits_found state ranks ks = bits_kept (sight_in state ranks) ks

abbrev pub SetsKept : (old new : StepState) → (ranks : List ℕ) → (depth : ℕ) → List Kept → (found : List ℕ) → Type 0
SetsKept old new ranks depth ks found = new.variables.items ≡ slots_kept old.variables.items ranks depth ks found

abbrev pub KeepsAll : {A : Type 0} → StepContext → StepState → Result A StepStop → StepState → (ranks : List ℕ) → (from to : ℕ) → List Kept → (depth : ℕ) → Type 0
KeepsAll s old result new ranks from to values depth =
    (p : Placing) (factors : List ℕ) (path : Path) (deep entity : ℕ) (ts : CoreTerms) → AreRanks factors ranks path
    → AreFlat p.held s.entries.now s.code.now ts from to (operands_kept values) → AreSlotsFrom p.held entity depth values
    → AreInsideFrom p factors deep entity ts → CanEvaluateAll s.entries.now p factors ts
    → Runs p s old result new (kept_at (begun_in s) deep entity ts path)

abbrev pub Stores : {A : Type 0} → StepContext → StepState → Result A StepStop → StepState → (ranks : List ℕ) → FlatExpression → Access → Type 0
Stores s old result new ranks f a =
    (p : Placing) (factors : List ℕ) (path : Path) (reach : Reach) (target : core.Target) (t : CoreTerm) → AreRanks factors ranks path
    → IsFlatStore p.held s.entries.now s.code.now reach target t f a
    → IsSuitedTarget s.entries.now reach.memory target → TargetInside p factors target → CanEvaluate s.entries.now p factors t
    → Runs p s old result new (stored_at (begun_in s) reach target t path)

-- a test is evaluated, and the answer is whether it holds
abbrev pub Decides : StepContext → StepState → Result Bool StepStop → StepState → (ranks : List ℕ) → FlatExpression → Type 0
Decides s old result new ranks f =
    (p : Placing) (factors : List ℕ) (path : Path) (t : CoreTerm) → AreRanks factors ranks path
    → IsFlat p.held s.entries.now s.code.now t f → CanEvaluate s.entries.now p factors t
    → Runs p s old result new (tested_at (begun_in s) t path)
    × ((e : Effect) → Keeps p s.entries.now e s.step old → IfOk result (λ holds. holds_at (begun_in s) e.variables t path ≡ holds))

-- a command is done at paths
abbrev pub DoesOne : {A : Type 0} → StepContext → StepState → Result A StepStop → StepState → (rows : List (List ℕ)) → (numbers : List ℕ) → Action → Type 0
DoesOne s old result new rows numbers action =
    (p : Placing) (factors : List ℕ) (paths : List Path) (c : CoreCommand) → AreRows factors rows numbers paths
    → IsCoded p.held s.entries.now s.code.now action c → CanDo s.entries.now p factors c
    → Runs p s old result new (command_run (begun_in s) paths c)

-- a test is evaluated at paths, and these are the paths at which it holds and the others
abbrev pub AreParts : List (List ℕ) → (factors : List ℕ) → (paths : List Path) → (Path → Bool) → (List ℕ × List ℕ) → Type 0
AreParts rows factors paths holds parts = AreRows factors rows parts.0 (paths_where true holds paths) × AreRows factors rows parts.1 (paths_where false holds paths)

-- a path is put on one side or the other
abbrev pub IsAside : Bool → (path : ℕ) → (old new : List ℕ × List ℕ) → Type 0
IsAside holds path old new = (new.0 ≡ (if holds then old.0 ++ path ∷ [] else old.0)) × (new.1 ≡ (if holds then old.1 else old.1 ++ path ∷ []))

abbrev pub Parts : StepContext → StepState → Result (Vec ℕ Global × Vec ℕ Global) StepStop → StepState → (rows : List (List ℕ)) → (numbers : List ℕ) → FlatExpression → Type 0
Parts s old result new rows numbers f =
    (p : Placing) (factors : List ℕ) (paths : List Path) (t : CoreTerm) → AreRows factors rows numbers paths
    → IsFlat p.held s.entries.now s.code.now t f → CanEvaluate s.entries.now p factors t
    → Runs p s old result new (at_each (tested_at (begun_in s) t) paths)
    × ((e : Effect) → Keeps p s.entries.now e s.step old → IfOk result (λ parts. AreParts rows factors paths (holds_at (begun_in s) e.variables t) (parts.0.items, parts.1.items)))

-- a command that can be done, wherever it stands
abbrev pub CanBeDone : StepContext → Action → Type 0
CanBeDone s (Store f a) = IsHeld s.code.now.operations f × IsValidAccess s.entries.now a
CanBeDone s (Assign f first depth) = IsHeld s.code.now.operations f
CanBeDone s (Keep from to values depth) = AreHeldValues s.code.now.operations from to values
CanBeDone s (Choose f one two) = IsHeld s.code.now.operations f

-- a list of commands is done at paths
abbrev pub DoesAll : {A : Type 0} → StepContext → StepState → Result A StepStop → StepState → (rows : List (List ℕ)) → (numbers : List ℕ) → Option ℕ → Type 0
DoesAll s old result new rows numbers list =
    (p : Placing) (factors : List ℕ) (paths : List Path) (cs : CoreCommands) → AreRows factors rows numbers paths
    → AreCoded p.held s.entries.now s.code.now list cs → CanDoAll s.entries.now p factors cs
    → Runs p s old result new (commands_run (begun_in s) paths cs)
