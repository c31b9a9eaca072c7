-- What stays as it is during a step, and how an evaluation ends.
use Rattle.std.specs.Prelude.{◌≡◌, ℕ, ◌^◌, ◌<◌, ◌≤◌, List, [], ◌∷◌, ◌++◌, length, slice_get, slice_range, slice_set, Option, Some, None, Result, Ok, Err}
use Rattle.std.specs.List.{AllByRecursion}
use Rattle.dh_base.specs.declared.places.Place.{Place}
use Rattle.dh_value.specs.declared.words.Word.{Word}
use Rattle.dh_value.specs.Words.{width_of}
use Rattle.dh_tree.specs.declared.tables.MemEntry.{MemEntry}
use Rattle.dh_tree.specs.Shapes.{IsMemory}
use Rattle.dh_tree.specs.Tables.{elements_in, most_elements}
use Rattle.dh_tree.specs.Elements.{Spot}
use Rattle.dh_meaning.specs.Effects.{Begun, Event, reads, writes, kind_in, stop_after}
use Rattle.dh_code.specs.declared.codes.Access.{Access}
use Rattle.dh_code.specs.declared.codes.CodeOperation.{CodeOperation}
use Rattle.dh_code.specs.declared.codes.FlatExpression.{FlatExpression}
use Rattle.dh_code.specs.declared.codes.Action.{Action}
use Rattle.dh_code.specs.declared.codes.Action.TheVariants.{Store, Assign, Keep, Choose}
use Rattle.dh_code.specs.declared.codes.Kept.{Kept}
use Rattle.dh_code.specs.declared.codes.ListedCommand.{ListedCommand}
use Rattle.dh_code.specs.declared.codes.Code.{Code}
use Rattle.dh_code.specs.declared.evaluating.StepContext.{StepContext}
use Rattle.dh_code.specs.declared.evaluating.StepStop.{StepStop}
use Rattle.dh_code.specs.declared.evaluating.StepStop.TheVariants as stop
use Rattle.dh_code.specs.declared.spending.Bank.{Bank}
use Rattle.dh_code.specs.declared.spots.Element.{Element}
use Rattle.dh_code.specs.declared.spots.Spread.{Spread}
use Rattle.dh_code.specs.Banks.{AreFirsts, HasBank}
use Rattle.dh_code.specs.Operated.{IsValidAccess, IsValidOperand, IsOperation, Sight, access_spot, events_after, operand_word, events_of_operation, word_of_operation, sight, sight_after}
use Rattle.dh_code.specs.declared.codes.CodeOperation.TheVariants.{Read}
use Rattle.dh_code.specs.Rows.{contents_of, memory_element, spot_seen}
use Rattle.dh_code.specs.Spent.{HaveSpent}

-- what the step began with
abbrev pub begun_in : StepContext → Begun
begun_in s = record { table = s.entries.now; memories = contents_of s.memories.now }

-- every element is a value of its memory's kind
abbrev pub AreSmall : List MemEntry → List (List ℕ) → Type 0
AreSmall table memories = (memory position : ℕ) → memory_element memories memory position < 2 ^ width_of (kind_in table memory)

-- the operations of an expression stand in code, and its value is an operand
pub record IsHeld (os : List CodeOperation) (f : FlatExpression) : Type 0 where
  pub within : f.from ≤ f.to
  pub there : f.to ≤ length os
  pub operand : IsValidOperand f.value

-- the operations of values stand in code, and they are operands
pub record AreHeldValues (os : List CodeOperation) (from to : ℕ) (values : List Kept) : Type 0 where
  pub within : from ≤ to
  pub there : to ≤ length os
  pub operands : AllByRecursion (λ k. IsValidOperand k.value) values

-- a list of commands begins before a number
abbrev pub IsEarlier : (at : ℕ) → Option ℕ → Type 0
IsEarlier at None = Unit {0}
IsEarlier at (Some n) = n < at

abbrev pub IsAction : List MemEntry → List CodeOperation → (at : ℕ) → Action → Type 0
IsAction table os at (Store f a) = IsHeld os f × IsValidAccess table a
IsAction table os at (Assign f first depth) = IsHeld os f
IsAction table os at (Keep from to values depth) = AreHeldValues os from to values
IsAction table os at (Choose f one two) = IsHeld os f × (IsEarlier at one × IsEarlier at two)

-- a command that can be done, whatever it is the code of
pub record IsStep (table : List MemEntry) (os : List CodeOperation) (at : ℕ) (s : ListedCommand) : Type 0 where
  pub action : IsAction table os at s.action
  pub next : IsEarlier at s.next

-- code that can be done
pub record IsSoundCode (table : List MemEntry) (code : Code) : Type 0 where
  pub operations : AllByRecursion (IsOperation table) code.operations
  pub steps : (at : ℕ) (s : ListedCommand) → slice_get code.steps at ≡ Some s → IsStep table code.operations at s

pub record IsScene (s : StepContext) : Type 0 where
  pub entries : AllByRecursion IsMemory s.entries.now
  pub few : elements_in s.entries.now ≤ most_elements
  pub firsts : AreFirsts s.entries.now s.firsts.now
  pub small : AreSmall s.entries.now (contents_of s.memories.now)
  pub code : IsSoundCode s.entries.now s.code.now

-- an evaluation that makes these accesses and faults, with those before, ends so: at the first stop
abbrev pub Spends : {A : Type 0} → List MemEntry → List Event → (now : ℕ) → Result A StepStop → List Bank → Type 0
Spends table es now (Ok a) banks = HaveSpent table es now banks
Spends table es now (Err (stop.At outcome)) banks = stop_after table [] es ≡ Some outcome
Spends table es now (Err stop.NoMemory) banks = Unit {0}

-- banks that have spent these events have spent these more, or the events stop so
abbrev pub SpendsMore : {A : Type 0} → StepContext → List Bank → Result A StepStop → List Bank → List Event → Type 0
SpendsMore s old result new more = (es : List Event) → HaveSpent s.entries.now es s.step old → Spends s.entries.now (es ++ more) s.step result new

-- a read of an element, and a write whatever its value
abbrev pub element_read : Place → Element → List Event
element_read place element = reads 0 place [] (spot_seen element) ∷ []

abbrev pub SpendsWrite : {A : Type 0} → StepContext → List Bank → Result A StepStop → List Bank → Place → Element → Type 0
SpendsWrite s old result new place element =
    (es : List Event) (value : ℕ) → HaveSpent s.entries.now es s.step old → Spends s.entries.now (es ++ writes 0 place [] (spot_seen element) value ∷ []) s.step result new

abbrev pub spread_spot : (memory : ℕ) → Spread → Spot
spread_spot memory p = record { memory = memory; bank = p.bank; row = p.row; position = p.position }

-- the element of a memory that lies there
abbrev pub spread_element : (memory : ℕ) → Spread → Element
spread_element memory p = record { memory = memory; bank = p.bank; row = p.row; position = p.position }

-- an access leads there, or is out of range
abbrev pub AccessLeadsTo : StepContext → Sight → Access → Option Spread → Type 0
AccessLeadsTo s w a None = access_spot (begun_in s) w a ≡ None
AccessLeadsTo s w a (Some p) = (access_spot (begun_in s) w a ≡ Some (spread_spot a.memory p)) × HasBank s.entries.now a.memory p.bank

-- Expressions.

-- the operations of an expression
abbrev pub flat_operations : Code → FlatExpression → List CodeOperation
flat_operations code f = slice_range code.operations f.from f.to

-- what is seen behind them, its value, and the accesses and faults
abbrev pub flat_sight : StepContext → Sight → FlatExpression → Sight
flat_sight s w f = sight_after (begun_in s) w f.from (flat_operations s.code.now f)

abbrev pub flat_word : StepContext → Sight → FlatExpression → Word
flat_word s w f = operand_word (flat_sight s w f) f.value

abbrev pub flat_events : StepContext → Sight → FlatExpression → List Event
flat_events s w f = events_after (begun_in s) w f.from (flat_operations s.code.now f)

-- Operations.

abbrev pub word_in : StepContext → Sight → CodeOperation → Word
word_in s w o = word_of_operation (begun_in s) w o

abbrev pub scene_events : StepContext → Sight → CodeOperation → List Event
scene_events s w o = events_of_operation (begun_in s) w o

abbrev pub read_word : StepContext → Sight → Access → Word
read_word s w a = word_of_operation (begun_in s) w (Read a)

abbrev pub read_events : StepContext → Sight → Access → List Event
read_events s w a = events_of_operation (begun_in s) w (Read a)

-- what operations gave, with what a read gives under its number, and with what any operation gives
abbrev pub read_given : StepContext → (slots given ranks : List ℕ) → (at : ℕ) → Access → List ℕ
read_given s slots given ranks at a = slice_set given at (read_word s (sight slots given ranks) a).bits

abbrev pub one_given : StepContext → (slots given ranks : List ℕ) → (at : ℕ) → CodeOperation → List ℕ
one_given s slots given ranks at o = slice_set given at (word_in s (sight slots given ranks) o).bits

-- with what operations gave in the end there is seen what is seen behind them
abbrev pub ShowsAfter : StepContext → (slots old new ranks : List ℕ) → (at : ℕ) → List CodeOperation → Type 0
ShowsAfter s slots old new ranks at os = sight slots new ranks ≡ sight_after (begun_in s) (sight slots old ranks) at os
