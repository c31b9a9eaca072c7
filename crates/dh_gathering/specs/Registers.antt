-- The kinds of the registers of a program's variables, by their numbers: those of each entity stand together.
use Rattle.std.specs.Prelude.{◌≡◌, ℕ, suc, ◌<◌, ◌≤◌, ◌^◌, List, length, slice_get, Option, Some, None}
use Rattle.dh_value.specs.declared.kinds.Kind.{Kind}
use Rattle.dh_value.specs.declared.kinds.Kind.TheVariants.{Unsigned}
use Rattle.dh_tree.specs.declared.trees.counters.Counter.{Counter}
use Rattle.dh_tree.specs.Counters.{counter_in, counters_of}
use Rattle.dh_tree.specs.PlainTrees.{Program}
use Rattle.dh_meaning.specs.Phases.{turn_count}
use Rattle.dh_code.specs.declared.places.VariableSlots.{VariableSlots}
use Rattle.dh_code.specs.Slots.{held_at}
use Rattle.dh_expressions.specs.Multiples.{IsCounterWidth}

-- the kind of a register: that of a variable, or of a counter of the turns of a loop
abbrev pub IsRegisterKind : Option Counter → (own : Kind) → Kind → Type 0
IsRegisterKind None own k = k ≡ own
IsRegisterKind (Some c) own k = (w : ℕ) × ((k ≡ Unsigned w) × IsCounterWidth (turn_count c.low c.high c.factor) w)

abbrev pub first_or : (count : ℕ) → Option VariableSlots → ℕ
first_or count None = count
first_or count (Some h) = h.first

-- the first register of an entity: of none it is behind all
abbrev pub first_among : List VariableSlots → (count entity : ℕ) → ℕ
first_among held count entity = first_or count (slice_get held entity)

-- registers of one entity behind those of another
pub record AreSuccessive (held : List VariableSlots) (count : ℕ) : Type 0 where
  pub first : first_among held count 0 ≡ 0
  pub rising : (entity : ℕ) → first_among held count entity ≤ first_among held count (suc entity)
  pub few : length held ≤ 2 ^ 32

-- each register of an entity has its kind
abbrev pub HasRegisterKind : Program → List VariableSlots → List Kind → (entity register : ℕ) → Type 0
HasRegisterKind p held registers entity register =
    (k : Kind) × ((slice_get registers register ≡ Some k) × IsRegisterKind (counter_in (counters_of p) (Some entity)) (held_at held entity).kind k)

-- so of the first entities, so many
pub record HaveKinds (p : Program) (held : List VariableSlots) (count entities : ℕ) (registers : List Kind) : Type 0 where
  pub long : length registers ≡ first_among held count entities
  pub kinds : (entity register : ℕ) → entity < entities → first_among held count entity ≤ register → register < first_among held count (suc entity) → HasRegisterKind p held registers entity register

-- of all: there are as many registers as variables have together
abbrev pub AreRegisters : Program → List VariableSlots → (count : ℕ) → List Kind → Type 0
AreRegisters p held count registers = AreSuccessive held count → HaveKinds p held count (length held) registers
