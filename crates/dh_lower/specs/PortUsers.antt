-- Which operations use a port, when they ask for it, and what the drivers of a port say.
use Rattle.std.specs.Prelude.{◌≡◌, ◌⊎◌, ℕ, ◌==◌, ◌&&◌, ◌||◌, Bool, true, false, if◌then◌else◌, List, [], ◌∷◌, slice_get, slice_index, Option, Some, None}
use Rattle.dh_value.specs.declared.kinds.Kind.TheVariants as kind
use Rattle.dh_value.specs.declared.words.Word.{Word}
use Rattle.dh_value.specs.Words.{value_of, word_of}
use Rattle.dh_net.specs.declared.nets.Driver.{Driver}
use Rattle.dh_net.specs.declared.ports.Port.{Port}
use Rattle.dh_plan.specs.declared.operations.Operation.{Operation}
use Rattle.dh_plan.specs.declared.operations.OperationForm.{OperationForm}
use Rattle.dh_plan.specs.declared.operations.OperationForm.TheVariants.{Constant, Old, Compute, Convert, Select, Check, Probe, Read, Write, Set}
use Rattle.dh_plan.specs.declared.operations.Reach.{Reach}
use Rattle.dh_plan.specs.Blocks.{is_on, bank_picked, word_at}
use Rattle.dh_plan.specs.BoundPorts.{Uses}
use Rattle.dh_plan.specs.LegalSchedules.{Timing, clocks_in}
use Rattle.dh_plan.specs.PlainPlans.{PlainPlan, first_in, operations_in}
use Rattle.dh_plan.specs.SoundPlans.{HasUse, IsListed}
use Rattle.dh_lower.specs.ShownWords.{port_bound}

-- an operation, by its block and its place there, that uses a port on a bank
pub record User : Type 0 where
  pub block : ℕ
  pub place : ℕ
  pub bank : ℕ

-- it is among these
abbrev pub HasUser : User → List User → Type 0
HasUser user [] = ⊥
HasUser user (v ∷ vs) = (user ≡ v) ⊎ HasUser user vs

-- no two of these are one
abbrev pub AreApart : List User → Type 0
AreApart [] = Unit {0}
AreApart (v ∷ vs) = (HasUser v vs → ⊥) × AreApart vs

-- the users of each port: all operations that use it, each once for each bank
pub record AreUsers (plan : PlainPlan) (u : Uses) (users : (port : ℕ) → List User) : Type 0 where
  pub all : (block i bank place : ℕ) (r : Reach) → HasUse plan block i r → IsListed bank place r.banks
      → HasUser (record { block = block; place = i; bank = bank }) (users (port_bound plan u block i bank r))
  pub own : (port : ℕ) (user : User) → HasUser user (users port)
      → (r : Reach) × (HasUse plan user.block user.place r × ((place : ℕ) × (IsListed user.bank place r.banks × (port_bound plan u user.block user.place user.bank r ≡ port))))
  pub apart : (port : ℕ) → AreApart (users port)

-- A clock of a step: the blocks that the step does, its number from 0, and whether the step's writes are made in it.
pub record Moment : Type 0 where
  pub active : List ℕ
  pub clock : ℕ
  pub commits : Bool

abbrev pub is_among : (block : ℕ) → List ℕ → Bool
is_among block [] = false
is_among block (b ∷ bs) = (block == b) || is_among block bs

-- a read asks at its clock, a write where writes are made, of the bank that each picks
abbrev pub form_asks : (first : ℕ) → (ws : List Word) → (bank own : ℕ) → Moment → OperationForm → Bool
form_asks first ws bank own m (Constant word) = false
form_asks first ws bank own m (Old register) = false
form_asks first ws bank own m (Compute op left right) = false
form_asks first ws bank own m (Convert inner to) = false
form_asks first ws bank own m (Select test a b) = false
form_asks first ws bank own m (Check ok fault) = false
form_asks first ws bank own m (Probe r fault) = false
form_asks first ws bank own m (Read r) = (own == m.clock) && (bank_picked first ws r.banks r.select == bank)
form_asks first ws bank own m (Write r value) = m.commits && (bank_picked first ws r.banks r.select == bank)
form_asks first ws bank own m (Set register value) = false

abbrev pub operation_asks : (first : ℕ) → (ws : List Word) → (bank own : ℕ) → Moment → Option Operation → Bool
operation_asks first ws bank own m None = false
operation_asks first ws bank own m (Some o) = is_on first ws o.guard && form_asks first ws bank own m o.form

-- a user asks for its port, by the words of each block
abbrev pub user_asks : PlainPlan → Timing → (words : (block : ℕ) → List Word) → Moment → User → Bool
user_asks plan t words m user =
    is_among user.block m.active
    && operation_asks (first_in plan user.block) (words user.block) user.bank (slice_index (clocks_in plan t user.block) user.place) m (slice_get (operations_in plan user.block) user.place)

-- the number of a row on so many bits
abbrev pub row_bits : (width first : ℕ) → List Word → (row : Option ℕ) → ℕ
row_bits width first ws None = 0
row_bits width first ws (Some row) = (word_of (kind.Unsigned width) (value_of (word_at first ws row))).bits

-- a driver says what a form asks of a port
pub record SaysRead (p : Port) (wires : List ℕ) (first : ℕ) (ws : List Word) (d : Driver) (r : Reach) : Type 0 where
  pub reads : d.write ≡ false
  pub row : slice_index wires d.row ≡ row_bits p.row_width first ws r.row

pub record SaysWrite (p : Port) (wires : List ℕ) (first : ℕ) (ws : List Word) (d : Driver) (r : Reach) (value : ℕ) : Type 0 where
  pub writes : d.write ≡ true
  pub row : slice_index wires d.row ≡ row_bits p.row_width first ws r.row
  pub bits : slice_index wires d.data_ ≡ (word_at first ws value).bits

abbrev pub SaysForm : Port → (wires : List ℕ) → (first : ℕ) → List Word → Driver → OperationForm → Type 0
SaysForm p wires first ws d (Read r) = SaysRead p wires first ws d r
SaysForm p wires first ws d (Write r value) = SaysWrite p wires first ws d r value
SaysForm p wires first ws d f = ⊥

abbrev pub SaysOperation : Port → (wires : List ℕ) → (first : ℕ) → List Word → Driver → Option Operation → Type 0
SaysOperation p wires first ws d None = ⊥
SaysOperation p wires first ws d (Some o) = SaysForm p wires first ws d o.form

-- the driver of a user of a port, by the words that wires show: enabled where the user asks
pub record DrivesFor (plan : PlainPlan) (t : Timing) (words : (block : ℕ) → List Word) (m : Moment) (p : Port) (wires : List ℕ) (d : Driver) (user : User) : Type 0 where
  pub enable : slice_index wires d.enable ≡ (if user_asks plan t words m user then 1 else 0)
  pub says : SaysOperation p wires (first_in plan user.block) (words user.block) d (slice_get (operations_in plan user.block) user.place)

-- the drivers of a port are those of its users, in order
abbrev pub DriveFor : PlainPlan → Timing → (words : (block : ℕ) → List Word) → Moment → Port → (wires : List ℕ) → List Driver → List User → Type 0
DriveFor plan t words m p wires [] [] = Unit {0}
DriveFor plan t words m p wires [] (v ∷ vs) = ⊥
DriveFor plan t words m p wires (d ∷ ds) [] = ⊥
DriveFor plan t words m p wires (d ∷ ds) (v ∷ vs) = DrivesFor plan t words m p wires d v × DriveFor plan t words m p wires ds vs
