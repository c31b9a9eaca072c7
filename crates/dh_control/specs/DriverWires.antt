-- Drivers of ports by wires: whether they ask, of which row, and with what data.
use Rattle.std.specs.Prelude.{◌≡◌, ℕ, ◌+◌, ◌*◌, ◌<◌, ◌==◌, ◌&&◌, Bool, true, List, [], ◌∷◌, ◌++◌, length, slice_index, slice_index_or, Option, Some, None}
use Rattle.std.specs.List.{AllByRecursion}
use Rattle.dh_value.specs.Words.{width_of}
use Rattle.dh_value.specs.declared.kinds.Kind.{Kind}
use Rattle.dh_value.specs.declared.kinds.Kind.TheVariants as kind
use Rattle.dh_value.specs.declared.words.Word.{Word}
use Rattle.dh_net.specs.declared.nets.Driver.{Driver}
use Rattle.dh_plan.specs.Blocks.{word_at}
use Rattle.dh_plan.specs.BoundPorts.{port_among}
use Rattle.dh_plan.specs.Ordered.{one_or_none}
use Rattle.dh_cells.specs.PlainCircuits.{PlainCircuit}
use Rattle.dh_cells.specs.Settled.{Signals, IsSettled, Grows, IsWire, shown}
use Rattle.dh_cells.specs.ShownValues.{is_one}
use Rattle.dh_lower.specs.PortUsers.{row_bits}
use Rattle.dh_lower.specs.ShownWords.{port_or_first}
use Rattle.dh_control.specs.declared.driving.Asking.{Asking}
use Rattle.dh_control.specs.declared.gathering.Keyed.{Keyed}
use Rattle.dh_control.specs.ValuesShown.{IsShownValue}

-- the value has a kind and a wire of its width
abbrev pub HasValue : PlainCircuit → List Kind → (wires : List ℕ) → (value : ℕ) → Type 0
HasValue d kinds wires value = (value < length kinds) × ((value < length wires) × IsWire d (slice_index wires value) (width_of (slice_index_or kinds value kind.Bool)))

-- so has the one that is named, where one is
abbrev pub MayHaveValue : PlainCircuit → List Kind → (wires : List ℕ) → Option ℕ → Type 0
MayHaveValue d kinds wires value = AllByRecursion (HasValue d kinds wires) (one_or_none value)

-- the bank is the one that is selected, or there is no choice
abbrev pub select_picks : (first : ℕ) → List Word → (select : Option ℕ) → (bank : ℕ) → Bool
select_picks first ws None bank = true
select_picks first ws (Some value) bank = (word_at first ws value).bits == bank

-- these are the words of a value that may be named
abbrev pub MayShow : (first : ℕ) → List Word → List Kind → (wires : List ℕ) → Signals → Option ℕ → Type 0
MayShow first ws kinds wires x value = AllByRecursion (IsShownValue first ws kinds wires x) (one_or_none value)

-- a wire shows the number of a row
pub record RowMade (old new : PlainCircuit) (width : ℕ) (kinds : List Kind) (wires : List ℕ) (row : Option ℕ) (wire : ℕ) : Type 0 where
  pub grows : Grows old new
  pub there : IsWire new wire width
  pub is : (x : Signals) (first : ℕ) (ws : List Word) → IsSettled new x → MayShow first ws kinds wires x row → shown x wire ≡ row_bits width first ws row

-- a wire tells whether another shows 1 and a bank is picked
pub record PickMade (old new : PlainCircuit) (kinds : List Kind) (wires : List ℕ) (test : ℕ) (select : Option ℕ) (bank wire : ℕ) : Type 0 where
  pub grows : Grows old new
  pub there : IsWire new wire 1
  pub is : (x : Signals) (first : ℕ) (ws : List Word) → IsSettled new x → MayShow first ws kinds wires x select → is_one x wire ≡ (is_one x test && select_picks first ws select bank)

-- the number of the port of a bank, among the ports of all memories
abbrev pub port_key : (first_port ports : ℕ) → (pairs : List (ℕ × ℕ)) → (bank : ℕ) → ℕ
port_key first_port ports pairs bank = first_port + (bank * ports + port_or_first (port_among bank pairs))

-- a driver of a bank asks where a wire shows 1 and its bank is picked
pub record DrivesBank (d : PlainCircuit) (kinds : List Kind) (wires : List ℕ) (a : Asking) (select : Option ℕ) (bank : ℕ) (driver : Driver) : Type 0 where
  pub write_is : driver.write ≡ a.write
  pub row_is : driver.row ≡ a.row
  pub data_is : driver.data_ ≡ a.value
  pub there : IsWire d driver.enable 1
  pub is : (x : Signals) (first : ℕ) (ws : List Word) → IsSettled d x → MayShow first ws kinds wires x select → is_one x driver.enable ≡ (is_one x a.test && select_picks first ws select bank)

-- for each bank a driver, under the number of its port
abbrev pub DriveBanks : PlainCircuit → List Kind → (wires : List ℕ) → Asking → (select : Option ℕ) → (first_port ports : ℕ) → (pairs : List (ℕ × ℕ)) → (banks : List (ℕ × ℕ)) → List (Keyed Driver) → Type 0
DriveBanks d kinds wires a select first_port ports pairs [] [] = Unit {0}
DriveBanks d kinds wires a select first_port ports pairs [] (e ∷ es) = ⊥
DriveBanks d kinds wires a select first_port ports pairs (b ∷ bs) [] = ⊥
DriveBanks d kinds wires a select first_port ports pairs (b ∷ bs) (e ∷ es) =
    ((e.key ≡ port_key first_port ports pairs b.0) × DrivesBank d kinds wires a select b.0 e.item) × DriveBanks d kinds wires a select first_port ports pairs bs es

-- drivers were added behind those that were there, one for each bank
pub record BanksDriven (old new : PlainCircuit) (kinds : List Kind) (wires : List ℕ) (a : Asking) (select : Option ℕ) (first_port ports : ℕ) (pairs banks : List (ℕ × ℕ)) (before after : List (Keyed Driver)) : Type 0 where
  pub grows : Grows old new
  pub added : List (Keyed Driver)
  pub behind : after ≡ before ++ added
  pub drive : DriveBanks new kinds wires a select first_port ports pairs banks added
