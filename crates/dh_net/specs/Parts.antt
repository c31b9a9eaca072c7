-- What the functions of this crate promise one another; no public contract names it.
use Rattle.std.specs.Prelude.{◌≡◌, ℕ, List, [], ◌∷◌, slice_get, Some, option_map}
use Rattle.dh_net.specs.BankPorts.{ports_of}
use Rattle.dh_net.specs.declared.nets.Cell.{Cell}
use Rattle.dh_net.specs.declared.nets.CellForm.{CellForm}
use Rattle.dh_net.specs.declared.nets.Driver.{Driver}
use Rattle.dh_net.specs.declared.nets.Net.{Net}
use Rattle.dh_net.specs.declared.nets.Register.{Register}
use Rattle.dh_net.specs.declared.ports.Port.{Port}
use Rattle.dh_net.specs.Valid.{HasWidth, FormFits, IsCell, IsDriver, IsRegister}

-- a cell of this width and form
abbrev pub one_cell : (width : ℕ) → CellForm → Cell
one_cell width form = record { width = width; form = form }

-- there is such a register, of this width
abbrev pub HasRegister : List Register → (register width : ℕ) → Type 0
HasRegister registers register width = option_map (λ r. r.width) (slice_get registers register) ≡ Some width

-- the form has what it needs in a cell of the net with this number and width
abbrev pub FitsIn : Net → (cell width : ℕ) → CellForm → Type 0
FitsIn net cell width form = FormFits net.table net.registers net.cells cell width form

-- it is the net's cell with this number
abbrev pub IsCellIn : Net → ℕ → Cell → Type 0
IsCellIn net i c = IsCell net.table net.registers net.cells i c

-- all cells of the net are
abbrev pub HasCells : Net → Type 0
HasCells net = (i : ℕ) (c : Cell) → slice_get net.cells i ≡ Some c → IsCell net.table net.registers net.cells i c

-- all registers of the net are
abbrev pub HasValidRegisters : Net → Type 0
HasValidRegisters net = (i : ℕ) (r : Register) → slice_get net.registers i ≡ Some r → IsRegister net.cells r

-- all of these are drivers of the port
abbrev pub DrivePort : List Cell → Port → List Driver → Type 0
DrivePort cells p ds = (k : ℕ) (d : Driver) → slice_get ds k ≡ Some d → IsDriver cells p d

-- there is a list of drivers for each port
abbrev pub DrivePorts : List Cell → List Port → List (List Driver) → Type 0
DrivePorts cells [] [] = Unit {0}
DrivePorts cells [] (ds ∷ dss) = ⊥
DrivePorts cells (p ∷ ps) [] = ⊥
DrivePorts cells (p ∷ ps) (ds ∷ dss) = DrivePort cells p ds × DrivePorts cells ps dss

-- each port of the net has its drivers
abbrev pub HasPorts : Net → Type 0
HasPorts net = DrivePorts net.cells (ports_of net.table) net.drivers

-- the outputs are wires of their widths
abbrev pub HasOutputs : Net → Type 0
HasOutputs net = HasWidth net.cells net.tick 1 × (HasWidth net.cells net.done 1 × HasWidth net.cells net.fault 32)
