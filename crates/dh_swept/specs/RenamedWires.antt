-- Wires and registers by other numbers.
use Rattle.std.specs.Prelude.{ℕ, if◌then◌else◌, List, [], ◌∷◌, map}
use Rattle.dh_net.specs.declared.nets.Cell.{Cell}
use Rattle.dh_net.specs.declared.nets.CellForm.{CellForm}
use Rattle.dh_net.specs.declared.nets.CellForm.TheVariants.{Const, Reg, Data, Add, Sub, Mul, And, Or, Xor, Shl, ShrU, ShrS, LtU, LtS, Eq, Mux, Zero, Sign, Low}
use Rattle.dh_net.specs.declared.nets.Driver.{Driver}
use Rattle.dh_net.specs.declared.nets.Register.{Register}

-- the wires that a form takes
abbrev pub operands_of : CellForm → List ℕ
operands_of (Const bits) = []
operands_of (Reg register) = []
operands_of (Data memory bank port) = []
operands_of (Add a b) = a ∷ b ∷ []
operands_of (Sub a b) = a ∷ b ∷ []
operands_of (Mul a b) = a ∷ b ∷ []
operands_of (And a b) = a ∷ b ∷ []
operands_of (Or a b) = a ∷ b ∷ []
operands_of (Xor a b) = a ∷ b ∷ []
operands_of (Shl a b) = a ∷ b ∷ []
operands_of (ShrU a b) = a ∷ b ∷ []
operands_of (ShrS a b) = a ∷ b ∷ []
operands_of (LtU a b) = a ∷ b ∷ []
operands_of (LtS a b) = a ∷ b ∷ []
operands_of (Eq a b) = a ∷ b ∷ []
operands_of (Mux c a b) = c ∷ a ∷ b ∷ []
operands_of (Zero a) = a ∷ []
operands_of (Sign a) = a ∷ []
operands_of (Low a) = a ∷ []

-- the register that a form shows
abbrev pub registers_of : CellForm → List ℕ
registers_of (Reg register) = register ∷ []
registers_of form = []

-- the form that takes wires and shows a register by other numbers
abbrev pub renamed_form : (to to_register : ℕ → ℕ) → CellForm → CellForm
renamed_form to to_register (Const bits) = Const bits
renamed_form to to_register (Reg register) = Reg (to_register register)
renamed_form to to_register (Data memory bank port) = Data memory bank port
renamed_form to to_register (Add a b) = Add (to a) (to b)
renamed_form to to_register (Sub a b) = Sub (to a) (to b)
renamed_form to to_register (Mul a b) = Mul (to a) (to b)
renamed_form to to_register (And a b) = And (to a) (to b)
renamed_form to to_register (Or a b) = Or (to a) (to b)
renamed_form to to_register (Xor a b) = Xor (to a) (to b)
renamed_form to to_register (Shl a b) = Shl (to a) (to b)
renamed_form to to_register (ShrU a b) = ShrU (to a) (to b)
renamed_form to to_register (ShrS a b) = ShrS (to a) (to b)
renamed_form to to_register (LtU a b) = LtU (to a) (to b)
renamed_form to to_register (LtS a b) = LtS (to a) (to b)
renamed_form to to_register (Eq a b) = Eq (to a) (to b)
renamed_form to to_register (Mux c a b) = Mux (to c) (to a) (to b)
renamed_form to to_register (Zero a) = Zero (to a)
renamed_form to to_register (Sign a) = Sign (to a)
renamed_form to to_register (Low a) = Low (to a)

abbrev pub renamed_cell : (to to_register : ℕ → ℕ) → Cell → Cell
renamed_cell to to_register c = record { width = c.width; form = renamed_form to to_register c.form }

abbrev pub renamed_register : (to : ℕ → ℕ) → Register → Register
renamed_register to r = record { width = r.width; initial = r.initial; next = to r.next }

-- a read takes no data
abbrev pub renamed_driver : (to : ℕ → ℕ) → Driver → Driver
renamed_driver to d = record { enable = to d.enable; write = d.write; row = to d.row; data_ = if d.write then to d.data_ else 0 }

abbrev pub renamed_drivers : (to : ℕ → ℕ) → List Driver → List Driver
renamed_drivers to ds = map (renamed_driver to) ds
