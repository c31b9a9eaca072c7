-- Shifts by less than the width.
-- A shift by its width or more shows 0 or copies of the sign. A text of a net need not shift for it, and other tools
-- read large amounts that are constant as signed numbers, or refuse them; so no cell shifts by such a constant.
use Rattle.std.specs.Prelude.{◌≡◌, ℕ, ◌<◌, List, slice_get, Option, Some, None, IfSome}
use Rattle.dh_net.specs.declared.nets.Cell.{Cell}
use Rattle.dh_net.specs.declared.nets.CellForm.{CellForm}
use Rattle.dh_net.specs.declared.nets.CellForm.TheVariants.{Const, Reg, Data, Add, Sub, Mul, And, Or, Xor, Shl, ShrU, ShrS, LtU, LtS, Eq, Mux, Zero, Sign, Low}

-- the bits of a constant
abbrev pub form_bits : CellForm → Option ℕ
form_bits (Const bits) = Some bits
form_bits (Reg register) = None
form_bits (Data memory bank port) = None
form_bits (Add a b) = None
form_bits (Sub a b) = None
form_bits (Mul a b) = None
form_bits (And a b) = None
form_bits (Or a b) = None
form_bits (Xor a b) = None
form_bits (Shl a b) = None
form_bits (ShrU a b) = None
form_bits (ShrS a b) = None
form_bits (LtU a b) = None
form_bits (LtS a b) = None
form_bits (Eq a b) = None
form_bits (Mux c a b) = None
form_bits (Zero a) = None
form_bits (Sign a) = None
form_bits (Low a) = None

abbrev pub cell_bits : Option Cell → Option ℕ
cell_bits None = None
cell_bits (Some c) = form_bits c.form

-- the bits of a wire whose cell is a constant
abbrev pub constant_at : List Cell → (wire : ℕ) → Option ℕ
constant_at cells wire = cell_bits (slice_get cells wire)

-- a wire that is a constant is below the bound
abbrev pub IsBelow : List Cell → (wire bound : ℕ) → Type 0
IsBelow cells wire bound = IfSome (constant_at cells wire) (λ bits. bits < bound)

-- a form of this width is no shift by a constant of at least the width
abbrev pub ShiftsLess : List Cell → (width : ℕ) → CellForm → Type 0
ShiftsLess cells width (Shl a b) = IsBelow cells b width
ShiftsLess cells width (ShrU a b) = IsBelow cells b width
ShiftsLess cells width (ShrS a b) = IsBelow cells b width
ShiftsLess cells width form = Unit {0}

-- no cell shifts by a constant of at least its width
abbrev pub HasNarrowShifts : List Cell → Type 0
HasNarrowShifts cells = (i : ℕ) (c : Cell) → slice_get cells i ≡ Some c → ShiftsLess cells c.width c.form
