-- Cells that are added behind those of a net, and what their wires show. Each fact is said for every way in which
-- wires solve the equations of the cells, so that it holds still when more cells are added.
use Rattle.std.specs.Prelude.{◌≡◌, ℕ, ◌+◌, ◌≤◌, ◌==◌, ◌||◌, ◌⊎◌, suc, max, if◌then◌else◌, bit_or, List, [], ◌∷◌, ◌++◌, length, slice_get, slice_index, Some}
use Rattle.dh_tree.specs.declared.tables.MemEntry.{MemEntry}
use Rattle.dh_net.specs.Laws.{WiresFit}
use Rattle.dh_net.specs.Valid.{HasWidth, IsCell}
use Rattle.dh_net.specs.declared.nets.Cell.{Cell}
use Rattle.dh_net.specs.declared.nets.CellForm.{CellForm}
use Rattle.dh_net.specs.declared.nets.CellForm.TheVariants.{Const, Reg, Data, Add, Sub, Mul, And, Or, Xor, Shl, ShrU, ShrS, LtU, LtS, Eq, Mux, Zero, Sign, Low}
use Rattle.dh_net.specs.declared.nets.Register.{Register}
use Rattle.dh_cells.specs.Settled.{BeginsWith}
use Rattle.dh_net.specs.Parts.{one_cell}

-- all are cells of a net with this table and these registers
abbrev pub AreNetCells : List MemEntry → List Register → List Cell → Type 0
AreNetCells table registers cells = (i : ℕ) (c : Cell) → slice_get cells i ≡ Some c → IsCell table registers cells i c

-- a cell of `|` or `? :`
abbrev pub IsChoice : CellForm → Type 0
IsChoice (Or a b) = Unit {0}
IsChoice (Mux c a b) = Unit {0}
IsChoice form = ⊥

-- at most so many cells of these forms were added, each a cell of whatever net has the others
pub record GrowsByChoices (old new : List Cell) (most : ℕ) : Type 0 where
  pub begins : BeginsWith new old
  pub added : (i : ℕ) (c : Cell) → slice_get new i ≡ Some c → (slice_get old i ≡ Some c) ⊎ IsChoice c.form
  pub valid : (table : List MemEntry) (registers : List Register) → AreNetCells table registers old → AreNetCells table registers new
  pub few : length new ≤ length old + most

-- no wire shows more bits than it has, and those of two forms of cells show what their cells choose
pub record ShowsChoices (cells : List Cell) (wires : List ℕ) : Type 0 where
  pub small : WiresFit cells wires
  pub either : (i width a b : ℕ) → slice_get cells i ≡ Some (one_cell width (Or a b)) → slice_index wires i ≡ bit_or (slice_index wires a) (slice_index wires b)
  pub choice : (i width c a b : ℕ) → slice_get cells i ≡ Some (one_cell width (Mux c a b))
      → slice_index wires i ≡ (if slice_index wires c == 1 then slice_index wires a else slice_index wires b)

-- The depth of a wire: how many cells stand one behind the other up to it, after constants, registers and held data.

-- by the depths of the wires that the form takes
abbrev pub form_depth : (depths : List ℕ) → CellForm → ℕ
form_depth depths (Const bits) = 0
form_depth depths (Reg register) = 0
form_depth depths (Data memory bank port) = 0
form_depth depths (Add a b) = suc (max (slice_index depths a) (slice_index depths b))
form_depth depths (Sub a b) = suc (max (slice_index depths a) (slice_index depths b))
form_depth depths (Mul a b) = suc (max (slice_index depths a) (slice_index depths b))
form_depth depths (And a b) = suc (max (slice_index depths a) (slice_index depths b))
form_depth depths (Or a b) = suc (max (slice_index depths a) (slice_index depths b))
form_depth depths (Xor a b) = suc (max (slice_index depths a) (slice_index depths b))
form_depth depths (Shl a b) = suc (max (slice_index depths a) (slice_index depths b))
form_depth depths (ShrU a b) = suc (max (slice_index depths a) (slice_index depths b))
form_depth depths (ShrS a b) = suc (max (slice_index depths a) (slice_index depths b))
form_depth depths (LtU a b) = suc (max (slice_index depths a) (slice_index depths b))
form_depth depths (LtS a b) = suc (max (slice_index depths a) (slice_index depths b))
form_depth depths (Eq a b) = suc (max (slice_index depths a) (slice_index depths b))
form_depth depths (Mux c a b) = suc (max (slice_index depths c) (max (slice_index depths a) (slice_index depths b)))
form_depth depths (Zero a) = suc (slice_index depths a)
form_depth depths (Sign a) = suc (slice_index depths a)
form_depth depths (Low a) = suc (slice_index depths a)

-- these are the depths of the wires of cells
abbrev pub AreWireDepths : List Cell → (depths : List ℕ) → Type 0
AreWireDepths cells depths = (i : ℕ) (c : Cell) → slice_get cells i ≡ Some c → slice_index depths i ≡ form_depth depths c.form

-- What is added.

-- a cell, with its wire
pub record CellAdded (old new : List Cell) (width : ℕ) (form : CellForm) (wire : ℕ) : Type 0 where
  pub last : wire ≡ length old
  pub cells : new ≡ old ++ one_cell width form ∷ []

-- a wire that is 1 where one of two is
pub record EitherAdded (old new : List Cell) (a b wire : ℕ) : Type 0 where
  pub grows : GrowsByChoices old new 1
  pub wide : HasWidth new wire 1
  pub shows : (wires : List ℕ) → ShowsChoices new wires
      → (slice_index wires wire == 1) ≡ ((slice_index wires a == 1) || (slice_index wires b == 1))
  pub deep : (depths : List ℕ) (most : ℕ) → AreWireDepths new depths → slice_index depths a ≤ most → slice_index depths b ≤ most
      → slice_index depths wire ≤ suc most

-- a wire that shows one of two, by a test
pub record ChoiceAdded (old new : List Cell) (width test a b wire : ℕ) : Type 0 where
  pub grows : GrowsByChoices old new 1
  pub wide : HasWidth new wire width
  pub shows : (wires : List ℕ) → ShowsChoices new wires
      → slice_index wires wire ≡ (if slice_index wires test == 1 then slice_index wires a else slice_index wires b)
  pub deep : (depths : List ℕ) (most : ℕ) → AreWireDepths new depths → slice_index depths test ≤ most → slice_index depths a ≤ most
      → slice_index depths b ≤ most → slice_index depths wire ≤ suc most
