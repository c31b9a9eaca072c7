-- What the shape of a memory must be, and which tables a program can have.
use Rattle.std.specs.Prelude.{◌≡◌, ℕ, ◌≤◌, ◌%◌, false, if◌then◌else◌, List, [], ◌∷◌, length}
use Rattle.std.specs.List.{AllByRecursion}
use Rattle.dh_tree.specs.declared.tables.Dim.{Dim}
use Rattle.dh_tree.specs.declared.tables.Shape.{Shape}
use Rattle.dh_tree.specs.declared.tables.MemEntry.{MemEntry}
use Rattle.dh_tree.specs.Elements.{banks_of}
use Rattle.dh_tree.specs.Names.{IsName}
use Rattle.dh_tree.specs.Tables.{elements_in, most_elements, HasDistinctNames}
use Rattle.dh_value.specs.Words.{IsInteger}

abbrev pub most_dims : ℕ
most_dims = 6

-- the greatest number of banks of one memory, over all its dimensions
abbrev pub most_banks : ℕ
most_banks = 64

-- the greatest number of ports of a bank
abbrev pub most_ports : ℕ
most_ports = 8

-- a dimension has elements, and banks that divide its size
pub record IsDim (d : Dim) : Type 0 where
  pub size : 1 ≤ d.size
  pub banks : 1 ≤ d.banks
  pub divides : d.size % d.banks ≡ 0

-- the shape of a memory that keeps the rules and limits
pub record IsShape (s : Shape) : Type 0 where
  pub integer : IsInteger s.kind
  pub least_ports : 1 ≤ s.ports
  pub most : s.ports ≤ most_ports
  pub least_dims : 1 ≤ length s.dims
  pub few_dims : length s.dims ≤ most_dims
  pub dims : AllByRecursion IsDim s.dims
  pub few_banks : banks_of s.dims ≤ most_banks

pub record IsMemory (e : MemEntry) : Type 0 where
  pub name : IsName e.name
  pub shape : IsShape e.shape

-- the memories from outside
abbrev pub outside_of : List MemEntry → List MemEntry
outside_of [] = []
outside_of (e ∷ es) = if e.outside then e ∷ outside_of es else outside_of es

abbrev pub IsLocal : MemEntry → Type 0
IsLocal e = e.outside ≡ false

-- behind a local memory there are no others
abbrev pub HasLocalsLast : List MemEntry → Type 0
HasLocalsLast [] = Unit {0}
HasLocalsLast (e ∷ es) = (e.outside ≡ false → AllByRecursion IsLocal es) × HasLocalsLast es

-- the table of a program that keeps its rules and limits; two local memories may have one name
pub record IsProgramTable (table : List MemEntry) : Type 0 where
  pub entries : AllByRecursion IsMemory table
  pub names : HasDistinctNames (outside_of table)
  pub locals : HasLocalsLast table
  pub elements : elements_in table ≤ most_elements
