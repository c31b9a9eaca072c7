-- The conditions on a table of memories, and which contents fit one.
use Rattle.std.specs.Prelude.{◌≡◌, ℕ, ◌+◌, ◌*◌, ◌<◌, ◌≤◌, ◌^◌, true, List, [], ◌∷◌, length}
use Rattle.std.specs.List.{AllByRecursion}
use Rattle.dh_tree.specs.Names.{IsName}
use Rattle.dh_value.specs.Words.{width_of, IsInteger}
use Rattle.dh_tree.specs.declared.tables.Dim.{Dim}
use Rattle.dh_tree.specs.declared.tables.MemEntry.{MemEntry}

-- one dimension of this size in one bank
abbrev pub line_of : ℕ → List Dim
line_of size = record { size = size; banks = 1 } ∷ []

-- the elements of dimensions: the product of their sizes
abbrev pub elements_of : List Dim → ℕ
elements_of [] = 1
elements_of (d ∷ ds) = d.size * elements_of ds

-- the elements of all memories of a table
abbrev pub elements_in : List MemEntry → ℕ
elements_in [] = 0
elements_in (e ∷ es) = elements_of e.shape.dims + elements_in es

-- no entry has this name
abbrev pub HasNoName : List ℕ → List MemEntry → Type 0
HasNoName name [] = Unit {0}
HasNoName name (e ∷ es) = (e.name ≡ name → ⊥) × HasNoName name es

-- all names differ
abbrev pub HasDistinctNames : List MemEntry → Type 0
HasDistinctNames [] = Unit {0}
HasDistinctNames (e ∷ es) = HasNoName e.name es × HasDistinctNames es

-- a memory that a net can have: outside, of a number kind, of one dimension with at least one
-- element, in one bank with one port (no others are built)
pub record IsEntry (e : MemEntry) : Type 0 where
  pub name : IsName e.name
  pub integer : IsInteger e.shape.kind
  pub ports : e.shape.ports ≡ 1
  pub size : ℕ
  pub line : e.shape.dims ≡ line_of size
  pub least : 1 ≤ size
  pub outside : e.outside ≡ true

-- the greatest number of elements of all memories together
abbrev pub most_elements : ℕ
most_elements = 1048576

-- a table that a net can have
pub record IsTable (table : List MemEntry) : Type 0 where
  pub entries : AllByRecursion IsEntry table
  pub names : HasDistinctNames table
  pub elements : elements_in table ≤ most_elements

-- these are the contents of a memory: the declared number of values of its kind
pub record FitsEntry (e : MemEntry) (values : List ℕ) : Type 0 where
  pub long : length values ≡ elements_of e.shape.dims
  pub small : AllByRecursion (λ v. v < 2 ^ width_of e.shape.kind) values

-- these are the contents of the memories of a table, one list for each
abbrev pub Fits : List MemEntry → List (List ℕ) → Type 0
Fits [] [] = Unit {0}
Fits [] (m ∷ ms) = ⊥
Fits (e ∷ es) [] = ⊥
Fits (e ∷ es) (m ∷ ms) = FitsEntry e m × Fits es ms
