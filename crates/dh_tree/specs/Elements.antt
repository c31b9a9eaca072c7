-- Where an element of a memory lies: its bank, its row there, and its place among all elements
-- (interleaved banks, after Nigam and others, PLDI 2020; the row-major numbers are this project's).
use Rattle.std.specs.Prelude.{ℕ, ◌≡◌, ◌<◌, ◌+◌, ◌*◌, ◌/◌, ◌%◌, ◌&&◌, nat_lt, Bool, true, false, List, [], ◌∷◌, slice_get, Option, Some, None}
use Rattle.dh_tree.specs.Tables.{elements_of}
use Rattle.dh_tree.specs.declared.tables.Dim.{Dim}
use Rattle.dh_tree.specs.declared.tables.MemEntry.{MemEntry}

-- the banks of dimensions: the product of their banks
abbrev pub banks_of : List Dim → ℕ
banks_of [] = 1
banks_of (d ∷ ds) = d.banks * banks_of ds

-- the rows of a bank: the product of the quotients
abbrev pub rows_of : List Dim → ℕ
rows_of [] = 1
rows_of (d ∷ ds) = (d.size / d.banks) * rows_of ds

-- the bank of an element: element i of a dimension is in bank i mod m, row-major over the dimensions
abbrev pub bank_of : List Dim → List ℕ → ℕ
bank_of (d ∷ ds) (i ∷ is) = (i % d.banks) * banks_of ds + bank_of ds is
bank_of _ _ = 0

-- the row of an element in its bank: i div m, row-major over the dimensions
abbrev pub row_of : List Dim → List ℕ → ℕ
row_of (d ∷ ds) (i ∷ is) = (i / d.banks) * rows_of ds + row_of ds is
row_of _ _ = 0

-- the place of an element among all, row-major
abbrev pub position_of : List Dim → List ℕ → ℕ
position_of (d ∷ ds) (i ∷ is) = i * elements_of ds + position_of ds is
position_of _ _ = 0

-- the place among all elements of the one in this row of this bank: both numbers are taken apart into
-- those of the dimensions
abbrev pub position_in_bank : List Dim → (bank row : ℕ) → ℕ
position_in_bank [] bank row = 0
position_in_bank (d ∷ ds) bank row =
    ((row / rows_of ds) * d.banks + bank / banks_of ds) * elements_of ds + position_in_bank ds (bank % banks_of ds) (row % rows_of ds)

-- a row of a bank, by their numbers
pub record BankRow : Type 0 where
  pub bank : ℕ
  pub row : ℕ

-- it is one that a memory of these dimensions has
pub record HasBankRow (dims : List Dim) (b : BankRow) : Type 0 where
  pub bank : b.bank < banks_of dims
  pub row : b.row < rows_of dims

-- the place of its element among all
abbrev pub place_at : List Dim → BankRow → ℕ
place_at dims b = position_in_bank dims b.bank b.row

-- a place among all elements is that of a row of a bank
pub record LiesIn (dims : List Dim) (position : ℕ) : Type 0 where
  pub lies : BankRow
  pub there : HasBankRow dims lies
  pub place : place_at dims lies ≡ position

-- as many indices as dimensions, each below its size
abbrev pub is_within : List Dim → List ℕ → Bool
is_within [] [] = true
is_within (d ∷ ds) (i ∷ is) = nat_lt i d.size && is_within ds is
is_within _ _ = false

-- the dimensions of an entry, none where there is no entry
abbrev pub entry_dims : Option MemEntry → List Dim
entry_dims None = []
entry_dims (Some e) = e.shape.dims

abbrev pub dims_at : List MemEntry → ℕ → List Dim
dims_at table memory = entry_dims (slice_get table memory)

-- the ports of each bank of an entry, none where there is no entry
abbrev pub entry_ports : Option MemEntry → ℕ
entry_ports None = 0
entry_ports (Some e) = e.shape.ports

-- the ports of each bank of a memory
abbrev pub ports_at : List MemEntry → ℕ → ℕ
ports_at table memory = entry_ports (slice_get table memory)

-- where an element lies
pub record Spot : Type 0 where
  pub memory : ℕ
  pub bank : ℕ
  pub row : ℕ
  pub position : ℕ

abbrev pub spot_of : List MemEntry → (memory : ℕ) → List ℕ → Spot
spot_of table memory indices =
    record { memory = memory; bank = bank_of (dims_at table memory) indices; row = row_of (dims_at table memory) indices; position = position_of (dims_at table memory) indices }

-- where the element in a row of a bank lies
abbrev pub spot_in_bank : List MemEntry → (memory bank row : ℕ) → Spot
spot_in_bank table memory bank row = record { memory = memory; bank = bank; row = row; position = position_in_bank (dims_at table memory) bank row }
