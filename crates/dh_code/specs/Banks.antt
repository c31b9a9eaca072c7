-- The banks of all memories in one list: those of a memory stand behind those of the memories before it.
use Rattle.std.specs.Prelude.{◌≡◌, ℕ, ◌+◌, ◌*◌, ◌/◌, ◌%◌, ◌^◌, ◌<◌, zero, suc, ◌&&◌, true, false, if◌then◌else◌, List, [], ◌∷◌, length, get_or, map, Option, Some, None, ℤ, pos, int_le, int_lt, unsigned_abs}
use Rattle.dh_tree.specs.declared.tables.Dim.{Dim}
use Rattle.dh_tree.specs.declared.tables.MemEntry.{MemEntry}
use Rattle.dh_tree.specs.Elements.{banks_of, rows_of, bank_of, row_of, position_of, position_in_bank, dims_at}
use Rattle.dh_meaning.specs.Effects.{is_inside, is_row}
use Rattle.dh_tree.specs.Tables.{elements_of}
use Rattle.dh_code.specs.declared.spots.Spread.{Spread}

-- the number of the first bank of a memory
abbrev pub first_bank : List MemEntry → ℕ → ℕ
first_bank [] memory = 0
first_bank (e ∷ es) zero = 0
first_bank (e ∷ es) (suc memory) = banks_of e.shape.dims + first_bank es memory

-- the banks of all memories
abbrev pub all_banks : List MemEntry → ℕ
all_banks [] = 0
all_banks (e ∷ es) = banks_of e.shape.dims + all_banks es

-- the numbers of the first banks of all memories
pub record AreFirsts (table : List MemEntry) (firsts : List ℕ) : Type 0 where
  pub long : length firsts ≡ length table
  pub is : (memory : ℕ) → memory < length table → get_or firsts memory 0 ≡ first_bank table memory

-- the natural number that an index is, where it is one below a size
abbrev pub index_within : ℕ → ℤ → Option ℕ
index_within size i = if int_le (pos 0) i && int_lt i (pos size) then Some (unsigned_abs i) else None

-- where the element of these indices lies in a memory of these dimensions, if there is one
abbrev pub Spreads : List Dim → List ℤ → Option Spread → Type 0
Spreads ds is None = is_inside ds is ≡ false
Spreads ds is (Some s) =
    (is_inside ds is ≡ true) × ((s.bank ≡ bank_of ds (map unsigned_abs is)) × ((s.row ≡ row_of ds (map unsigned_abs is)) × (s.position ≡ position_of ds (map unsigned_abs is))))

-- it lies in one of the banks and rows
abbrev pub IsSpread : List Dim → Option Spread → Type 0
IsSpread ds None = Unit {0}
IsSpread ds (Some s) = (s.bank < banks_of ds) × ((s.row < rows_of ds) × (s.position < elements_of ds))

-- where an index of a further dimension leads, from where those before it lead
abbrev pub spread_behind : Spread → Dim → (index : ℕ) → Spread
spread_behind s d index = record {
  bank = s.bank * d.banks + index % d.banks;
  row = s.row * (d.size / d.banks) + index / d.banks;
  position = s.position * d.size + index;
}

-- its numbers are of 64 bits
pub record SpreadHasRoom (s : Spread) (d : Dim) (index : ℕ) : Type 0 where
  pub bank : s.bank * d.banks + index % d.banks < 2 ^ 64
  pub row : s.row * (d.size / d.banks) + index / d.banks < 2 ^ 64
  pub position : s.position * d.size + index < 2 ^ 64

-- the memory is there, and so is the bank
abbrev pub HasBank : List MemEntry → (memory bank : ℕ) → Type 0
HasBank table memory bank = (memory < length table) × (bank < banks_of (dims_at table memory))

-- where the element lies in a row of a bank, if there is one
abbrev pub LiesInRow : List Dim → (bank : ℕ) → (row : ℤ) → Option Spread → Type 0
LiesInRow ds bank row None = is_row ds row ≡ false
LiesInRow ds bank row (Some p) =
    (is_row ds row ≡ true) × ((p.bank ≡ bank) × ((p.row ≡ unsigned_abs row) × (p.position ≡ position_in_bank ds bank (unsigned_abs row))))
