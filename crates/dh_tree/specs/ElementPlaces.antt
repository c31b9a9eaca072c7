-- That each element of a memory lies in a row of a bank and at a place among all elements, and each such place is that
-- of one row of one bank.
use Rattle.std.specs.Prelude.{◌≡◌, ℕ, ◌<◌, true, List}
use Rattle.std.specs.List.{AllByRecursion}
use Rattle.dh_tree.specs.declared.tables.Dim.{Dim}
use Rattle.dh_tree.specs.Elements.{banks_of, rows_of, bank_of, row_of, position_of, position_in_bank, is_within, BankRow, HasBankRow, place_at, LiesIn}
use Rattle.dh_tree.specs.Shapes.{IsDim}
use Rattle.dh_tree.specs.Tables.{elements_of}

-- so it is for every element within dimensions
abbrev pub OfEachElement : (List Dim → List ℕ → Type 0) → Type 0
OfEachElement fact =
    (dims : List Dim) (indices : List ℕ) → AllByRecursion IsDim dims → is_within dims indices ≡ true → fact dims indices

-- the bank and the row of an element tell its place among all
abbrev pub BankAndRowTellPlace : List Dim → List ℕ → Type 0
BankAndRowTellPlace dims indices = position_in_bank dims (bank_of dims indices) (row_of dims indices) ≡ position_of dims indices

-- each row of each bank has a place among all elements
abbrev pub RowsHavePlaces : List Dim → Type 0
RowsHavePlaces dims =
    (bank row : ℕ) → AllByRecursion IsDim dims → bank < banks_of dims → row < rows_of dims → position_in_bank dims bank row < elements_of dims

-- each place among all elements is that of a row of a bank
abbrev pub PlacesLieInBanks : List Dim → Type 0
PlacesLieInBanks dims = (position : ℕ) → AllByRecursion IsDim dims → position < elements_of dims → LiesIn dims position

-- and of no two
abbrev pub PlacesTellRows : List Dim → Type 0
PlacesTellRows dims =
    (first other : BankRow) → AllByRecursion IsDim dims → HasBankRow dims first → HasBankRow dims other → place_at dims first ≡ place_at dims other → first ≡ other
