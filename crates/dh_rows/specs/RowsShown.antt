-- What the operations of this crate mean: rows and banks of elements that are within their dimensions, and tests
-- whether an index is.
use Rattle.std.specs.Prelude.{◌≡◌, ℕ, ◌<◌, ◌≤◌, ◌^◌, ◌&&◌, Bool, true, List, [], ◌∷◌, length, Option, Some, None, ℤ, pos, int_le, int_lt, nat_le, unsigned_abs}
use Rattle.std.specs.List.{AllByRecursion}
use Rattle.dh_value.specs.declared.kinds.Kind.{Kind}
use Rattle.dh_value.specs.declared.kinds.Kind.TheVariants as kind
use Rattle.dh_value.specs.Words.{IsInteger, IsWidth, IsWord, value_of, with_bits}
use Rattle.dh_value.specs.Operations.{truth}
use Rattle.dh_tree.specs.declared.tables.Dim.{Dim}
use Rattle.dh_tree.specs.Elements.{bank_of, row_of}
use Rattle.dh_tree.specs.Shapes.{IsDim}
use Rattle.dh_tree.specs.Tables.{elements_of}
use Rattle.dh_plan.specs.declared.operations.Operation.{Operation}
use Rattle.dh_rows.specs.declared.spanning.Span.{Span}
use Rattle.dh_rows.specs.declared.spreading.RowAndBank.{RowAndBank}
use Rattle.dh_rows.specs.Readings.{Readings, Obeys, IsEarlierValue, AddsOperations, IsReadingValue, IsValueOrNone}

-- a value shows a number of the unsigned kind of this width; none is 0
abbrev pub ShowsUnsigned : Readings → (width v n : ℕ) → Type 0
ShowsUnsigned x width v n = x.word v ≡ with_bits (kind.Unsigned width) n

abbrev pub ShowsOrZero : Readings → (width : ℕ) → Option ℕ → (n : ℕ) → Type 0
ShowsOrZero x width None n = n ≡ 0
ShowsOrZero x width (Some v) n = ShowsUnsigned x width v n

-- a value shows a truth; none is true
abbrev pub HoldsOrNone : Readings → Option ℕ → Bool → Type 0
HoldsOrNone x None b = b ≡ true
HoldsOrNone x (Some v) b = x.word v ≡ truth b

-- an index: a value of the block that is there at a clock
abbrev pub IsInput : (x : Readings) → (clock : ℕ) → List Operation → (v : ℕ) → Type 0
IsInput x clock os v = Obeys x os → IsEarlierValue x clock (length os) v

-- indices have these numbers as values, and each is below the size of its dimension
abbrev pub IndicesAreWithin : Readings → List Dim → (indices : List ℕ) → List ℕ → Type 0
IndicesAreWithin x [] [] [] = Unit {0}
IndicesAreWithin x (d ∷ ds) (i ∷ is) (v ∷ vs) = ((value_of (x.word i) ≡ pos v) × (v < d.size)) × IndicesAreWithin x ds is vs
IndicesAreWithin x _ _ _ = ⊥

-- the width is enough for the elements of these dimensions
pub record IsWideEnough (width : ℕ) (dims : List Dim) : Type 0 where
  pub sized : IsWidth width
  pub dims_are : AllByRecursion IsDim dims
  pub most : elements_of dims < 2 ^ width

-- Operations that make the row and the bank of an element.
pub record IsRowMade (width : ℕ) (dims : List Dim) (indices : List ℕ) (banked : Bool) (old new : List Operation) (row bank : Option ℕ) : Type 0 where
  -- they are plain, and there as soon as the indices are
  pub adds : (x : Readings) (clock : ℕ) → x.first ≤ length old → AllByRecursion (λ i. IsInput x clock old i) indices → AddsOperations x clock old new
  pub row_stands : (x : Readings) (clock : ℕ) → x.first ≤ length old → AllByRecursion (λ i. IsInput x clock old i) indices → IsValueOrNone x clock new (kind.Unsigned width) row
  pub bank_stands : (x : Readings) (clock : ℕ) → x.first ≤ length old → AllByRecursion (λ i. IsInput x clock old i) indices → IsValueOrNone x clock new (kind.Unsigned width) bank
  -- of an element within its dimensions they show row and bank
  pub row_shown : (x : Readings) (numbers : List ℕ) → x.first ≤ length old → Obeys x new → IndicesAreWithin x dims indices numbers → ShowsOrZero x width row (row_of dims numbers)
  pub bank_shown : (x : Readings) (numbers : List ℕ) → x.first ≤ length old → Obeys x new → IndicesAreWithin x dims indices numbers → banked ≡ true → ShowsOrZero x width bank (bank_of dims numbers)

-- a number is from 0 on and below a size
abbrev pub is_below_size : ℤ → (size : ℕ) → Bool
is_below_size z size = int_le (pos 0) z && int_lt z (pos size)

-- Operations that test a value of a kind.
pub record TestsValue (k : Kind) (value size : ℕ) (old new : List Operation) (test : Option ℕ) : Type 0 where
  pub adds : (x : Readings) (clock : ℕ) → x.first ≤ length old → IsReadingValue x clock old k value → AddsOperations x clock old new
  pub stands : (x : Readings) (clock : ℕ) → x.first ≤ length old → IsReadingValue x clock old k value → IsValueOrNone x clock new kind.Bool test
  pub shown : (x : Readings) → x.first ≤ length old → Obeys x new → IsWord (x.word value) → (x.word value).kind ≡ k → HoldsOrNone x test (is_below_size (value_of (x.word value)) size)

-- What is promised, where the list was the one and is now the other.

abbrev pub MakesRow : (old new : List Operation) → (width : ℕ) → List Dim → (indices : List ℕ) → (banked : Bool) → RowAndBank → Type 0
MakesRow old new width dims indices banked s = IsWideEnough width dims → IsRowMade width dims indices banked old new s.row s.bank

abbrev pub MakesTest : (old new : List Operation) → Kind → (value size : ℕ) → Option ℕ → Type 0
MakesTest old new k value size test = IsInteger k → TestsValue k value size old new test

-- Offsets.

-- no further from 0 than a bound
abbrev pub is_small : ℤ → (bound : ℕ) → Bool
is_small z bound = nat_le (unsigned_abs z) bound

-- what is tested of an offset is there, of its kind
abbrev pub SpanStands : (x : Readings) → (clock : ℕ) → List Operation → Option Span → Type 0
SpanStands x clock os None = Unit {0}
SpanStands x clock os (Some s) = IsInteger s.kind × IsReadingValue x clock os s.kind s.value

-- it is in range exactly where this holds
pub record SpanShows (x : Readings) (s : Span) (holds : Bool) : Type 0 where
  pub sized : IsInteger s.kind
  pub word : IsWord (x.word s.value)
  pub kind_is : (x.word s.value).kind ≡ s.kind
  pub test : is_below_size (value_of (x.word s.value)) s.size ≡ holds

abbrev pub SpanTells : (x : Readings) → Option Span → (holds : Bool) → Type 0
SpanTells x None holds = holds ≡ true
SpanTells x (Some s) holds = SpanShows x s holds
