-- The index of the parent of a view by suffix or shift, number by number.
use Rattle.std.specs.Prelude.{◌≡◌, ℕ, ◌-◌, ◌/◌, ◌≤◌, true, if◌then◌else◌, List, [], ◌∷◌, ◌++◌, replicate, Option, Some, None, ℤ, pos, ◌+ℤ◌, ◌*ℤ◌, unsigned_abs}
use Rattle.dh_tree.specs.declared.tables.Dim.{Dim}
use Rattle.dh_tree.specs.declared.viewing.ViewSort.{ViewSort}
use Rattle.dh_tree.specs.declared.viewing.ViewSort.TheVariants.{Shrink, Split, Suffix, Shift}
use Rattle.dh_tree.specs.ViewElements.{is_index}

-- a whole number as a natural one, where it is an index of a size
abbrev pub number_within : (size : ℕ) → ℤ → Option ℕ
number_within size z = if is_index size z then Some (unsigned_abs z) else None

-- it where it is one
abbrev pub kept_number : (size : ℕ) → ℤ → Option ℤ
kept_number size z = if is_index size z then Some z else None

-- an index moved, where it and what it becomes are indices of the size
abbrev pub moved_number : (size factor : ℕ) → (offset index : ℤ) → Option ℤ
moved_number size factor offset index = if is_index size index then kept_number size ((pos factor *ℤ offset) +ℤ index) else None

abbrev pub with_first_number : Option ℤ → Option (List ℤ) → Option (List ℤ)
with_first_number None rest = None
with_first_number (Some z) None = None
with_first_number (Some z) (Some zs) = Some (z ∷ zs)

-- all of them, where all are
abbrev pub moved_numbers : List Dim → List ℕ → (offsets indices : List ℤ) → Option (List ℤ)
moved_numbers (d ∷ ds) (k ∷ ks) (e ∷ es) (i ∷ is) = with_first_number (moved_number d.size k e i) (moved_numbers ds ks es is)
moved_numbers _ _ _ _ = Some []

-- these numbers with those behind them, if there are any
abbrev pub with_front_numbers : List ℤ → Option (List ℤ) → Option (List ℤ)
with_front_numbers front None = None
with_front_numbers front (Some zs) = Some (front ++ zs)

-- so many factors of a view that moves: its own, or 1 where it has none
abbrev pub Moves : ViewSort → (by factors : List ℕ) → (count : ℕ) → Type 0
Moves Suffix by factors count = factors ≡ by
Moves Shift by factors count = factors ≡ replicate count 1
Moves Shrink by factors count = ⊥
Moves Split by factors count = ⊥

-- an offset with which an index of a view is in range is small: its multiple by the factor is below the size
abbrev pub OffsetsInRangeAreSmall : Type 0
OffsetsInRangeAreSmall =
    (size k : ℕ) (e i : ℤ) → 1 ≤ k → is_index size i ≡ true → is_index size ((pos k *ℤ e) +ℤ i) ≡ true → unsigned_abs e ≤ (size - 1) / k
