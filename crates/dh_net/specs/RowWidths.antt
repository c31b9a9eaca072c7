-- The width of row numbers.
use Rattle.std.specs.Prelude.{ℕ, ◌^◌, ◌+◌, ◌≤◌, zero, suc, nat_le, if◌then◌else◌}

-- the width of the numbers of this many rows: the least of at least 1 that has them all
pub record IsRowWidth (rows width : ℕ) : Type 0 where
  pub least : 1 ≤ width
  pub all : rows ≤ 2 ^ width
  pub none_less : (w : ℕ) → 1 ≤ w → rows ≤ 2 ^ w → width ≤ w

-- the least width of at least this one that has the rows, among so many widths
abbrev pub row_width_from : (widths rows width : ℕ) → ℕ
row_width_from zero rows width = width
row_width_from (suc n) rows width = if nat_le rows (2 ^ width) then width else row_width_from n rows (width + 1)

-- the least width of at least 1 that has this many rows: no number of rows is above 2 to its own power
unfoldable pub row_width_of : ℕ → ℕ
row_width_of rows = row_width_from rows rows 1
