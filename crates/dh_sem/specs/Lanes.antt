-- The paths inside unrolled loops, as a run keeps them.
use Rattle.std.specs.Prelude.{◌≡◌, ℕ, zero, suc, ◌+◌, ◌-◌, ◌^◌, ◌<◌, ◌≤◌, nat_lt, if◌then◌else◌, List, [], ◌∷◌, ◌++◌, length, map, slice_get, Some, Vec}
use Rattle.std.specs.Global.{Global}
use Rattle.std.specs.List.{range_with_len}
use Rattle.dh_meaning.specs.Paths.{paths_in}
use Rattle.dh_code.specs.Declarations.{factors_inside}
use Rattle.dh_code.specs.Ranks.{copies_in, ranks_of}
use Rattle.dh_code.specs.Rows.{contents_of}
use Rattle.dh_sem.specs.declared.lanes.Lanes.{Lanes}

-- the paths inside loops of these factors, by the ranks of their beginnings
pub record AreLanes (factors : List ℕ) (l : Lanes) : Type 0 where
  pub rows : contents_of l.rows.items ≡ map (ranks_of factors) (paths_in factors)
  pub all : l.all.items ≡ range_with_len 0 (length l.rows.items)
  pub some_path : 0 < length l.rows.items

-- the lanes of a number are these
pub record LeadsInto (lanes : List Lanes) (number : ℕ) (factors : List ℕ) : Type 0 where
  pub found : Lanes
  pub there : slice_get lanes number ≡ Some found
  pub are : AreLanes factors found

-- further lanes behind those that there are
pub record MoreLanes (old new : List Lanes) : Type 0 where
  pub more : List Lanes
  pub are : new ≡ old ++ more

-- one path, which is outside all loops
pub record AreFirstLanes (lanes : List Lanes) : Type 0 where
  pub long : length lanes ≡ 1
  pub lead : LeadsInto lanes 0 []

-- the rank of a path before which there are so many
abbrev pub rank_kept : ℕ → ℕ
rank_kept count = if nat_lt count (2 ^ 32 - 1) then count else 2 ^ 32 - 1

-- the ranks of so many copies of a path, before which there are so many
abbrev pub row_copies : (before : ℕ) → List ℕ → (count : ℕ) → List (List ℕ)
row_copies before row zero = []
row_copies before row (suc n) = row_copies before row n ++ (row ++ rank_kept (before + n) ∷ []) ∷ []

-- so many copies of a path are added
abbrev pub AddsPathCopies : (old new : List (Vec ℕ Global)) → (row : List ℕ) → (count : ℕ) → Type 0
AddsPathCopies old new row count = contents_of new ≡ contents_of old ++ row_copies (length old) row count

-- the ranks of the copies of paths
abbrev pub copied_rows : (before factor : ℕ) → List (List ℕ) → List (List ℕ)
copied_rows before factor [] = []
copied_rows before factor (row ∷ rows) = row_copies before row factor ++ copied_rows (before + factor) factor rows

-- the lanes of a number are those inside a loop of so many copies, where that are few
pub record LanesInside (old new : List Lanes) (outside factor number : ℕ) : Type 0 where
  pub more : MoreLanes old new
  pub there : number < length new
  pub lead : (factors : List ℕ) → LeadsInto old outside factors → copies_in (factors_inside factors factor) ≤ 2 ^ 32 → LeadsInto new number (factors_inside factors factor)

-- so they are where those outside are there
abbrev pub LeadsInside : (old new : List Lanes) → (outside factor number : ℕ) → Type 0
LeadsInside old new outside factor number = outside < length old → LanesInside old new outside factor number
