-- Which element of its parent the index of a view names, in whole numbers, where nothing wraps. (The names of
-- the four views are of Nigam and others, PLDI 2020; which element an index names is this profile's.)
use Rattle.std.specs.Prelude.{ℕ, ◌+◌, ◌*◌, ◌/◌, ◌%◌, ◌&&◌, Bool, true, false, if◌then◌else◌, List, [], ◌∷◌, length, slice_index, Option, Some, None, ℤ, pos, ◌+ℤ◌, ◌*ℤ◌, int_le, int_lt, unsigned_abs}
use Rattle.dh_tree.specs.declared.tables.Dim.{Dim}
use Rattle.dh_tree.specs.declared.viewing.ViewMap.{ViewMap}
use Rattle.dh_tree.specs.declared.viewing.ViewSort.{ViewSort}
use Rattle.dh_tree.specs.declared.viewing.ViewSort.TheVariants.{Shrink, Split, Suffix, Shift}

-- a whole number is at least 0 and below a size
abbrev pub is_index : (size : ℕ) → ℤ → Bool
is_index size i = int_le (pos 0) i && int_lt i (pos size)

-- as many indices as dimensions, each at least 0 and below its size
abbrev pub is_inside : List Dim → List ℤ → Bool
is_inside [] [] = true
is_inside (d ∷ ds) (i ∷ is) = is_index d.size i && is_inside ds is
is_inside [] (i ∷ is) = false
is_inside (d ∷ ds) [] = false

-- the banks of the first dimension
abbrev pub first_banks : List Dim → ℕ
first_banks [] = 1
first_banks (d ∷ ds) = d.banks

-- number by number; what the shorter list lacks is left out
abbrev pub sums : List ℤ → List ℤ → List ℤ
sums (a ∷ more) (b ∷ bs) = (a +ℤ b) ∷ sums more bs
sums _ _ = []

abbrev pub multiples : List ℕ → List ℤ → List ℤ
multiples (k ∷ ks) (e ∷ es) = (pos k *ℤ e) ∷ multiples ks es
multiples _ _ = []

-- of copy a its element b, where each copy has so many banks of a row of `banks`
abbrev pub dealt_index : (banks share a b : ℕ) → ℕ
dealt_index banks share a b = (b / share) * banks + a * share + b % share

abbrev pub split_index : (banks factor : ℕ) → List ℤ → List ℤ
split_index banks factor (a ∷ b ∷ rest) = pos (dealt_index banks (banks / factor) (unsigned_abs a) (unsigned_abs b)) ∷ []
split_index banks factor _ = []

-- the indices of the parent, by the sort of the view
abbrev pub parent_index : ViewSort → (banks : ℕ) → (factors : List ℕ) → (offsets indices : List ℤ) → List ℤ
parent_index Shrink banks factors offsets indices = indices
parent_index Split banks factors offsets indices = split_index banks (slice_index factors 0) indices
parent_index Suffix banks factors offsets indices = sums (multiples factors offsets) indices
parent_index Shift banks factors offsets indices = sums offsets indices

-- indices where they are within these dimensions
abbrev pub inside_of : List Dim → List ℤ → Option (List ℤ)
inside_of dims indices = if is_inside dims indices then Some indices else None

-- the indices that an index of a view names in its parent
abbrev pub named_by : ViewMap → (offsets indices : List ℤ) → List ℤ
named_by v offsets indices = parent_index v.sort (first_banks v.parent.dims) v.by offsets indices

-- those of the parent where the index is within the view's own sizes
abbrev pub view_through : ViewMap → (offsets indices : List ℤ) → Option (List ℤ)
view_through v offsets indices = if is_inside v.shape.dims indices then Some (named_by v offsets indices) else None

-- what follows, where the indices so far are in range
abbrev pub where_inside : Option (List ℤ) → (List ℤ → Option (List ℤ)) → Option (List ℤ)
where_inside None follow = None
where_inside (Some indices) follow = follow indices

-- offsets of a view: one for each dimension of its parent, or none
abbrev pub offsets_needed : ViewSort → List Dim → ℕ
offsets_needed Shrink dims = 0
offsets_needed Split dims = 0
offsets_needed Suffix dims = length dims
offsets_needed Shift dims = length dims

-- the parent's element; none where the index is out of range in the view, or what it names in the parent
abbrev pub element_through : ViewMap → (offsets indices : List ℤ) → Option (List ℤ)
element_through v offsets indices = if is_inside v.shape.dims indices then inside_of v.parent.dims (named_by v offsets indices) else None
