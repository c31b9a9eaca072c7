-- The views on the way of an access: by their numbers in a plan, and through all of them which element of the memory.
use Rattle.std.specs.Prelude.{ℕ, List, [], ◌∷◌, slice_get, Option, Some, None, ℤ}
use Rattle.dh_tree.specs.ViewElements.{view_through, where_inside}
use Rattle.dh_tree.specs.declared.viewing.ViewMap.{ViewMap}

-- a view on the way, by its number, with the values of its offsets
pub record Passage : Type 0 where
  pub view : ℕ
  pub offsets : List ℤ

-- the indices of the parent, None where there is no view of that number
abbrev pub through_view : Option ViewMap → (offsets indices : List ℤ) → Option (List ℤ)
through_view None offsets indices = None
through_view (Some v) offsets indices = view_through v offsets indices

-- the indices of the memory, None where those of a view on the way are out of range
abbrev pub indices_behind : List ViewMap → List Passage → List ℤ → Option (List ℤ)
indices_behind views [] indices = Some indices
indices_behind views (p ∷ ps) indices = where_inside (through_view (slice_get views p.view) p.offsets indices) (indices_behind views ps)
