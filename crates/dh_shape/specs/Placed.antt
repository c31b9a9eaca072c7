-- Where an element lies, as the code answers it.
use Rattle.std.specs.Prelude.{ℕ, List, Option, Some, None, if◌then◌else◌}
use Rattle.dh_tree.specs.declared.tables.Shape.{Shape}
use Rattle.dh_tree.specs.Elements.{bank_of, row_of, is_within}

-- the bank and the row of an element; none where an index is not below its dimension's size
abbrev pub place_of_element : Shape → (index : List ℕ) → Option (ℕ × ℕ)
place_of_element s index = if is_within s.dims index then Some (bank_of s.dims index, row_of s.dims index) else None
