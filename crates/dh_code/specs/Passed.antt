-- The indices to which those of a view lead, through the views on the way.
use Rattle.std.specs.Prelude.{◌≡◌, false, List, length, Option, Some, None, ℤ}
use Rattle.dh_tree.specs.declared.tables.Dim.{Dim}
use Rattle.dh_tree.specs.ViewElements.{is_inside}
use Rattle.dh_viewing.specs.declared.numbers.Index.{Index}
use Rattle.dh_viewing.specs.Numbers.{numbers_in}

-- these are the indices of a memory of these dimensions; or there are none within them
abbrev pub PassesTo : List Dim → Option (List ℤ) → Option Index → Type 0
PassesTo ds o (Some index) = (o ≡ Some (numbers_in index)) × (index.len ≡ length ds)
PassesTo ds None None = Unit {0}
PassesTo ds (Some is) None = is_inside ds is ≡ false
