-- How many banks, rows and elements a memory has.
use Rattle.std.specs.Prelude.{◌≡◌, ◌≤◌, List}
use Rattle.std.specs.List.{AllByRecursion}
use Rattle.dh_tree.specs.declared.tables.Dim.{Dim}
use Rattle.dh_tree.specs.declared.tables.MemEntry.{MemEntry}
use Rattle.dh_tree.specs.Elements.{banks_of, rows_of}
use Rattle.dh_tree.specs.Shapes.{IsDim, IsMemory}
use Rattle.dh_tree.specs.Tables.{elements_of, most_elements}
use Rattle.dh_extents.specs.declared.extents.Extent.{Extent}

-- dimensions that a memory can have
pub record AreDims (ds : List Dim) : Type 0 where
  pub dims : AllByRecursion IsDim ds
  pub few : elements_of ds ≤ most_elements

abbrev pub IsExtent : List Dim → Extent → Type 0
IsExtent ds e = (e.banks ≡ banks_of ds) × ((e.rows ≡ rows_of ds) × (e.elements ≡ elements_of ds))

-- a memory that keeps the rules and limits, with no more elements than all memories may have
pub record IsSmallMemory (e : MemEntry) : Type 0 where
  pub memory : IsMemory e
  pub few : elements_of e.shape.dims ≤ most_elements
