-- What the code looks up of a memory, a loop or a dimension, told over tables.
use Rattle.std.specs.Prelude.{ℕ, ◌^◌, List, Option, Some, None, if◌then◌else◌, slice_get}
use Rattle.dh_base.specs.declared.places.Place.{Place}
use Rattle.dh_tree.specs.declared.breaches.Breach.{Breach}
use Rattle.dh_tree.specs.declared.tables.Dim.{Dim}
use Rattle.dh_tree.specs.declared.tables.MemEntry.{MemEntry}
use Rattle.dh_tree.specs.declared.trees.commands.LoopHeader.{LoopHeader}
use Rattle.dh_tree.specs.declared.trees.counters.Counter.{Counter}
use Rattle.dh_tree.specs.declared.trees.programs.DimPlaces.{DimPlaces}
use Rattle.dh_tree.specs.Indices.{shape_keeps, dim_breaches, turns_breaches}
use Rattle.dh_tree.specs.Seen.{low_seen, high_seen, unroll_seen}

-- above every number that a text has
abbrev pub number_bound : ℕ
number_bound = 2 ^ 64

-- the dimensions of an entry whose shape breaks no rule
abbrev pub entry_dimensions : Option MemEntry → Option (List Dim)
entry_dimensions None = None
entry_dimensions (Some e) = if shape_keeps e.shape then Some e.shape.dims else None

-- those of the entry of this number
abbrev pub entry_dimensions_at : List MemEntry → Option ℕ → Option (List Dim)
entry_dimensions_at table None = None
entry_dimensions_at table (Some number) = entry_dimensions (slice_get table number)

-- the copies of the body of a loop; 1 for what is no loop
abbrev pub body_copies_of : Option Counter → ℕ
body_copies_of None = 1
body_copies_of (Some c) = c.factor

-- what the bounds and the copies of a loop break
abbrev pub header_breaches : LoopHeader → List Breach
header_breaches h = turns_breaches (low_seen h) (high_seen h) (unroll_seen h)

-- the breaches of a dimension whose numbers stand there, or at its type
abbrev pub placed_breaches : Place → Option DimPlaces → Dim → List Breach
placed_breaches at None d = dim_breaches at at d
placed_breaches at (Some p) d = dim_breaches p.size_place p.banks_place d
