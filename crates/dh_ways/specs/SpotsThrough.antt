-- Where an access by indices leads, of a memory or through the views on a way: by the values of its indices and of the
-- offsets that the way keeps.
use Rattle.std.specs.Prelude.{ℕ, List, Option, Some, None, ℤ}
use Rattle.dh_tree.specs.declared.tables.MemEntry.{MemEntry}
use Rattle.dh_tree.specs.Elements.{Spot}
use Rattle.dh_meaning.specs.CoreOf.{kept_terms}
use Rattle.dh_meaning.specs.Effects.{Begun, Variables, spot_by_indices, spot_by_views, values_of}
use Rattle.dh_meaning.specs.Paths.{Path}
use Rattle.dh_meaning.specs.Ways.{Way, hidden_in}

abbrev pub spot_to : List MemEntry → (memory : ℕ) → Option Way → (indices offsets : List ℤ) → Option Spot
spot_to table memory None indices offsets = spot_by_indices table memory indices
spot_to table memory (Some w) indices offsets = spot_by_views table memory w.steps indices offsets

-- the offsets that a way keeps, as they are at a path
abbrev pub offsets_at : Begun → Variables → Path → Option Way → List ℤ
offsets_at b v path way = values_of b v path (kept_terms (hidden_in way))
