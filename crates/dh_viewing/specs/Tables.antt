-- Views of which each may share what it is.
use Rattle.std.specs.Prelude.{ℕ, List, map, Option, Some, None, slice_get}
use Rattle.dh_tree.specs.declared.viewing.Viewed.{Viewed}
use Rattle.dh_viewing.specs.declared.tables.SharedView.{SharedView}

-- the view
abbrev pub shared_seen : SharedView → Viewed
shared_seen v = record { entity = v.entity; is = v.is }

abbrev pub all_shared : List SharedView → List Viewed
all_shared vs = map shared_seen vs

-- the one at a place
abbrev pub shared_placed : List SharedView → (place : Option ℕ) → Option SharedView
shared_placed vs None = None
shared_placed vs (Some place) = slice_get vs place
