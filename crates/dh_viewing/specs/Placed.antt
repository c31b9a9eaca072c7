-- Views, each found by its entity: by the number of an entity the place of its view.
use Rattle.std.specs.Prelude.{◌≡◌, ℕ, suc, List, [], ◌∷◌, ◌++◌, length, get_or, if◌then◌else◌, Option, Some, None, option_map, slice_get}
use Rattle.dh_tree.specs.declared.viewing.Viewed.{Viewed}
use Rattle.dh_tree.specs.declared.viewing.ViewMap.{ViewMap}
use Rattle.dh_tree.specs.Memories.{same_entity}

-- the place among views of the first one that is this entity, if one is
abbrev pub view_place_in : List Viewed → Option ℕ → Option ℕ
view_place_in [] entity = None
view_place_in (v ∷ vs) entity = if same_entity v.entity entity then Some 0 else option_map suc (view_place_in vs entity)

-- of each entity the place of its view, if it is one
abbrev pub AreViewPlaces : List Viewed → (places : List (Option ℕ)) → Type 0
AreViewPlaces vs places = (entity : ℕ) → get_or places entity None ≡ view_place_in vs (Some entity)

-- the same is told of each entity
abbrev pub TellTheSame : (old new : List (Option ℕ)) → Type 0
TellTheSame old new = (entity : ℕ) → get_or new entity None ≡ get_or old entity None

-- where an entity is the next view behind those that are placed, and this is its place, it is placed too
abbrev pub PlacesNext : (entity place : ℕ) → (old new : List (Option ℕ)) → Type 0
PlacesNext entity place old new =
    (vs : List Viewed) (v : Viewed) → AreViewPlaces vs old → place ≡ length vs → v.entity ≡ Some entity → AreViewPlaces (vs ++ v ∷ []) new

-- the place that is told of an entity
abbrev pub placed_at : (places : List (Option ℕ)) → Option ℕ → Option ℕ
placed_at places None = None
placed_at places (Some entity) = get_or places entity None

-- the view at a place
abbrev pub map_at : List Viewed → (place : Option ℕ) → Option ViewMap
map_at vs None = None
map_at vs (Some place) = option_map (λ v. v.is) (slice_get vs place)
