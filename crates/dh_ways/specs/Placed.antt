-- Views with their ways, each found by its entity: by the number of an entity the place of its view.
use Rattle.std.specs.Prelude.{◌≡◌, ℕ, suc, List, [], ◌∷◌, ◌++◌, length, map, get_or, if◌then◌else◌, Option, Some, None, option_map, slice_get}
use Rattle.dh_tree.specs.Memories.{same_entity}
use Rattle.dh_meaning.specs.Ways.{way_in}
use Rattle.dh_ways.specs.declared.linking.Link.{Link}
use Rattle.dh_ways.specs.Kept.{KeptLed}
use Rattle.dh_ways.specs.Seen.{led_seen, way_seen}

-- the place among links of that of the first view that is this entity, if one is
abbrev pub link_place_in : List Link → Option ℕ → Option ℕ
link_place_in [] entity = None
link_place_in (l ∷ ls) entity = if same_entity l.entity entity then Some 0 else option_map suc (link_place_in ls entity)

-- of each entity the place of its view, if it is one
abbrev pub AreLinkPlaces : List Link → (places : List (Option ℕ)) → Type 0
AreLinkPlaces ls places = (entity : ℕ) → get_or places entity None ≡ link_place_in ls (Some entity)

-- where an entity is the next view behind those that are placed, and this is its place, it is placed too
abbrev pub PlacesNextLink : (entity place : ℕ) → (old new : List (Option ℕ)) → Type 0
PlacesNextLink entity place old new =
    (ls : List Link) (l : Link) → AreLinkPlaces ls old → place ≡ length ls → l.entity ≡ Some entity → AreLinkPlaces (ls ++ l ∷ []) new

-- the place of the first view that is this entity, if one is
abbrev pub place_found : List KeptLed → Option ℕ → Option ℕ
place_found [] entity = None
place_found (l ∷ ls) entity = if same_entity l.entity entity then Some 0 else option_map suc (place_found ls entity)

-- this is the place of the view that an entity is, if one of these is
abbrev pub FindsPlace : List KeptLed → Option ℕ → (place : Option ℕ) → Type 0
FindsPlace ls entity None = way_in (map led_seen ls) entity ≡ None
FindsPlace ls entity (Some place) = (l : KeptLed) × ((slice_get ls place ≡ Some l) × (way_in (map led_seen ls) entity ≡ Some (way_seen l.way)))
