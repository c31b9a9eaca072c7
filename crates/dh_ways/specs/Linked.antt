-- The views of a program as links, each of which goes on with that of its parent, so that what ways have in common is kept
-- once; and the ways that they are.
use Rattle.std.specs.Prelude.{◌≡◌, ℕ, ◌<◌, List, [], ◌∷◌, ◌++◌, length, Option, Some, None, option_map, slice_get}
use Rattle.dh_tree.specs.declared.viewing.ViewMap.{ViewMap}
use Rattle.dh_ways.specs.declared.linking.Link.{Link}
use Rattle.dh_ways.specs.declared.ways.Hidden.{Hidden}
use Rattle.dh_ways.specs.Kept.{KeptLed, KeptWay}

-- Ways.

-- the views on the way behind a link, and where their offsets are kept; a memory has none
abbrev pub views_kept : Option KeptWay → List ViewMap
views_kept None = []
views_kept (Some w) = w.view ∷ w.behind

abbrev pub hidden_kept : Option KeptWay → List Hidden
hidden_kept None = []
hidden_kept (Some w) = w.hidden

-- the way of a link, by that of its parent
abbrev pub way_over : Link → (parent : Option KeptWay) → KeptWay
way_over l parent = record {
  view = l.view;
  behind = views_kept parent;
  memory = l.memory;
  hidden = l.own ++ hidden_kept parent;
  deepest = l.deepest;
  shifts = l.shifts;
}

-- the way of the view at a place, if one is there
abbrev pub way_there : List KeptLed → (place : Option ℕ) → Option KeptWay
way_there ls None = None
way_there ls (Some place) = option_map (λ l. l.way) (slice_get ls place)

-- that of a link whose parent is one of these
abbrev pub way_linked : List KeptLed → Link → KeptWay
way_linked ls l = way_over l (way_there ls l.parent)

abbrev pub led_by : List KeptLed → Link → KeptLed
led_by ls l = record { entity = l.entity; way = way_linked ls l }

-- these views with that of a link behind them
abbrev pub with_link : (before : List KeptLed) → Link → List KeptLed
with_link before l = before ++ led_by before l ∷ []

-- the views of links, behind these
abbrev pub led_by_links : (before : List KeptLed) → List Link → List KeptLed
led_by_links before [] = before
led_by_links before (l ∷ ls) = led_by_links (before ++ led_by before l ∷ []) ls

abbrev pub ways_linked : List Link → List KeptLed
ways_linked links = led_by_links [] links

-- the views on the way of the one at a place
abbrev pub views_linked : List Link → (place : ℕ) → List ViewMap
views_linked links place = views_kept (way_there (ways_linked links) (Some place))

-- Links that follow one another.

-- a parent stands before a place
abbrev pub IsBefore : (place : ℕ) → (parent : Option ℕ) → Type 0
IsBefore place None = Unit {0}
IsBefore place (Some parent) = parent < place

-- a link can stand behind these views: its parent is one of them, and the first variable that keeps an offset on its way
-- is the one that is noted
pub record CanFollow (before : List KeptLed) (l : Link) : Type 0 where
  pub parent : IsBefore (length before) l.parent
  pub first : l.first ≡ slice_get (way_linked before l).hidden 0

abbrev pub AreLinkedOn : (before : List KeptLed) → List Link → Type 0
AreLinkedOn before [] = Unit {0}
AreLinkedOn before (l ∷ ls) = CanFollow before l × AreLinkedOn (before ++ led_by before l ∷ []) ls

abbrev pub LinksFollowOneAnother : List Link → Type 0
LinksFollowOneAnother links = AreLinkedOn [] links

-- this is the link at a place among links that follow one another
pub record IsLinkAt (links : List Link) (place : ℕ) (l : Link) : Type 0 where
  pub linked : LinksFollowOneAnother links
  pub there : slice_get links place ≡ Some l

-- What is told of ways.

-- a way from its first view on: where the offsets of this one are kept, and the way behind it
pub record IsSplit (w : KeptWay) (own : List Hidden) (behind : Option KeptWay) : Type 0 where
  pub views : w.behind ≡ views_kept behind
  pub hidden : w.hidden ≡ own ++ hidden_kept behind

-- the view at a place has its parent at another one, before it; without one it is a view of a memory
abbrev pub IsParentAt : List KeptLed → (place : ℕ) → (parent : Option ℕ) → Type 0
IsParentAt ls place None = (l : KeptLed) → slice_get ls place ≡ Some l → l.way.behind ≡ []
IsParentAt ls place (Some parent) =
    (parent < place) × ((l m : KeptLed) → slice_get ls place ≡ Some l → slice_get ls parent ≡ Some m → l.way.behind ≡ m.way.view ∷ m.way.behind)
