-- The view that is added behind others by its link, as code makes it.
use Rattle.std.specs.Prelude.{◌≡◌, ℕ, ◌<◌, List, [], ◌∷◌, ◌++◌, length, map, Option, Some, None, slice_get}
use Rattle.dh_tree.specs.declared.trees.programs.Tree.{Tree}
use Rattle.dh_tree.specs.declared.viewing.ViewMap.{ViewMap}
use Rattle.dh_tree.specs.Memories.{Memory, memories_of}
use Rattle.dh_tree.specs.PlainTrees.{Program}
use Rattle.dh_tree.specs.Seen.{program_seen}
use Rattle.dh_meaning.specs.Ways.{Led, ViewSite, Way, behind_hidden, hidden_of, led_after, led_behind, led_of, shape_named, way_behind, way_in, ways_of}
use Rattle.dh_ways.specs.declared.linking.Link.{Link}
use Rattle.dh_ways.specs.declared.standing.Stood.{Stood}
use Rattle.dh_ways.specs.declared.ways.Hidden.{Hidden}
use Rattle.dh_ways.specs.Kept as kept
use Rattle.dh_ways.specs.Linked.{CanFollow, led_by, way_linked, way_there}
use Rattle.dh_ways.specs.Seen.{hidden_seen, led_seen, way_seen}
use Rattle.dh_ways.specs.Stands.{all_own, hidden_of_program, own_of, stand_seen, standing_seen}

-- the first of these variables and of any others behind them, of which `behind` is the first
abbrev pub IsFirstOr : List Hidden → (behind first : Option Hidden) → Type 0
IsFirstOr hidden behind first = (others : List Hidden) → behind ≡ slice_get others 0 → first ≡ slice_get (hidden ++ others) 0

-- the views that a link adds behind others, if there is one
abbrev pub linked_on : (before : List kept.KeptLed) → Option Link → List Led
linked_on before None = []
linked_on before (Some l) = led_seen (led_by before l) ∷ []

-- and it can stand there
abbrev pub MayFollow : (before : List kept.KeptLed) → Option Link → Type 0
MayFollow before None = Unit {0}
MayFollow before (Some l) = CanFollow before l

-- a link of a view as which this map is made, wherever its offsets are kept in these variables: by the way of its parent
pub record IsLinkOf (before : List kept.KeptLed) (s : ViewSite) (own : List Hidden) (made : ViewMap) (parent : Option Way) (l : Link) : Type 0 where
  pub entity : l.entity ≡ s.name.entity
  pub way : (first : ℕ) → map hidden_seen own ≡ hidden_of first s → way_seen (way_linked before l) ≡ way_behind first s made parent
  pub follows : CanFollow before l

-- a link by which these views are added, wherever the offsets of the one are kept in these variables
pub record IsLinkAddingViews (before : List kept.KeptLed) (s : ViewSite) (own : List Hidden) (added : ℕ → List Led) (link : Option Link) : Type 0 where
  pub follows : MayFollow before link
  pub led : (first : ℕ) → map hidden_seen own ≡ hidden_of first s → linked_on before link ≡ added first

-- the views that a view adds to these, where its parent is no memory
abbrev pub led_in : (before : List Led) → ViewSite → (first : ℕ) → List Led
led_in before s first = led_of first s (shape_named None (way_in before s.parent.entity)) (way_in before s.parent.entity)

-- a view is added, and the next entity is that behind its offsets
abbrev pub LeadsNext : List Memory → (old new : List Led) → (first next : ℕ) → ViewSite → Type 0
LeadsNext ms old new first next s = (next ≡ behind_hidden first s) × (new ≡ old ++ led_after ms first old s)

-- a link of a view as which this map is made, and one of any such view, behind all views among which the view at this place has
-- this way: that is the way of its parent
abbrev pub IsLinkBehind : (place : ℕ) → (parent : kept.KeptWay) → ViewSite → (own : List Hidden) → (made : ViewMap) → Link → Type 0
IsLinkBehind place parent s own made l =
    (before : List kept.KeptLed) → place < length before → Some parent ≡ way_there before (Some place) → IsLinkOf before s own made (Some (way_seen parent)) l

abbrev pub LinksBehind : (place : ℕ) → (parent : kept.KeptWay) → ViewSite → (own : List Hidden) → Option Link → Type 0
LinksBehind place parent s own link =
    (before : List kept.KeptLed) → place < length before → Some parent ≡ way_there before (Some place)
    → IsLinkAddingViews before s own (λ first. led_of first s (Some parent.view.shape) (Some (way_seen parent))) link

-- a view is added behind others, and its variables behind others; and so are views
abbrev pub AddsWay : Tree → (old new : List kept.KeptLed) → (hidden more : List Hidden) → (first next : ℕ) → Stood → Type 0
AddsWay tree old new hidden more first next view =
    LeadsNext (memories_of (program_seen tree)) (map led_seen old) (map led_seen new) first next (standing_seen view) × (more ≡ hidden ++ own_of first (stand_seen view))

abbrev pub AddsWays : Tree → (old new : List kept.KeptLed) → (hidden more : List Hidden) → (first : ℕ) → List Stood → Type 0
AddsWays tree old new hidden more first views =
    (map led_seen new ≡ led_behind (memories_of (program_seen tree)) first (map led_seen old) (map standing_seen views)) × (more ≡ hidden ++ all_own first (map stand_seen views))

-- these are the ways of a program's views, and the variables that keep their offsets
abbrev pub AreWaysOf : Program → List kept.KeptLed → List Hidden → Type 0
AreWaysOf p ways hidden = (map led_seen ways ≡ ways_of p) × (hidden ≡ hidden_of_program p)
