-- The variables that keep the offsets of a program's views, in text order; and what is known of those on a way.
use Rattle.std.specs.Prelude.{◌≡◌, ℕ, zero, suc, ◌<◌, ◌≤◌, List, [], ◌∷◌, ◌++◌, length, map, Option, Some}
use Rattle.std.specs.List.{AllByRecursion}
use Rattle.dh_tree.specs.PlainTrees.{Program}
use Rattle.dh_meaning.specs.Ways.{Hidden, ViewSite, Way, all_entities_of, behind_hidden, hidden_of, standings, way_to}

-- those of views where they stand, of which the first is this entity
abbrev pub all_hidden : (first : ℕ) → List ViewSite → List Hidden
all_hidden first [] = []
all_hidden first (s ∷ ss) = hidden_of first s ++ all_hidden (behind_hidden first s) ss

abbrev pub hidden_variables : Program → List Hidden
hidden_variables p = all_hidden (length p.entities) (standings 0 p.body)

-- so many numbers from one on
abbrev pub numbers_from : (first count : ℕ) → List ℕ
numbers_from first zero = []
numbers_from first (suc count) = first ∷ numbers_from (suc first) count

-- the offsets on a way are kept in variables from `low` on, below `high`, and none deeper than its deepest view that
-- moves, of which a shift is one
pub record IsWayWithin (low high : ℕ) (w : Way) : Type 0 where
  pub least : AllByRecursion (λ h. low ≤ h.entity) w.hidden
  pub below : AllByRecursion (λ h. h.entity < high) w.hidden
  pub deep : AllByRecursion (λ h. h.depth ≤ w.deepest) w.hidden
  pub shifts : w.shifts ≤ w.deepest

-- Laws.

-- the variables follow one another behind the program's names
abbrev pub HiddenFollowNames : Type 0
HiddenFollowNames = (p : Program) → map (λ (h : Hidden). h.entity) (hidden_variables p) ≡ numbers_from (length p.entities) (length (hidden_variables p))

-- those of each way are among them
abbrev pub WaysAreWithin : Type 0
WaysAreWithin = (p : Program) (entity : Option ℕ) (w : Way) → way_to p entity ≡ Some w → IsWayWithin (length p.entities) (all_entities_of p) w
