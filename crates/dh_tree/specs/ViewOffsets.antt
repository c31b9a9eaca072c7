-- The offsets of a view, and whether it is a command: a view that moves is one, the others are declarations alone.
use Rattle.std.specs.Prelude.{Bool, true, false, List, [], map}
use Rattle.dh_tree.specs.PlainTrees.{Term, ViewPlan, shrinks, splits, suffixes, shifts}

-- from its first bracket on; shrinks and splits have none
abbrev pub offsets_of : ViewPlan → List Term
offsets_of (shrinks by by_place) = []
offsets_of (splits by by_place) = []
offsets_of (suffixes by by_place) = map (λ s. s.offset) by
offsets_of (shifts by) = by

abbrev pub moves : ViewPlan → Bool
moves (shrinks by by_place) = false
moves (splits by by_place) = false
moves (suffixes by by_place) = true
moves (shifts by) = true

abbrev pub is_shift_view : ViewPlan → Bool
is_shift_view (shrinks by by_place) = false
is_shift_view (splits by by_place) = false
is_shift_view (suffixes by by_place) = false
is_shift_view (shifts by) = true
