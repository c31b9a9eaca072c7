-- A way tells how many loops stand round its deepest shift, which are none where none of its views is a shift.
use Rattle.std.proofs.Common.{◌≡◌, ◌⊎◌, inl, inr, ℕ, max, List, [], ◌∷◌, ◌++◌, length, map, Option, Some, None, refl, arith}
use Rattle.std.specs.List.{AllByRecursion}
use Rattle.dh_tree.specs.declared.tables.Shape.{Shape}
use Rattle.dh_tree.specs.declared.viewing.ViewSort.TheVariants.{Shift}
use Rattle.dh_tree.specs.Memories.{Memory, memories_of, memory_in}
use Rattle.dh_tree.specs.PlainTrees.{ViewPlan, shrinks, splits, suffixes, shifts, Program}
use Rattle.dh_tree.specs.ViewOffsets.{is_shift_view}
use Rattle.dh_tree.specs.Views.{map_of, sort_of}
use Rattle.dh_viewing.specs.Carried.{HasShift}
use Rattle.dh_meaning.specs.Ways.{Led, ViewSite, WayStep, Way, behind_hidden, depth_where, led_after, led_behind, led_of, shape_named, standings, way_at, way_behind, way_in, way_to, way_unless, ways_of}
use Rattle.dh_sound.proofs.ViewedWays.{found_holds, led_to}

abbrev pub KeepsShifts : Way → Type 0
KeepsShifts w = (w.shifts ≡ 0) ⊎ HasShift (map (λ (s : WayStep). s.is) w.steps)

own_shift : (form : ViewPlan) (depth : ℕ) → (depth_where (is_shift_view form) depth ≡ 0) ⊎ (sort_of form ≡ Shift)
own_shift (shrinks by by_place) depth = inl refl
own_shift (splits by by_place) depth = inl refl
own_shift (suffixes by by_place) depth = inl refl
own_shift (shifts by) depth = inr refl

both_none : (a b : ℕ) → a ≡ 0 → b ≡ 0 → max a b ≡ 0
both_none a b e f = grind (arith, e, f)

behind_keeps : (first : ℕ) (s : ViewSite) (shape : Shape) (o : Option Way) → ((w : Way) → o ≡ Some w → KeepsShifts w) → KeepsShifts (way_behind first s (map_of s.form shape) o)
behind_keeps first s shape None h = elim (own_shift s.form s.depth) [ inl e ↦ inl e | inr e ↦ inr (inl e) ]
behind_keeps first s shape (Some w) h = by (own_shift s.form s.depth) (h w refl)
  where
    by : (depth_where (is_shift_view s.form) s.depth ≡ 0) ⊎ (sort_of s.form ≡ Shift) → KeepsShifts w → KeepsShifts (way_behind first s (map_of s.form shape) (Some w))
    by (inl e) (inl f) = inl (both_none _ _ e f)
    by (inl e) (inr k) = inr (inr k)
    by (inr e) k = inr (inl e)

abbrev AllKeep : List Led → Type 0
AllKeep ls = AllByRecursion (λ (l : Led). KeepsShifts l.way) ls

both_keep : (ls more : List Led) → AllKeep ls → AllKeep more → AllKeep (ls ++ more)
both_keep [] more a b = b
both_keep (l ∷ ls) more a b = (a.0, both_keep ls more a.1 b)

unless_some : (m : Option Memory) (o : Option Way) (w : Way) → way_unless m o ≡ Some w → o ≡ Some w
unless_some (Some m) o w e = cc
unless_some None o w e = e

one_keeps : (first : ℕ) (s : ViewSite) (shape : Option Shape) (o : Option Way) → ((w : Way) → o ≡ Some w → KeepsShifts w) → AllKeep (led_of first s shape o)
one_keeps first s None o h = tt
one_keeps first s (Some shape) o h = (behind_keeps first s shape o h, tt)

all_keep : (ms : List Memory) (first : ℕ) (ls : List Led) (ss : List ViewSite) → AllKeep ls → AllKeep (led_behind ms first ls ss)
all_keep ms first ls [] all = all
all_keep ms first ls (s ∷ ss) all =
    all_keep ms (behind_hidden first s) (ls ++ led_after ms first ls s) ss
    (both_keep ls (led_after ms first ls s) all
    (one_keeps first s (shape_named (memory_in ms s.parent.entity) (way_in ls s.parent.entity)) (way_at ms ls s.parent.entity)
    (λ w f. found_holds KeepsShifts ls s.parent.entity w all (unless_some (memory_in ms s.parent.entity) (way_in ls s.parent.entity) w f))))

-- the ways of a program
pub ways_keep_shifts : (p : Program) (entity : Option ℕ) (w : Way) → way_to p entity ≡ Some w → KeepsShifts w
ways_keep_shifts p entity w e = found_holds KeepsShifts (ways_of p) entity w (all_keep (memories_of p) (length p.entities) [] (standings 0 p.body) tt) (led_to p entity w e)
