-- Hidden variables have numbers that follow one another behind those of a program's names; and those of each way are
-- among them.
use Rattle.std.proofs.Common.{◌≡◌, ℕ, zero, suc, ◌+◌, ◌<◌, ◌≤◌, max, Bool, true, false, if◌then◌else◌, List, [], ◌∷◌, ◌++◌, length, map, Option, Some, None, refl, ap, sym, ◌∙◌, subst, arith}
use Rattle.std.specs.List.{AllByRecursion}
use Rattle.std.proofs.lemmas.List.{length-append, map-append}
use Rattle.dh_tree.specs.declared.tables.Shape.{Shape}
use Rattle.dh_tree.specs.declared.viewing.ViewMap.{ViewMap}
use Rattle.dh_tree.specs.Memories.{Memory, memories_of, memory_in, same_entity}
use Rattle.dh_tree.specs.PlainTrees.{Term, ViewPlan, shrinks, splits, suffixes, shifts, Program}
use Rattle.dh_tree.specs.ViewOffsets.{offsets_of, moves, is_shift_view}
use Rattle.dh_tree.specs.Views.{map_of}
use Rattle.dh_meaning.specs.Ways.{Hidden, Led, ViewSite, Way, all_entities_of, behind_all, behind_hidden, depth_where, hidden_from, hidden_of, led_after, led_behind, led_of, shape_named, standings, way_at, way_behind, way_in, way_to, way_unless, ways_of}
use Rattle.dh_ways.specs.HiddenVariables.{IsWayWithin, all_hidden, hidden_variables, numbers_from}

-- Numbers.

pub from_long : (first depth : ℕ) (ts : List Term) → length (hidden_from first depth ts) ≡ length ts
from_long first depth [] = refl
from_long first depth (t ∷ ts) = ap suc (from_long (suc first) depth ts)

from_numbered : (first depth : ℕ) (ts : List Term) → map (λ (h : Hidden). h.entity) (hidden_from first depth ts) ≡ numbers_from first (length ts)
from_numbered first depth [] = refl
from_numbered first depth (t ∷ ts) = ap (λ ns. first ∷ ns) (from_numbered (suc first) depth ts)

numbers_both : (first a b : ℕ) → numbers_from first a ++ numbers_from (first + a) b ≡ numbers_from first (a + b)
numbers_both first zero b = ap (λ n. numbers_from n b) (plain first) ∙ ap (numbers_from first) (front b)
  where
    plain : (n : ℕ) → n + 0 ≡ n
    plain n = omega arith

    front : (n : ℕ) → n ≡ 0 + n
    front n = omega arith
numbers_both first (suc a) b = ap (λ ns. first ∷ ns) (ap (λ n. numbers_from (suc first) a ++ numbers_from n b) (moved first a) ∙ numbers_both (suc first) a b) ∙ ap (numbers_from first) (plus a b)
  where
    plus : (m n : ℕ) → suc (m + n) ≡ suc m + n
    plus m n = omega arith

    moved : (m n : ℕ) → m + suc n ≡ suc m + n
    moved m n = omega arith

all_numbered : (first : ℕ) (ss : List ViewSite) → map (λ (h : Hidden). h.entity) (all_hidden first ss) ≡ numbers_from first (length (all_hidden first ss))
all_numbered first [] = refl
all_numbered first (s ∷ ss) =
    let rest = all_hidden (behind_hidden first s) ss in
    let own = from_long first s.depth (offsets_of s.form) in
    map-append (λ (h : Hidden). h.entity) (hidden_of first s) rest
    ∙ (ap (λ ns. ns ++ map (λ (h : Hidden). h.entity) rest) (from_numbered first s.depth (offsets_of s.form))
    ∙ (ap (λ ns. numbers_from first (length (offsets_of s.form)) ++ ns) (all_numbered (behind_hidden first s) ss)
    ∙ (numbers_both first (length (offsets_of s.form)) (length rest)
    ∙ ap (λ n. numbers_from first n) (sym (length-append (hidden_of first s) rest ∙ ap (λ n. n + length rest) own)))))

counted : (first : ℕ) (ss : List ViewSite) → behind_all first ss ≡ first + length (all_hidden first ss)
counted first [] = plain first
  where
    plain : (n : ℕ) → n ≡ n + 0
    plain n = omega arith
counted first (s ∷ ss) =
    let rest = all_hidden (behind_hidden first s) ss in
    let more = counted (behind_hidden first s) ss in
    let own = from_long first s.depth (offsets_of s.form) in
    let both = length-append (hidden_of first s) rest in
    sums first (length (offsets_of s.form)) (length rest) (length (hidden_of first s ++ rest)) (length (hidden_of first s)) (behind_all (behind_hidden first s) ss) more both own
  where
    sums : (f n m x y z : ℕ) → z ≡ f + n + m → x ≡ y + m → y ≡ n → z ≡ f + x
    sums f n m x y z h i j = omega (arith, h, i, j)

pub are_numbered : (p : Program) → map (λ (h : Hidden). h.entity) (hidden_variables p) ≡ numbers_from (length p.entities) (length (hidden_variables p))
are_numbered p = all_numbered (length p.entities) (standings 0 p.body)

pub are_counted : (p : Program) → all_entities_of p ≡ length p.entities + length (hidden_variables p)
are_counted p = counted (length p.entities) (standings 0 p.body)

-- Ways.

both_all : (P : Hidden → Type 0) (hs gs : List Hidden) → AllByRecursion P hs → AllByRecursion P gs → AllByRecursion P (hs ++ gs)
both_all P [] gs a b = b
both_all P (h ∷ hs) gs a b = (a.0, both_all P hs gs a.1 b)

each_so : (P Q : Hidden → Type 0) → ((h : Hidden) → P h → Q h) → (hs : List Hidden) → AllByRecursion P hs → AllByRecursion Q hs
each_so P Q f [] a = tt
each_so P Q f (h ∷ hs) a = (f h a.0, each_so P Q f hs a.1)

own_least : (low first depth : ℕ) → low ≤ first → (ts : List Term) → AllByRecursion (λ (h : Hidden). low ≤ h.entity) (hidden_from first depth ts)
own_least low first depth l [] = tt
own_least low first depth l (t ∷ ts) = (l, own_least low (suc first) depth (omega (arith, l)) ts)

own_below : (high first depth : ℕ) (ts : List Term) → first + length ts ≤ high → AllByRecursion (λ (h : Hidden). h.entity < high) (hidden_from first depth ts)
own_below high first depth [] l = tt
own_below high first depth (t ∷ ts) l = (omega (arith, l), own_below high (suc first) depth ts (omega (arith, l)))

own_deep : (deepest first depth : ℕ) → depth ≤ deepest → (ts : List Term) → AllByRecursion (λ (h : Hidden). h.depth ≤ deepest) (hidden_from first depth ts)
own_deep deepest first depth l [] = tt
own_deep deepest first depth l (t ∷ ts) = (l, own_deep deepest (suc first) depth l ts)

left_most : (a b : ℕ) → a ≤ max a b
left_most a b = grind arith

right_most : (a b : ℕ) → b ≤ max a b
right_most a b = grind arith

same_most : (a : ℕ) → a ≤ a
same_most a = omega arith

through_most : (a b c : ℕ) → a ≤ b → b ≤ c → a ≤ c
through_most a b c l m = omega (arith, l, m)

both_most : (a b c d : ℕ) → a ≤ c → b ≤ d → max a b ≤ max c d
both_most a b c d l m = grind arith

-- a view's own offsets, where the way is at least as deep as it moves
own_moved : (form : ViewPlan) (deepest first depth : ℕ) → depth_where (moves form) depth ≤ deepest → AllByRecursion (λ (h : Hidden). h.depth ≤ deepest) (hidden_from first depth (offsets_of form))
own_moved (shrinks by by_place) deepest first depth l = tt
own_moved (splits by by_place) deepest first depth l = tt
own_moved (suffixes by by_place) deepest first depth l = own_deep deepest first depth l (offsets_of (suffixes by by_place))
own_moved (shifts by) deepest first depth l = own_deep deepest first depth l by

shift_moves : (form : ViewPlan) (depth : ℕ) → depth_where (is_shift_view form) depth ≤ depth_where (moves form) depth
shift_moves (shrinks by by_place) depth = omega arith
shift_moves (splits by by_place) depth = omega arith
shift_moves (suffixes by by_place) depth = omega arith
shift_moves (shifts by) depth = omega arith

module _ (low : ℕ) where
  abbrev pub AllWithin : (high : ℕ) → List Led → Type 0
  AllWithin high ls = AllByRecursion (λ (l : Led). IsWayWithin low high l.way) ls

  wider : (high more : ℕ) → high ≤ more → (w : Way) → IsWayWithin low high w → IsWayWithin low more w
  wider high more l w i = record { least = i.least; below = each_so (λ h. h.entity < high) (λ h. h.entity < more) (λ h b. omega (arith, b, l)) w.hidden i.below; deep = i.deep; shifts = i.shifts }

  all_wider : (high more : ℕ) → high ≤ more → (ls : List Led) → AllWithin high ls → AllWithin more ls
  all_wider high more l [] a = tt
  all_wider high more l (x ∷ ls) a = (wider high more l x.way a.0, all_wider high more l ls a.1)

  both_within : (high : ℕ) (ls more : List Led) → AllWithin high ls → AllWithin high more → AllWithin high (ls ++ more)
  both_within high [] more a b = b
  both_within high (l ∷ ls) more a b = (a.0, both_within high ls more a.1 b)

  found_within : (high : ℕ) (ls : List Led) (e : Option ℕ) (w : Way) → AllWithin high ls → way_in ls e ≡ Some w → IsWayWithin low high w
  found_within high [] e w a is = cc
  found_within high (l ∷ ls) e w a is = by (same_entity l.entity e) is (λ f. found_within high ls e w a.1 f)
    where
      by : (b : Bool) → (if b then Some l.way else way_in ls e) ≡ Some w → (way_in ls e ≡ Some w → IsWayWithin low high w) → IsWayWithin low high w
      by true f rest = subst (λ (y : Way). IsWayWithin low high y) (some_same l.way w f) a.0
        where
          or : Way → Option Way → Way
          or y None = y
          or y (Some z) = z

          some_same : (a b : Way) → Some a ≡ Some b → a ≡ b
          some_same a b g = ap (or a) g
      by false f rest = rest f

  behind_within : (first high : ℕ) (s : ViewSite) (v : ViewMap) (o : Option Way) → low ≤ first → behind_hidden first s ≤ high → ((w : Way) → o ≡ Some w → IsWayWithin low high w) → IsWayWithin low high (way_behind first s v o)
  behind_within first high s v None l m more = record {
    least = own_least low first s.depth l (offsets_of s.form);
    below = own_below high first s.depth (offsets_of s.form) m;
    deep = own_moved s.form (depth_where (moves s.form) s.depth) first s.depth (same_most (depth_where (moves s.form) s.depth));
    shifts = shift_moves s.form s.depth;
  }
  behind_within first high s v (Some w) l m more =
      let rest = more w refl in
      record {
        least = both_all (λ h. low ≤ h.entity) (hidden_of first s) w.hidden (own_least low first s.depth l (offsets_of s.form)) rest.least;
        below = both_all (λ h. h.entity < high) (hidden_of first s) w.hidden (own_below high first s.depth (offsets_of s.form) m) rest.below;
        deep = both_all (λ h. h.depth ≤ max (depth_where (moves s.form) s.depth) w.deepest) (hidden_of first s) w.hidden
            (own_moved s.form (max (depth_where (moves s.form) s.depth) w.deepest) first s.depth (left_most (depth_where (moves s.form) s.depth) w.deepest))
            (each_so (λ h. h.depth ≤ w.deepest) (λ h. h.depth ≤ max (depth_where (moves s.form) s.depth) w.deepest)
            (λ h d. through_most h.depth w.deepest (max (depth_where (moves s.form) s.depth) w.deepest) d (right_most (depth_where (moves s.form) s.depth) w.deepest)) w.hidden rest.deep);
        shifts = both_most (depth_where (is_shift_view s.form) s.depth) w.shifts (depth_where (moves s.form) s.depth) w.deepest (shift_moves s.form s.depth) rest.shifts;
      }

  one_within : (first high : ℕ) (s : ViewSite) (shape : Option Shape) (o : Option Way) → low ≤ first → behind_hidden first s ≤ high → ((w : Way) → o ≡ Some w → IsWayWithin low high w) → AllWithin high (led_of first s shape o)
  one_within first high s None o l m more = tt
  one_within first high s (Some shape) o l m more = (behind_within first high s (map_of s.form shape) o l m more, tt)

  unless_some : (m : Option Memory) (o : Option Way) (w : Way) → way_unless m o ≡ Some w → o ≡ Some w
  unless_some (Some m) o w e = cc
  unless_some None o w e = e

  pub all_within : (ms : List Memory) (first : ℕ) (ls : List Led) (ss : List ViewSite) → low ≤ first → AllWithin first ls → AllWithin (behind_all first ss) (led_behind ms first ls ss)
  all_within ms first ls [] l a = a
  all_within ms first ls (s ∷ ss) l a =
      let next = behind_hidden first s in
      let up : first ≤ next = omega arith in
      let before = all_wider first next up ls a in
      all_within ms next (ls ++ led_after ms first ls s) ss (omega (arith, l))
      (both_within next ls (led_after ms first ls s) before
      (one_within first next s (shape_named (memory_in ms s.parent.entity) (way_in ls s.parent.entity)) (way_at ms ls s.parent.entity) l (same_most next)
      (λ w e. found_within next ls s.parent.entity w before (unless_some (memory_in ms s.parent.entity) (way_in ls s.parent.entity) w e))))

pub ways_within : (p : Program) → AllByRecursion (λ (l : Led). IsWayWithin (length p.entities) (all_entities_of p) l.way) (ways_of p)
ways_within p = all_within (length p.entities) (memories_of p) (length p.entities) [] (standings 0 p.body) (same_most (length p.entities)) tt

-- of each name
pub way_within : (p : Program) (entity : Option ℕ) (w : Way) → way_to p entity ≡ Some w → IsWayWithin (length p.entities) (all_entities_of p) w
way_within p entity w e = found_within (length p.entities) (all_entities_of p) (ways_of p) entity w (ways_within p) (unless_some (length p.entities) (memory_in (memories_of p) entity) (way_in (ways_of p) entity) w e)
