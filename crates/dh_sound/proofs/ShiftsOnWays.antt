-- The offsets of the shifts on a way are kept no deeper than its deepest shift: each view takes as many offsets as it has
-- brackets where no rule on these is broken, so that those of a shift are its own. By induction over the views in
-- text order. So the offsets at shifts are the same where what is kept so deep is.
use Rattle.std.proofs.Common.{◌≡◌, ℕ, zero, suc, ◌≤◌, max, not, Bool, true, false, List, [], ◌∷◌, ◌++◌, length, map, take, drop, Option, Some, None, refl, sym, ◌∙◌, ap, subst, arith, ℤ}
use Rattle.std.specs.List.{AllByRecursion}
use Rattle.std.proofs.lemmas.Bool.{eqb-true}
use Rattle.std.proofs.lemmas.List.{length-map}
use Rattle.dh_base.specs.declared.rules.Rule.TheVariants.{ViewFactor}
use Rattle.dh_value.specs.Words as words
use Rattle.dh_value.specs.Words.{word_of}
use Rattle.dh_tree.specs.declared.tables.Shape.{Shape}
use Rattle.dh_tree.specs.declared.viewing.ViewSort.TheVariants.{Shift}
use Rattle.dh_tree.specs.LeastBreach.{breach}
use Rattle.dh_tree.specs.Memories.{Memory, memory_in, memories_of}
use Rattle.dh_tree.specs.PlainTrees.{Term, ViewPlan, shrinks, splits, suffixes, shifts, Program}
use Rattle.dh_tree.specs.Ready.{IsReady}
use Rattle.dh_tree.specs.ViewElements.{offsets_needed}
use Rattle.dh_tree.specs.ViewFactors.{brackets_broken, brackets_fit, factor_breaches_of, viewing_breaches, viewings_breaches}
use Rattle.dh_tree.specs.ViewOffsets.{is_shift_view, offsets_of}
use Rattle.dh_tree.specs.Views.{map_of, shape_in, sort_of, viewed_of}
use Rattle.dh_tree.proofs.EmptyLists.{first_none, second_none}
use Rattle.dh_meaning.specs.CoreOf.{kept_terms}
use Rattle.dh_meaning.specs.Effects.{Begun, Variables, values_of}
use Rattle.dh_meaning.specs.Paths.{Path}
use Rattle.dh_meaning.specs.Ways.{Hidden, Led, ViewSite, WayStep, Way, behind_hidden, depth_where, hidden_from, hidden_of, led_after, led_behind, led_of, shape_named, standings, way_at, way_behind, way_in, way_to, way_unless, ways_of}
use Rattle.dh_ways.specs.Leading.{viewed_of_led}
use Rattle.dh_sound.proofs.CopiesThrough.{SameAtShifts}
use Rattle.dh_sound.proofs.IteratorsNamed.{none_when}
use Rattle.dh_sound.proofs.ViewedWays.{first_standings, forget, found_holds, led_to, next_seen, shape_same}

-- of the offsets that the steps take in turn, those of shifts are kept no deeper than this
abbrev pub ShiftsWithin : List WayStep → List Hidden → (deepest : ℕ) → Type 0
ShiftsWithin [] hs n = Unit {0}
ShiftsWithin (s ∷ ss) hs n = (s.is.sort ≡ Shift → AllByRecursion (λ (h : Hidden). h.depth ≤ n) (take s.offsets hs)) × ShiftsWithin ss (drop s.offsets hs) n

abbrev pub HoldsShifts : Way → Type 0
HoldsShifts w = ShiftsWithin w.steps w.hidden w.shifts

-- Lists.

taken : {A : Type 0} (xs ys : List A) → take (length xs) (xs ++ ys) ≡ xs
taken [] ys = refl
taken (x ∷ xs) ys = ap (λ l. x ∷ l) (taken xs ys)

dropped : {A : Type 0} (xs ys : List A) → drop (length xs) (xs ++ ys) ≡ ys
dropped [] ys = refl
dropped (x ∷ xs) ys = dropped xs ys

all_taken : (P : Hidden → Type 0) (n : ℕ) (hs : List Hidden) → AllByRecursion P hs → AllByRecursion P (take n hs)
all_taken P zero hs a = tt
all_taken P (suc n) [] a = tt
all_taken P (suc n) (h ∷ hs) a = (a.0, all_taken P n hs a.1)

all_dropped : (P : Hidden → Type 0) (n : ℕ) (hs : List Hidden) → AllByRecursion P hs → AllByRecursion P (drop n hs)
all_dropped P zero hs a = a
all_dropped P (suc n) [] a = tt
all_dropped P (suc n) (h ∷ hs) a = all_dropped P n hs a.1

deeper : (m n : ℕ) → m ≤ n → (hs : List Hidden) → AllByRecursion (λ (h : Hidden). h.depth ≤ m) hs → AllByRecursion (λ (h : Hidden). h.depth ≤ n) hs
deeper m n l [] a = tt
deeper m n l (h ∷ hs) a = (let k = a.0 in omega (arith, k, l), deeper m n l hs a.1)

within_more : (m n : ℕ) → m ≤ n → (ss : List WayStep) (hs : List Hidden) → ShiftsWithin ss hs m → ShiftsWithin ss hs n
within_more m n l [] hs a = tt
within_more m n l (s ∷ ss) hs a = ((λ k. deeper m n l (take s.offsets hs) (a.0 k)), within_more m n l ss (drop s.offsets hs) a.1)

-- Brackets.

long_from : (first depth : ℕ) (ts : List Term) → length (hidden_from first depth ts) ≡ length ts
long_from first depth [] = refl
long_from first depth (t ∷ ts) = ap suc (long_from (suc first) depth ts)

own_depth : (first depth : ℕ) (ts : List Term) → AllByRecursion (λ (h : Hidden). h.depth ≤ depth) (hidden_from first depth ts)
own_depth first depth [] = tt
own_depth first depth (t ∷ ts) = (omega arith, own_depth (suc first) depth ts)

not_false : (b : Bool) → not b ≡ false → b ≡ true
not_false true e = refl
not_false false e = cc

-- as many offsets as are needed
brackets : (form : ViewPlan) (shape : Shape) → brackets_fit form (length shape.dims) ≡ true → length (offsets_of form) ≡ offsets_needed (sort_of form) shape.dims
brackets (shrinks by by_place) shape e = refl
brackets (splits by by_place) shape e = refl
brackets (suffixes by by_place) shape e = length-map by _ ∙ eqb-true (length by) (length shape.dims) e
brackets (shifts by) shape e = eqb-true (length by) (length shape.dims) e

counted : (s : ViewSite) (shape : Shape) → viewing_breaches (forget s) (Some shape) ≡ [] → length (hidden_from 0 s.depth (offsets_of s.form)) ≡ offsets_needed (sort_of s.form) shape.dims
counted s shape e =
    long_from 0 s.depth (offsets_of s.form)
    ∙ brackets s.form shape
    (not_false (brackets_fit s.form (length shape.dims))
    (none_when (not (brackets_fit s.form (length shape.dims))) (breach ViewFactor s.parent.place) (first_none (brackets_broken (brackets_fit s.form (length shape.dims)) s.parent.place) _ e)))

-- Ways.

-- a view's own offsets, where it is a shift
own_shift : (form : ViewPlan) (depth : ℕ) → sort_of form ≡ Shift → depth ≤ depth_where (is_shift_view form) depth
own_shift (shrinks by by_place) depth e = absurd cc
own_shift (splits by by_place) depth e = absurd cc
own_shift (suffixes by by_place) depth e = absurd cc
own_shift (shifts by) depth e = omega arith

left_most : (a b : ℕ) → a ≤ max a b
left_most a b = grind arith

right_most : (a b : ℕ) → b ≤ max a b
right_most a b = grind arith

through : (a b c : ℕ) → a ≤ b → b ≤ c → a ≤ c
through a b c l m = omega (arith, l, m)

behind_holds : (first : ℕ) (s : ViewSite) (shape : Shape) (o : Option Way) → viewing_breaches (forget s) (Some shape) ≡ [] → ((w : Way) → o ≡ Some w → HoldsShifts w) → HoldsShifts (way_behind first s (map_of s.form shape) o)
behind_holds first s shape None e h = (
  (λ k. all_taken (λ (x : Hidden). x.depth ≤ depth_where (is_shift_view s.form) s.depth) (offsets_needed (sort_of s.form) shape.dims) (hidden_of first s)
      (deeper s.depth (depth_where (is_shift_view s.form) s.depth) (own_shift s.form s.depth k) (hidden_of first s) (own_depth first s.depth (offsets_of s.form)))),
  tt,
)
behind_holds first s shape (Some w) e h =
    let n = max (depth_where (is_shift_view s.form) s.depth) w.shifts in
    let needed = offsets_needed (sort_of s.form) shape.dims in
    let long : length (hidden_of first s) ≡ needed = long_from first s.depth (offsets_of s.form) ∙ (sym (long_from 0 s.depth (offsets_of s.form)) ∙ counted s shape e) in
    let front : take needed (hidden_of first s ++ w.hidden) ≡ hidden_of first s = ap (λ k. take k (hidden_of first s ++ w.hidden)) (sym long) ∙ taken (hidden_of first s) w.hidden in
    let back : drop needed (hidden_of first s ++ w.hidden) ≡ w.hidden = ap (λ k. drop k (hidden_of first s ++ w.hidden)) (sym long) ∙ dropped (hidden_of first s) w.hidden in (
      (λ k. subst (λ (hs : List Hidden). AllByRecursion (λ (x : Hidden). x.depth ≤ n) hs) (sym front)
          (deeper s.depth n (through s.depth (depth_where (is_shift_view s.form) s.depth) n (own_shift s.form s.depth k) (left_most (depth_where (is_shift_view s.form) s.depth) w.shifts)) (hidden_of first s)
          (own_depth first s.depth (offsets_of s.form)))),
      subst (λ (hs : List Hidden). ShiftsWithin w.steps hs n) (sym back)
          (within_more w.shifts n (right_most (depth_where (is_shift_view s.form) s.depth) w.shifts) w.steps w.hidden (h w refl)),
    )

abbrev AllHold : List Led → Type 0
AllHold ls = AllByRecursion (λ (l : Led). HoldsShifts l.way) ls

both_hold : (ls more : List Led) → AllHold ls → AllHold more → AllHold (ls ++ more)
both_hold [] more a b = b
both_hold (l ∷ ls) more a b = (a.0, both_hold ls more a.1 b)

unless_some : (m : Option Memory) (o : Option Way) (w : Way) → way_unless m o ≡ Some w → o ≡ Some w
unless_some (Some m) o w e = cc
unless_some None o w e = e

one_holds : (first : ℕ) (s : ViewSite) (shape : Option Shape) (o : Option Way) → viewing_breaches (forget s) shape ≡ [] → ((w : Way) → o ≡ Some w → HoldsShifts w) → AllHold (led_of first s shape o)
one_holds first s None o e h = tt
one_holds first s (Some shape) o e h = (behind_holds first s shape o e h, tt)

all_hold : (ms : List Memory) (first : ℕ) (ls : List Led) (ss : List ViewSite) → AllHold ls → viewings_breaches ms (map viewed_of_led ls) (map forget ss) ≡ [] → AllHold (led_behind ms first ls ss)
all_hold ms first ls [] all e = all
all_hold ms first ls (s ∷ ss) all e =
    let o = shape_in ms (map viewed_of_led ls) s.parent.entity in
    let one = viewing_breaches (forget s) o in
    let rest = viewings_breaches ms (map viewed_of_led ls ++ viewed_of (forget s) o) (map forget ss) in
    let own : viewing_breaches (forget s) (shape_named (memory_in ms s.parent.entity) (way_in ls s.parent.entity)) ≡ [] =
    ap (λ x. viewing_breaches (forget s) x) (shape_same ms ls s.parent.entity) ∙ first_none one rest e
    in
    let next : viewings_breaches ms (map viewed_of_led (ls ++ led_after ms first ls s)) (map forget ss) ≡ [] =
    ap (λ l. viewings_breaches ms l (map forget ss)) (next_seen ms first ls s) ∙ second_none one rest e
    in
    all_hold ms (behind_hidden first s) (ls ++ led_after ms first ls s) ss
    (both_hold ls (led_after ms first ls s) all
    (one_holds first s (shape_named (memory_in ms s.parent.entity) (way_in ls s.parent.entity)) (way_at ms ls s.parent.entity) own
    (λ w f. found_holds HoldsShifts ls s.parent.entity w all (unless_some (memory_in ms s.parent.entity) (way_in ls s.parent.entity) w f)))) next

-- the ways of a ready program
pub ways_shift : (p : Program) → IsReady p → (entity : Option ℕ) (w : Way) → way_to p entity ≡ Some w → HoldsShifts w
ways_shift p r entity w e =
    found_holds HoldsShifts (ways_of p) entity w
    (all_hold (memories_of p) (length p.entities) [] (standings 0 p.body) tt
    (ap (λ l. viewings_breaches (memories_of p) [] l) (first_standings p) ∙ first_none (factor_breaches_of p) _ r.views)) (led_to p entity w e)

-- Offsets.

module _ (b : Begun) (v w : Variables) (x y : Path) where
  abbrev IsSame : Hidden → Type 0
  IsSame h = v h.entity (take h.depth x) ≡ w h.entity (take h.depth y)

  values_taken : (n : ℕ) (hs : List Hidden) → AllByRecursion IsSame (take n hs) → take n (values_of b v x (kept_terms hs)) ≡ take n (values_of b w y (kept_terms hs))
  values_taken zero hs a = refl
  values_taken (suc n) [] a = refl
  values_taken (suc n) (h ∷ hs) a =
      ap (λ z. words.value_of (word_of h.kind z) ∷ take n (values_of b v x (kept_terms hs))) a.0
      ∙ ap (λ zs. words.value_of (word_of h.kind (w h.entity (take h.depth y))) ∷ zs) (values_taken n hs a.1)

  values_dropped : (u : Variables) (z : Path) (n : ℕ) (hs : List Hidden) → drop n (values_of b u z (kept_terms hs)) ≡ values_of b u z (kept_terms (drop n hs))
  values_dropped u z zero hs = refl
  values_dropped u z (suc n) [] = refl
  values_dropped u z (suc n) (h ∷ hs) = values_dropped u z n hs

  each_same : (deepest : ℕ) (Kept : Hidden → Type 0) → ((h : Hidden) → Kept h → h.depth ≤ deepest → IsSame h) → (hs : List Hidden) → AllByRecursion Kept hs → AllByRecursion (λ (h : Hidden). h.depth ≤ deepest) hs → AllByRecursion IsSame hs
  each_same deepest Kept same [] k a = tt
  each_same deepest Kept same (h ∷ hs) k a = (same h k.0 a.0, each_same deepest Kept same hs k.1 a.1)

  -- where what is kept so deep is the same, the offsets at shifts are
  pub shifts_same : (deepest : ℕ) (Kept : Hidden → Type 0) → ((h : Hidden) → Kept h → h.depth ≤ deepest → IsSame h) → (ss : List WayStep) (hs : List Hidden) → ShiftsWithin ss hs deepest → AllByRecursion Kept hs
      → SameAtShifts ss (values_of b v x (kept_terms hs)) (values_of b w y (kept_terms hs))
  shifts_same deepest Kept same [] hs a k = tt
  shifts_same deepest Kept same (s ∷ ss) hs a k = (
    (λ e. values_taken s.offsets hs (each_same deepest Kept same (take s.offsets hs) (all_taken Kept s.offsets hs k) (a.0 e))),
    subst (λ (zs : List ℤ). SameAtShifts ss zs (drop s.offsets (values_of b w y (kept_terms hs)))) (sym (values_dropped v x s.offsets hs))
        (subst (λ (zs : List ℤ). SameAtShifts ss (values_of b v x (kept_terms (drop s.offsets hs))) zs) (sym (values_dropped w y s.offsets hs))
        (shifts_same deepest Kept same ss (drop s.offsets hs) a.1 (all_dropped Kept s.offsets hs k))),
  )
