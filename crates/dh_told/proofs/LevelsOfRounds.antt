-- The loops round a block, with their copies: each unrolled one has a level of its own, in their order, and is found there
-- by its iterator.
use Rattle.std.proofs.Common.{◌≡◌, ℕ, zero, suc, ◌+◌, ◌<◌, List, length, map, Option, Some, refl, sym, ap, ◌∙◌, subst, arith, append_assoc, append-nil}
use Rattle.std.specs.Prelude.{Bool, true, false, if◌then◌else◌, [], ◌∷◌, ◌++◌, nat_le, nat_lt, slice_get, take}
use Rattle.std.proofs.lemmas.Bool.Decides.{nat_tests}
use Rattle.dh_value.specs.declared.kinds.Kind.{Kind}
use Rattle.dh_tree.specs.Memories.{same_entity}
use Rattle.dh_sound.specs.Blocks.{factors}
use Rattle.dh_plan.specs.Correspondence.{Round, loops_round}
use Rattle.dh_code.specs.Slots.{held_at}
use Rattle.dh_expressions.specs.declared.paths.Level.{Level}
use Rattle.dh_expressions.specs.declared.scenes.Scene.{Scene}
use Rattle.dh_expressions.specs.Levels.{count_inside, levels_inside, spread_level}
use Rattle.dh_expressions.specs.ReachedBanks.{level_with}
use Rattle.dh_expressions.proofs.ListPlaces.{some_same}
use Rattle.dh_gathering.specs.MadeBlocks.{AreWithin}
use Rattle.dh_typed_blocks.specs.ScenesTold.{AreRoundsTold}

-- Marks: the iterator of a loop, and how many copies it has.

abbrev Mark : Type 0
Mark = Option ℕ × ℕ

abbrev mark : Level → Mark
mark l = (l.entity, l.factor)

abbrev marks : List Level → List Mark
marks levels = map mark levels

abbrev marks_of : List Round → List Mark
marks_of [] = []
marks_of (r ∷ rs) = if nat_lt 1 r.loop.factor then (Some r.loop.iterator, r.loop.factor) ∷ marks_of rs else marks_of rs

marks_both : (xs ys : List Level) → marks (xs ++ ys) ≡ marks xs ++ marks ys
marks_both [] ys = refl
marks_both (x ∷ xs) ys = ap (λ (ms : List Mark). mark x ∷ ms) (marks_both xs ys)

marks_spread : (factor : ℕ) (ls : List Level) → marks (map (spread_level factor) ls) ≡ marks ls
marks_spread factor [] = refl
marks_spread factor (l ∷ ls) = ap (λ (ms : List Mark). mark l ∷ ms) (marks_spread factor ls)

marks_within : (levels : List Level) (count : ℕ) (rounds : List Round) (inner : List Level) (paths : ℕ) → AreWithin levels count rounds inner paths → marks inner ≡ marks levels ++ marks_of rounds
marks_within levels count [] inner paths h = ap marks h.0 ∙ sym (append-nil (marks levels))
marks_within levels count (r ∷ rs) inner paths (entity, (is, h)) =
    marks_within (levels_inside levels entity r.loop.factor) (count_inside count r.loop.factor) rs inner paths h ∙ by (nat_le r.loop.factor 1) (nat_lt 1 r.loop.factor) refl refl
  where
    clash : (n : ℕ) → nat_le n 1 ≡ true → nat_lt 1 n ≡ true → ⊥
    clash n e f = grind (arith, nat_tests, e, f)

    neither : (n : ℕ) → nat_le n 1 ≡ false → nat_lt 1 n ≡ false → ⊥
    neither n e f = grind (arith, nat_tests, e, f)

    by : (b t : Bool) → nat_le r.loop.factor 1 ≡ b → nat_lt 1 r.loop.factor ≡ t
        → marks (if b then levels else map (spread_level r.loop.factor) levels ++ record { entity = entity; factor = r.loop.factor; stride = 1 } ∷ []) ++ marks_of rs
        ≡ marks levels ++ (if t then (Some r.loop.iterator, r.loop.factor) ∷ marks_of rs else marks_of rs)
    by true true e f = absurd (clash r.loop.factor e f)
    by true false e f = refl
    by false false e f = absurd (neither r.loop.factor e f)
    by false true e f =
        ap (λ (ms : List Mark). ms ++ marks_of rs) (marks_both (map (spread_level r.loop.factor) levels) (record { entity = entity; factor = r.loop.factor; stride = 1 } ∷ []) ∙ ap (λ (ms : List Mark). ms ++ (entity, r.loop.factor) ∷ []) (marks_spread r.loop.factor levels))
        ∙ (append_assoc (marks levels) ((entity, r.loop.factor) ∷ []) (marks_of rs) ∙ ap (λ (o : Option ℕ). marks levels ++ (o, r.loop.factor) ∷ marks_of rs) is)

-- Where a mark is found.

abbrev mark_with : List Mark → (entity : Option ℕ) → ℕ
mark_with [] entity = 0
mark_with (m ∷ ms) entity = if same_entity m.0 entity then 0 else mark_with ms entity + 1

level_by_mark : (ls : List Level) (entity : Option ℕ) → level_with ls entity ≡ mark_with (marks ls) entity
level_by_mark [] entity = refl
level_by_mark (l ∷ ls) entity = ap (λ (n : ℕ). if same_entity l.entity entity then 0 else n + 1) (level_by_mark ls entity)

level_at : (ls : List Level) (k : ℕ) (m : Mark) → slice_get (marks ls) k ≡ Some m → (l : Level) × ((slice_get ls k ≡ Some l) × (l.factor ≡ m.1))
level_at [] k m e = absurd (cc)
level_at (l ∷ ls) zero m e = (l, (refl, ap (λ (x : Mark). x.1) (some_same (mark l) m e)))
level_at (l ∷ ls) (suc k) m e = level_at ls k m e

entity_same : (n : ℕ) → same_entity (Some n) (Some n) ≡ true
entity_same n = grind (arith, nat_tests)

entity_is : (m n : ℕ) → same_entity (Some m) (Some n) ≡ true → m ≡ n
entity_is m n h = grind (arith, nat_tests, h)

-- so many unrolled loops stand round a place
abbrev pub loops_until : List Round → ℕ → ℕ
loops_until rounds n = length (factors (loops_round (take n rounds)))

record FoundAt (rounds : List Round) (index : ℕ) (r : Round) : Type 0 where
  number : ℕ
  is : mark_with (marks_of rounds) (Some r.loop.iterator) ≡ number
  there : slice_get (marks_of rounds) number ≡ Some (Some r.loop.iterator, r.loop.factor)
  until : loops_until rounds (suc index) ≡ suc number

found_at : (rounds : List Round) (index : ℕ) (r : Round) → slice_get rounds index ≡ Some r → nat_lt 1 r.loop.factor ≡ true
    → ((j : ℕ) (q : Round) → slice_get rounds j ≡ Some q → j < index → nat_lt 1 q.loop.factor ≡ true → q.loop.iterator ≡ r.loop.iterator → ⊥) → FoundAt rounds index r
found_at [] index r at many own = absurd (cc)
found_at (x ∷ rounds) zero r at many own = subst (λ (q : Round). FoundAt (x ∷ rounds) zero q) (some_same x r at) here
  where
    many_here : nat_lt 1 x.loop.factor ≡ true
    many_here = ap (λ (q : Round). nat_lt 1 q.loop.factor) (some_same x r at) ∙ many

    here : FoundAt (x ∷ rounds) zero x
    here = record {
      number = 0;
      is =
          ap (λ (b : Bool). mark_with (if b then (Some x.loop.iterator, x.loop.factor) ∷ marks_of rounds else marks_of rounds) (Some x.loop.iterator)) many_here
          ∙ ap (λ (b : Bool). if b then 0 else mark_with (marks_of rounds) (Some x.loop.iterator) + 1) (entity_same x.loop.iterator);
      there = ap (λ (b : Bool). slice_get (if b then (Some x.loop.iterator, x.loop.factor) ∷ marks_of rounds else marks_of rounds) 0) many_here;
      until = ap (λ (b : Bool). length (if b then x.loop.factor ∷ [] else [])) many_here;
    }
found_at (x ∷ rounds) (suc index) r at many own = by (nat_lt 1 x.loop.factor) refl (found_at rounds index r at many (λ j q e l m same. own (suc j) q e (more j index l) m same))
  where
    more : (a b : ℕ) → a < b → suc a < suc b
    more a b l = omega (arith, l)

    other : (b : Bool) → same_entity (Some x.loop.iterator) (Some r.loop.iterator) ≡ b → nat_lt 1 x.loop.factor ≡ true → b ≡ false
    other true e m = absurd (own 0 x refl (omega arith) m (entity_is x.loop.iterator r.loop.iterator e))
    other false e m = refl

    by : (b : Bool) → nat_lt 1 x.loop.factor ≡ b → FoundAt rounds index r → FoundAt (x ∷ rounds) (suc index) r
    by true e f = record {
      number = suc f.number;
      is =
          ap (λ (t : Bool). mark_with (if t then (Some x.loop.iterator, x.loop.factor) ∷ marks_of rounds else marks_of rounds) (Some r.loop.iterator)) e
          ∙ (ap (λ (t : Bool). if t then 0 else mark_with (marks_of rounds) (Some r.loop.iterator) + 1) (other (same_entity (Some x.loop.iterator) (Some r.loop.iterator)) refl e)
          ∙ (let i = f.is in omega (arith, i)));
      there = ap (λ (t : Bool). slice_get (if t then (Some x.loop.iterator, x.loop.factor) ∷ marks_of rounds else marks_of rounds) (suc f.number)) e ∙ f.there;
      until = ap (λ (t : Bool). length (if t then x.loop.factor ∷ factors (loops_round (take (suc index) rounds)) else factors (loops_round (take (suc index) rounds)))) e ∙ ap suc f.until;
    }
    by false e f = record {
      number = f.number;
      is = ap (λ (t : Bool). mark_with (if t then (Some x.loop.iterator, x.loop.factor) ∷ marks_of rounds else marks_of rounds) (Some r.loop.iterator)) e ∙ f.is;
      there = ap (λ (t : Bool). slice_get (if t then (Some x.loop.iterator, x.loop.factor) ∷ marks_of rounds else marks_of rounds) f.number) e ∙ f.there;
      until = ap (λ (t : Bool). length (if t then x.loop.factor ∷ factors (loops_round (take (suc index) rounds)) else factors (loops_round (take (suc index) rounds)))) e ∙ f.until;
    }

-- Iterators of loops one in the other are others, where they are unrolled.

some_unrolled : (rounds : List Round) (index : ℕ) (r : Round) → slice_get rounds index ≡ Some r → nat_lt 1 r.loop.factor ≡ true → 0 < loops_until rounds (suc index)
some_unrolled [] index r at many = absurd (cc)
some_unrolled (y ∷ ys) zero r at many = subst (λ (b : Bool). 0 < length (if b then y.loop.factor ∷ [] else [])) (sym (ap (λ (q : Round). nat_lt 1 q.loop.factor) (some_same y r at) ∙ many)) (omega arith)
some_unrolled (y ∷ ys) (suc n) r at many = one (nat_lt 1 y.loop.factor) (some_unrolled ys n r at many)
  where
    one : (b : Bool) → 0 < loops_until ys (suc n) → 0 < length (if b then y.loop.factor ∷ factors (loops_round (take (suc n) ys)) else factors (loops_round (take (suc n) ys)))
    one true h = omega arith
    one false h = h

until_rises : (rounds : List Round) (j index : ℕ) (r : Round) → slice_get rounds index ≡ Some r → nat_lt 1 r.loop.factor ≡ true → j < index → loops_until rounds (suc j) < loops_until rounds (suc index)
until_rises [] j index r at many less = absurd (cc)
until_rises (x ∷ rounds) j zero r at many less = absurd (omega (arith, less))
until_rises (x ∷ rounds) zero (suc index) r at many less = by (nat_lt 1 x.loop.factor) (some_unrolled rounds index r at many)
  where
    by : (b : Bool) → 0 < loops_until rounds (suc index)
        → length (if b then x.loop.factor ∷ [] else []) < length (if b then x.loop.factor ∷ factors (loops_round (take (suc index) rounds)) else factors (loops_round (take (suc index) rounds)))
    by true h = omega (arith, h)
    by false h = h
until_rises (x ∷ rounds) (suc j) (suc index) r at many less = by (nat_lt 1 x.loop.factor) (until_rises rounds j index r at many (omega (arith, less)))
  where
    by : (b : Bool) → loops_until rounds (suc j) < loops_until rounds (suc index)
        → length (if b then x.loop.factor ∷ factors (loops_round (take (suc j) rounds)) else factors (loops_round (take (suc j) rounds)))
        < length (if b then x.loop.factor ∷ factors (loops_round (take (suc index) rounds)) else factors (loops_round (take (suc index) rounds)))
    by true h = omega (arith, h)
    by false h = h

-- what is told of the level of a loop
pub record HasLevel (levels : List Level) (rounds : List Round) (index : ℕ) (r : Round) : Type 0 where
  pub depth : r.loop.depth ≡ suc (level_with levels (Some r.loop.iterator))
  pub level : (l : Level) × ((slice_get levels (level_with levels (Some r.loop.iterator)) ≡ Some l) × (l.factor ≡ r.loop.factor))

pub level_of : (scene : Scene) (kinds : List Kind) (rounds : List Round) (levels : List Level) (paths : ℕ) → AreRoundsTold scene kinds rounds → AreWithin [] 1 rounds levels paths
    → (index : ℕ) (r : Round) → slice_get rounds index ≡ Some r → nat_lt 1 r.loop.factor ≡ true → HasLevel levels rounds index r
level_of scene kinds rounds levels paths told within index r at many =
    record {
      depth = (told index r at).depth ∙ (found.until ∙ ap suc (sym number_is));
      level =
          let l = level_at levels found.number (Some r.loop.iterator, r.loop.factor) (ap (λ (ms : List Mark). slice_get ms found.number) marks_are ∙ found.there) in
          (l.0, (ap (λ (n : ℕ). slice_get levels n) number_is ∙ l.1.0, l.1.1));
    }
  where
    own : (j : ℕ) (q : Round) → slice_get rounds j ≡ Some q → j < index → nat_lt 1 q.loop.factor ≡ true → q.loop.iterator ≡ r.loop.iterator → ⊥
    own j q e less m same =
        let rises = until_rises rounds j index r at many less in
        let a = (told j q e).depth in
        let b = (told index r at).depth in
        let d : q.loop.depth ≡ r.loop.depth = sym (told j q e).held_depth ∙ (ap (λ (n : ℕ). (held_at scene.held.now n).depth) same ∙ (told index r at).held_depth) in
        never (loops_until rounds (suc j)) (loops_until rounds (suc index)) rises (sym a ∙ (d ∙ b))
      where
        never : (m n : ℕ) → m < n → m ≡ n → ⊥
        never m n l e = omega (arith, l, e)

    found : FoundAt rounds index r
    found = found_at rounds index r at many own

    marks_are : marks levels ≡ marks_of rounds
    marks_are = marks_within [] 1 rounds levels paths within

    number_is : level_with levels (Some r.loop.iterator) ≡ found.number
    number_is = level_by_mark levels (Some r.loop.iterator) ∙ (ap (λ (ms : List Mark). mark_with ms (Some r.loop.iterator)) marks_are ∙ found.is)
