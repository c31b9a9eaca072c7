-- Paths inside one more loop, and what is known of the loop from its header.
use Rattle.std.proofs.Common.{◌≡◌, ℕ, zero, suc, ◌*◌, ◌-◌, ◌^◌, ◌<◌, min, Bool, true, false, if◌then◌else◌, List, [], ◌∷◌, ◌++◌, Some, None, refl, ap, sym, subst, arith}
use Rattle.std.specs.Prelude.{Option, nat_le}
use Rattle.dh_tree.specs.PlainTrees.{ActionForm, lets, lets_memory, views, assigns, stores, reduces, calls, blocks, decides, repeats, counts}
use Rattle.dh_meaning.specs.Core.{Turning}
use Rattle.dh_meaning.specs.CoreOf.{Known, entity_number, turning_of}
use Rattle.dh_plan.specs.Correspondence.{Round, loops_round}
use Rattle.dh_phases.specs.GatheredPhases.{Header, header_of}
use Rattle.dh_expressions.specs.declared.paths.Level.{Level}
use Rattle.dh_expressions.specs.declared.paths.Paths.{Paths}
use Rattle.dh_expressions.specs.Levels.{count_inside, levels_inside}
use Rattle.dh_gathering.specs.MadeBlocks.{ArePathsOf, AreWithin}

rounds_more : (levels : List Level) (count : ℕ) (rounds : List Round) (inner : List Level) (paths : ℕ) (r : Round) (entity : Option ℕ) → entity ≡ Some r.loop.iterator → AreWithin levels count rounds inner paths
    → AreWithin levels count (rounds ++ r ∷ []) (levels_inside inner entity r.loop.factor) (count_inside paths r.loop.factor)
rounds_more levels count [] inner paths r entity is (a, b) = (entity, (is, (ap (λ (ls : List Level). levels_inside ls entity r.loop.factor) a, ap (λ (n : ℕ). count_inside n r.loop.factor) b)))
rounds_more levels count (x ∷ rounds) inner paths r entity is (e, (i, h)) = (e, (i, rounds_more (levels_inside levels e x.loop.factor) (count_inside count x.loop.factor) rounds inner paths r entity is h))

some_inside : (paths factor : ℕ) → 0 < paths → 0 < factor → 0 < count_inside paths factor
some_inside paths factor some copies = by (nat_le factor 1)
  where
    least : (a b m : ℕ) → 0 < a → 0 < b → 0 < m → 0 < min (a * b) m
    least zero b m l k j = absurd (none l)
      where
        none : 0 < 0 → ⊥
        none e = omega (arith, e)
    least (suc a) zero m l k j = absurd (none k)
      where
        none : 0 < 0 → ⊥
        none e = omega (arith, e)
    least (suc a) (suc b) m l k j = cut (suc a * suc b) m (omega arith) j
      where
        cut : (p m : ℕ) → 0 < p → 0 < m → 0 < min p m
        cut p m e f = grind (arith, e, f)

    by : (b : Bool) → 0 < (if b then paths else min (paths * factor) (2 ^ 64 - 1))
    by true = some
    by false = least paths factor (2 ^ 64 - 1) some copies (omega arith)

pub paths_inside : (rounds : List Round) (outer inner : Paths) (r : Round) (entity : Option ℕ) → entity ≡ Some r.loop.iterator → 0 < r.loop.factor → inner.levels.items ≡ levels_inside outer.levels.items entity r.loop.factor → inner.count ≡ count_inside outer.count r.loop.factor
    → ArePathsOf rounds outer.levels.items outer.count → ArePathsOf (rounds ++ r ∷ []) inner.levels.items inner.count
paths_inside rounds outer inner r entity is copies levels count h = record {
  within = subst (λ (ls : List Level). AreWithin [] 1 (rounds ++ r ∷ []) ls inner.count) (sym levels)
      (subst (λ (n : ℕ). AreWithin [] 1 (rounds ++ r ∷ []) (levels_inside outer.levels.items entity r.loop.factor) n) (sym count) (rounds_more [] 1 rounds outer.levels.items outer.count r entity is h.within));
  some = subst (λ (n : ℕ). 0 < n) (sym count) (some_inside outer.count r.loop.factor h.some copies);
}

-- the loops round what stands in one more
pub loops_more : (rounds : List Round) (r : Round) → loops_round (rounds ++ r ∷ []) ≡ loops_round rounds ++ r.loop ∷ []
loops_more [] r = refl
loops_more (x ∷ rounds) r = ap (λ (l : List Turning). x.loop ∷ l) (loops_more rounds r)

-- a loop that is counted, by its header
pub record IsLoopOf (h : Header) (turns : ℕ) (loop : Turning) : Type 0 where
  pub iterator : loop.iterator ≡ entity_number h.iterator.entity
  pub factor : loop.factor ≡ h.factor
  pub count : loop.count ≡ turns

abbrev iterator_in : Option Header → ℕ
iterator_in None = 0
iterator_in (Some h) = entity_number h.iterator.entity

abbrev factor_in : Option Header → ℕ
factor_in None = 0
factor_in (Some h) = h.factor

never : {A : Type 0} {x : A} → None ≡ Some x → ⊥
never e = cc

pub loop_of_header : (known : Known) (turns : ℕ) (form : ActionForm) (h : Header) → header_of form ≡ Some h → IsLoopOf h turns (turning_of known turns form)
loop_of_header known turns (counts iterator declared low high factor body combine combine_place) h e = record { iterator = ap iterator_in e; factor = ap factor_in e; count = refl }
loop_of_header known turns (lets name declared value) h e = absurd (never e)
loop_of_header known turns (lets_memory name shape shape_places value) h e = absurd (never e)
loop_of_header known turns (views name parent form) h e = absurd (never e)
loop_of_header known turns (assigns target value) h e = absurd (never e)
loop_of_header known turns (stores target value) h e = absurd (never e)
loop_of_header known turns (reduces target op value) h e = absurd (never e)
loop_of_header known turns (calls function arguments) h e = absurd (never e)
loop_of_header known turns (blocks body) h e = absurd (never e)
loop_of_header known turns (decides test chosen other) h e = absurd (never e)
loop_of_header known turns (repeats test body) h e = absurd (never e)
