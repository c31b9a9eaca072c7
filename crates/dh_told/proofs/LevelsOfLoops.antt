-- The levels round a block are the unrolled among the loops round it, and so those of the source that match them.
use Rattle.std.proofs.Common.{◌≡◌, ℕ, Bool, true, false, nat_lt, if◌then◌else◌, List, [], ◌∷◌, ◌++◌, map, Option, Some, refl, ap, sym, ◌∙◌, arith, append-nil, append_assoc}
use Rattle.std.specs.Prelude.{nat_le}
use Rattle.std.proofs.lemmas.Bool.Decides.{nat_tests}
use Rattle.dh_tree.specs.declared.trees.counters.Counter.{Counter}
use Rattle.dh_meaning.specs.Core.{Turning}
use Rattle.dh_meaning.specs.CoreOf.{Known}
use Rattle.dh_plan.specs.Correspondence.{Round, loops_round}
use Rattle.dh_sound.specs.LoopsMatch.{EachMatches, LoopMatches, unrolled_loops}
use Rattle.dh_expressions.specs.declared.paths.Level.{Level}
use Rattle.dh_expressions.specs.Levels.{count_inside, levels_inside, spread_level}
use Rattle.dh_gathering.specs.MadeBlocks.{AreWithin}
use Rattle.dh_charged.specs.ChargedUses.{AreLevelsOf}

-- What levels have that is the same however wide a step on them is.
module _ {B : Type 0} (of_level : Level → B) (of_loop : Turning → B) (kept : (factor : ℕ) (l : Level) → of_level (spread_level factor l) ≡ of_level l) (own : (r : Round) → of_level (record { entity = Some r.loop.iterator; factor = r.loop.factor; stride = 1 }) ≡ of_loop r.loop) where
  spread_same : (factor : ℕ) (ls : List Level) → map of_level (map (spread_level factor) ls) ≡ map of_level ls
  spread_same factor [] = refl
  spread_same factor (l ∷ ls) = ap (λ (b : B). b ∷ map of_level (map (spread_level factor) ls)) (kept factor l) ∙ ap (λ (bs : List B). of_level l ∷ bs) (spread_same factor ls)

  one_behind : (ls : List Level) (l : Level) → map of_level (ls ++ l ∷ []) ≡ map of_level ls ++ of_level l ∷ []
  one_behind [] l = refl
  one_behind (x ∷ ls) l = ap (λ (bs : List B). of_level x ∷ bs) (one_behind ls l)

  not_more : (n : ℕ) → nat_le n 1 ≡ true → nat_lt 1 n ≡ false
  not_more n e = grind (arith, nat_tests)

  more : (n : ℕ) → nat_le n 1 ≡ false → nat_lt 1 n ≡ true
  more n e = grind (arith, nat_tests)

  -- inside one more loop
  one_inside : (levels : List Level) (entity : Option ℕ) (r : Round) (rest : List Turning) → entity ≡ Some r.loop.iterator
      → map of_level (levels_inside levels entity r.loop.factor) ++ map of_loop (unrolled_loops rest) ≡ map of_level levels ++ map of_loop (unrolled_loops (r.loop ∷ rest))
  one_inside levels entity r rest is = by (nat_le r.loop.factor 1) refl
    where
      by : (b : Bool) → nat_le r.loop.factor 1 ≡ b
          → map of_level (if b then levels else map (spread_level r.loop.factor) levels ++ record { entity = entity; factor = r.loop.factor; stride = 1 } ∷ []) ++ map of_loop (unrolled_loops rest) ≡ map of_level levels ++ map of_loop (unrolled_loops (r.loop ∷ rest))
      by true e = ap (λ (d : Bool). map of_level levels ++ map of_loop (if d then r.loop ∷ unrolled_loops rest else unrolled_loops rest)) (sym (not_more r.loop.factor e))
      by false e =
          ap (λ (bs : List B). bs ++ map of_loop (unrolled_loops rest)) (one_behind (map (spread_level r.loop.factor) levels) (record { entity = entity; factor = r.loop.factor; stride = 1 }))
          ∙ (ap (λ (bs : List B). (bs ++ of_level (record { entity = entity; factor = r.loop.factor; stride = 1 }) ∷ []) ++ map of_loop (unrolled_loops rest)) (spread_same r.loop.factor levels)
          ∙ (ap (λ (o : Option ℕ). (map of_level levels ++ of_level (record { entity = o; factor = r.loop.factor; stride = 1 }) ∷ []) ++ map of_loop (unrolled_loops rest)) is
          ∙ (ap (λ (b : B). (map of_level levels ++ b ∷ []) ++ map of_loop (unrolled_loops rest)) (own r)
          ∙ (append_assoc (map of_level levels) (of_loop r.loop ∷ []) (map of_loop (unrolled_loops rest))
          ∙ ap (λ (d : Bool). map of_level levels ++ map of_loop (if d then r.loop ∷ unrolled_loops rest else unrolled_loops rest)) (sym (more r.loop.factor e))))))

  within_are : (levels : List Level) (count : ℕ) (rounds : List Round) (inner : List Level) (paths : ℕ) → AreWithin levels count rounds inner paths → map of_level inner ≡ map of_level levels ++ map of_loop (unrolled_loops (loops_round rounds))
  within_are levels count [] inner paths (is, same) = ap (λ (ls : List Level). map of_level ls) is ∙ sym (append-nil (map of_level levels))
  within_are levels count (r ∷ rounds) inner paths (entity, (is, rest)) =
      within_are (levels_inside levels entity r.loop.factor) (count_inside count r.loop.factor) rounds inner paths rest ∙ one_inside levels entity r (loops_round rounds) is

-- what loops have that match
module _ {B : Type 0} (known : Known) (of_loop : Turning → B) (of_counter : Counter → B) (same : (loop : Turning) (c : Counter) → LoopMatches known loop c → of_loop loop ≡ of_counter c) where
  matched_are : (ts : List Turning) (cs : List Counter) → EachMatches known ts cs → map of_loop ts ≡ map of_counter cs
  matched_are [] [] h = refl
  matched_are [] (c ∷ cs) h = absurd h
  matched_are (t ∷ ts) [] h = absurd h
  matched_are (t ∷ ts) (c ∷ cs) h = ap (λ (b : B). b ∷ map of_loop ts) (same t c h.0) ∙ ap (λ (bs : List B). of_counter c ∷ bs) (matched_are ts cs h.1)

pub levels_of : (known : Known) (rounds : List Round) (levels : List Level) (paths : ℕ) (loops : List Counter) → AreWithin [] 1 rounds levels paths → EachMatches known (unrolled_loops (loops_round rounds)) loops → AreLevelsOf levels loops
levels_of known rounds levels paths loops within matches = record {
  entities =
      within_are (λ l. l.entity) (λ t. Some t.iterator) (λ f l. refl) (λ r. refl) [] 1 rounds levels paths within
      ∙ matched_are known (λ t. Some t.iterator) (λ c. c.entity) (λ t c m. sym m.iterator) (unrolled_loops (loops_round rounds)) loops matches;
  factors =
      within_are (λ l. l.factor) (λ t. t.factor) (λ f l. refl) (λ r. refl) [] 1 rounds levels paths within
      ∙ matched_are known (λ t. t.factor) (λ c. c.factor) (λ t c m. m.factor) (unrolled_loops (loops_round rounds)) loops matches;
}
