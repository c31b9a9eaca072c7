-- The iterators of loops that are in a turn, as an expression sees them at a path inside all the loops. The part of the
-- path that leads into a loop is a path inside it, and there the iterator has its value; the copy number of the
-- loop is the last of this part, and the same number of the whole path.
use Rattle.std.proofs.Common.{◌≡◌, ℕ, suc, ◌+◌, ◌*◌, ◌-◌, ◌<◌, ◌≤◌, nat_lt, Bool, true, false, if◌then◌else◌, List, [], ◌∷◌, ◌++◌, length, refl, sym, ◌∙◌, ap, subst, arith}
use Rattle.std.specs.Prelude.{take, slice_index_or, pos}
use Rattle.std.proofs.lemmas.List.{append_assoc, length-append}
use Rattle.dh_meaning.specs.Paths.{Path, paths_in, IsPathAmong}
use Rattle.dh_meaning.specs.Core.{Turning}
use Rattle.dh_meaning.specs.Effects.{Variables}
use Rattle.dh_sound.specs.Blocks.{factors, paths_inside, InTurn, AreInTurn}
use Rattle.dh_sound.specs.IteratorsAt.{HaveDepths, IteratorAt, TurnAt, TurnsAt}
use Rattle.dh_sound.proofs.PathParts.{outer_path, copy_below, last_of_outer}

pub factors_both : (a b : List Turning) → factors (a ++ b) ≡ factors a ++ factors b
factors_both [] b = refl
factors_both (l ∷ ls) b = by (nat_lt 1 l.factor) _ _ _ (factors_both ls b)
  where
    by : (t : Bool) (xs ys zs : List ℕ) → xs ≡ ys ++ zs → (if t then l.factor ∷ xs else xs) ≡ (if t then l.factor ∷ ys else ys) ++ zs
    by true xs ys zs e = ap (λ x. l.factor ∷ x) e
    by false xs ys zs e = e

-- a loop, with the factors round it, those of the loops in it, its depth, and a path inside all of them
module _ (outer inner : List ℕ) (factor depth : ℕ) (path : Path) where
  -- the factors up to the loop
  abbrev upto : Bool → List ℕ
  upto t = outer ++ (if t then factor ∷ [] else [])

  abbrev copy_at : Bool → Path → ℕ
  copy_at t q = if t then slice_index_or q (depth - 1) 0 else 0

  depth_is : depth ≡ length (upto true) → depth ≡ suc (length outer)
  depth_is e =
      let n = length-append outer (factor ∷ []) in
      omega (arith, e, n)

  level_is : depth ≡ length (upto true) → depth - 1 ≡ length outer
  level_is e =
      let n = length-append outer (factor ∷ []) in
      omega (arith, e, n)

  -- the part of the path that leads into the loop has the loop's copy number
  same_copy : (t : Bool) → depth ≡ length (upto t) → copy_at t (take depth path) ≡ copy_at t path
  same_copy true e =
      subst (λ (d : ℕ). slice_index_or (take d path) (depth - 1) 0 ≡ slice_index_or path (depth - 1) 0) (sym (depth_is e))
      (subst (λ (l : ℕ). slice_index_or (take (suc (length outer)) path) l 0 ≡ slice_index_or path l 0) (sym (level_is e)) (last_of_outer (length outer) path))
  same_copy false e = refl

  -- which is below its factor
  small_copy : (t : Bool) → depth ≡ length (upto t) → IsPathAmong path (paths_in (upto t ++ inner)) → 1 ≤ factor → copy_at t path < factor
  small_copy true e h l =
      subst (λ (l : ℕ). slice_index_or path l 0 < factor) (sym (level_is e))
      (copy_below outer factor inner path (subst (λ (fs : List ℕ). IsPathAmong path (paths_in fs)) (append_assoc outer (factor ∷ []) inner) h))
  small_copy false e h l = omega (arith, l)

  leads : (fs : List ℕ) → depth ≡ length fs → IsPathAmong path (paths_in (fs ++ inner)) → IsPathAmong (take depth path) (paths_in fs)
  leads fs e h = subst (λ (d : ℕ). IsPathAmong (take d path) (paths_in fs)) (sym e) (outer_path fs inner path h)

-- the iterator of a loop that is in a turn, at a path inside it and further loops
iterator_at : (round rest : List Turning) (loop : Turning) (variables : Variables) (i : InTurn (round ++ loop ∷ []) loop variables)
    → loop.depth ≡ length (factors (round ++ loop ∷ [])) → (path : Path) → IsPathAmong path (paths_inside ((round ++ loop ∷ []) ++ rest))
    → IteratorAt loop i.turn variables path
iterator_at round rest loop variables i e path h = record {
  value = i.holds (take loop.depth path) (leads (factors round) (factors rest) loop.factor loop.depth path (factors (round ++ loop ∷ [])) e whole)
      ∙ ap (λ n. pos (loop.low + i.turn * loop.factor + n)) (same_copy (factors round) (factors rest) loop.factor loop.depth path (nat_lt 1 loop.factor) (e ∙ ap length upto_is));
  copy = small_copy (factors round) (factors rest) loop.factor loop.depth path (nat_lt 1 loop.factor) (e ∙ ap length upto_is)
      (subst (λ (fs : List ℕ). IsPathAmong path (paths_in (fs ++ factors rest))) upto_is whole);
}
  where
    upto_is : factors (round ++ loop ∷ []) ≡ factors round ++ (if nat_lt 1 loop.factor then loop.factor ∷ [] else [])
    upto_is = factors_both round (loop ∷ [])

    whole : IsPathAmong path (paths_in (factors (round ++ loop ∷ []) ++ factors rest))
    whole = subst (λ (fs : List ℕ). IsPathAmong path (paths_in fs)) (factors_both (round ++ loop ∷ []) rest) h

turns_upto : (round loops whole : List Turning) (variables : Variables) → whole ≡ round ++ loops → AreInTurn round loops variables → HaveDepths round loops
    → TurnsAt loops variables (paths_inside whole)
turns_upto round [] whole variables e t d = tt
turns_upto round (loop ∷ loops) whole variables e t d =
    (here, turns_upto (round ++ loop ∷ []) loops whole variables regrouped t.1 d.1)
  where
    regrouped : whole ≡ (round ++ loop ∷ []) ++ loops
    regrouped = e ∙ sym (append_assoc round (loop ∷ []) loops)

    here : TurnAt loop variables (paths_inside whole)
    here = record {
      turn = t.0.turn;
      below = t.0.below;
      each = λ path h. iterator_at round loops loop variables t.0 d.0 path (subst (λ (ls : List Turning). IsPathAmong path (paths_inside ls)) regrouped h);
    }

-- loops that are in a turn, at the paths inside all of them
pub turns_at : (loops : List Turning) (variables : Variables) → AreInTurn [] loops variables → HaveDepths [] loops → TurnsAt loops variables (paths_inside loops)
turns_at loops variables t d = turns_upto [] loops loops variables refl t d
