-- Into a loop, and into its next turn: if each of the loops round it is in a turn, so are they with the loop
-- itself. The paths inside are the copies of the paths round it; at each of them the iterator has the value of
-- the turn, since each setting of it at a path is the one of this turn; and the iterators of the loops round
-- it are other variables.
use Rattle.std.proofs.Common.{◌≡◌, ℕ, ◌<◌, ◌==◌, ◌&&◌, ◌⊎◌, inl, inr, nat_lt, nat_eq, Bool, true, false, if◌then◌else◌, List, [], ◌∷◌, ◌++◌, refl, sym, ◌∙◌, ap, subst, arith}
use Rattle.std.specs.Prelude.{pos, ℤ}
use Rattle.std.specs.Cmp.Lexicographic.{pointwise}
use Rattle.std.proofs.lemmas.Bool.{ne_eqb}
use Rattle.std.proofs.lemmas.Cmp.{nat_list_eq_equiv}
use Rattle.std.proofs.lemmas.Bool.Decides.{nat_tests}
use Rattle.std.proofs.lemmas.List.{append_assoc, append-nil}
use Rattle.dh_meaning.specs.Paths.{Path, same_path, outer_paths, all_copies, paths_from, paths_in, IsPathAmong}
use Rattle.dh_meaning.specs.Core.{CoreTerm, CoreCommands, Turning}
use Rattle.dh_meaning.specs.Effects.{Begun, Variables, set_variable, Effect, at_each, tested_at, commands_run}
use Rattle.dh_meaning.specs.Runs.{inner_paths, iterator_value, turn_begun}
use Rattle.dh_sound.specs.Blocks.{factors, paths_inside, InTurn, AreInTurn}
use Rattle.dh_sound.specs.Standing.{Spares, IsFresh}
use Rattle.dh_sound.proofs.Assigned.{another_set, commands_leave, tested_leaves}

-- Paths.

factors_more : (round : List Turning) (loop : Turning) → factors (round ++ loop ∷ []) ≡ factors round ++ (if nat_lt 1 loop.factor then loop.factor ∷ [] else [])
factors_more [] loop = refl
factors_more (l ∷ ls) loop = by (nat_lt 1 l.factor) _ _ _ (factors_more ls loop)
  where
    by : (t : Bool) (xs ys zs : List ℕ) → xs ≡ ys ++ zs → (if t then l.factor ∷ xs else xs) ≡ (if t then l.factor ∷ ys else ys) ++ zs
    by true xs ys zs e = ap (λ x. l.factor ∷ x) e
    by false xs ys zs e = e

paths_from_more : (paths : List Path) (fs : List ℕ) (f : ℕ) → paths_from paths (fs ++ f ∷ []) ≡ all_copies (paths_from paths fs) f
paths_from_more paths [] f = refl
paths_from_more paths (g ∷ gs) f = paths_from_more (all_copies paths g) gs f

-- the paths inside one more loop
pub inner_inside : (round : List Turning) (loop : Turning) → inner_paths (paths_inside round) loop ≡ paths_inside (round ++ loop ∷ [])
inner_inside round loop = by (nat_lt 1 loop.factor) (factors_more round loop)
  where
    by : (t : Bool) → factors (round ++ loop ∷ []) ≡ factors round ++ (if t then loop.factor ∷ [] else [])
        → (if t then all_copies (paths_inside round) loop.factor else paths_inside round) ≡ paths_inside (round ++ loop ∷ [])
    by true e = sym (ap paths_in e ∙ paths_from_more outer_paths (factors round) loop.factor)
    by false e = sym (ap paths_in (e ∙ append-nil (factors round)))

-- A turn's begin.

both_true : (a b : Bool) → (a && b) ≡ true → (a ≡ true) × (b ≡ true)
both_true true b e = (refl, e)
both_true false b e = cc

same_number : (a b : ℕ) → nat_eq a b ≡ true → a ≡ b
same_number a b e = grind (arith, nat_tests)

same_list : (a b : List ℕ) → pointwise nat_eq a b ≡ true → a ≡ b
same_list [] [] e = refl
same_list [] (y ∷ ys) e = cc
same_list (x ∷ xs) [] e = cc
same_list (x ∷ xs) (y ∷ ys) e =
    let p = both_true (nat_eq x y) (pointwise nat_eq xs ys) e in
    let h = same_number x y p.0 in
    let t = same_list xs ys p.1 in
    cc

same_self : (n : ℕ) → (n == n) ≡ true
same_self n = grind (arith, nat_tests)

module _ (loop : Turning) (turn : ℕ) where
  -- the value of the iterator at a path
  abbrev value_at : Path → ℤ
  value_at path = pos (iterator_value loop turn path)

  -- set at a path, the iterator has its value there, and elsewhere where it had it before
  set_there : (variables : Variables) (path p : Path) → p ≡ path → set_variable variables loop.iterator path (value_at path) loop.iterator p ≡ value_at p
  set_there variables path p e =
      subst (λ (q : Path). set_variable variables loop.iterator q (value_at q) loop.iterator p ≡ value_at p) e
      (by (loop.iterator == loop.iterator) (same_self loop.iterator) (same_path p p) (nat_list_eq_equiv.refl p))
    where
      by : (a : Bool) → a ≡ true → (b : Bool) → b ≡ true → (if a && b then value_at p else variables loop.iterator p) ≡ value_at p
      by true h true g = refl
      by true h false g = cc
      by false h b g = cc

  set_elsewhere : (variables : Variables) (path p : Path) → variables loop.iterator p ≡ value_at p
      → set_variable variables loop.iterator path (value_at path) loop.iterator p ≡ value_at p
  set_elsewhere variables path p e = by (loop.iterator == loop.iterator) (same_path p path) (same_list p path)
    where
      by : (a b : Bool) → (b ≡ true → p ≡ path) → (if a && b then value_at path else variables loop.iterator p) ≡ value_at p
      by true true same = ap value_at (sym (same refl))
      by true false same = e
      by false b same = e

  -- after the begin of a turn the iterator has its value at each of the paths
  turn_holds : (paths : List Path) (variables : Variables) (p : Path) → IsPathAmong p paths ⊎ (variables loop.iterator p ≡ value_at p)
      → turn_begun loop turn paths variables loop.iterator p ≡ value_at p
  turn_holds [] variables p (inl h) = elim h [ ]
  turn_holds [] variables p (inr e) = e
  turn_holds (path ∷ paths) variables p (inl (inl here)) =
      turn_holds paths (set_variable variables loop.iterator path (value_at path)) p (inr (set_there variables path p here))
  turn_holds (path ∷ paths) variables p (inl (inr h)) =
      turn_holds paths (set_variable variables loop.iterator path (value_at path)) p (inl h)
  turn_holds (path ∷ paths) variables p (inr e) =
      turn_holds paths (set_variable variables loop.iterator path (value_at path)) p (inr (set_elsewhere variables path p e))

  -- and other variables are as they were
  turn_leaves : (entity : ℕ) → (entity == loop.iterator) ≡ false → (paths : List Path) (variables : Variables) (p : Path)
      → turn_begun loop turn paths variables entity p ≡ variables entity p
  turn_leaves entity h [] variables p = refl
  turn_leaves entity h (path ∷ paths) variables p =
      turn_leaves entity h paths (set_variable variables loop.iterator path (value_at path)) p
      ∙ another_set variables entity loop.iterator path p (value_at path) h

-- Iterators that are kept.

-- the iterators of these loops are as they were
abbrev pub Kept : List Turning → (before after : Variables) → Type 0
Kept [] before after = Unit {0}
Kept (loop ∷ loops) before after = ((p : Path) → after loop.iterator p ≡ before loop.iterator p) × Kept loops before after

-- then loops that were in a turn are in it
pub turns_kept : (round loops : List Turning) (before after : Variables) → Kept loops before after → AreInTurn round loops before → AreInTurn round loops after
turns_kept round [] before after k t = tt
turns_kept round (loop ∷ loops) before after k t = (here t.0, turns_kept (round ++ loop ∷ []) loops before after k.1 t.1)
  where
    here : InTurn (round ++ loop ∷ []) loop before → InTurn (round ++ loop ∷ []) loop after
    here i = record { turn = i.turn; below = i.below; holds = λ p h. k.0 p ∙ i.holds p h }

begun_kept : (loop : Turning) (turn : ℕ) (loops : List Turning) → IsFresh loop.iterator loops → (paths : List Path) (variables : Variables)
    → Kept loops variables (turn_begun loop turn paths variables)
begun_kept loop turn [] fresh paths variables = tt
begun_kept loop turn (l ∷ ls) fresh paths variables =
    (λ p. turn_leaves loop turn l.iterator (ne_eqb l.iterator loop.iterator fresh.0) paths variables p, begun_kept loop turn ls fresh.1 paths variables)

-- commands keep the iterators of loops that they spare, and a test those of all loops
pub commands_keep : (b : Begun) (cs : CoreCommands) (loops : List Turning) → Spares cs loops → (paths : List Path) (e : Effect)
    → Kept loops e.variables (commands_run b paths cs e).variables
commands_keep b cs [] spares paths e = tt
commands_keep b cs (l ∷ ls) spares paths e = (λ p. commands_leave b l.iterator cs spares.0 paths e p, commands_keep b cs ls spares.1 paths e)

pub test_keeps : (b : Begun) (test : CoreTerm) (loops : List Turning) (paths : List Path) (e : Effect)
    → Kept loops e.variables (at_each (tested_at b test) paths e).variables
test_keeps b test [] paths e = tt
test_keeps b test (l ∷ ls) paths e = (λ p. tested_leaves b l.iterator test paths e p, test_keeps b test ls paths e)

-- Turns.

-- the outer ones of loops that are in a turn
pub outer_turns : (round loops rest : List Turning) (variables : Variables) → AreInTurn round (loops ++ rest) variables → AreInTurn round loops variables
outer_turns round [] rest variables t = tt
outer_turns round (l ∷ ls) rest variables t = (t.0, outer_turns (round ++ l ∷ []) ls rest variables t.1)

-- one more loop that is in a turn
one_more : (round loops : List Turning) (loop : Turning) (variables : Variables) → AreInTurn round loops variables
    → InTurn (round ++ (loops ++ loop ∷ [])) loop variables → AreInTurn round (loops ++ loop ∷ []) variables
one_more round [] loop variables t i = (i, tt)
one_more round (l ∷ ls) loop variables t i =
    (t.0, one_more (round ++ l ∷ []) ls loop variables t.1 (subst (λ (r : List Turning). InTurn r loop variables) (sym (append_assoc round (l ∷ []) (ls ++ loop ∷ []))) i))

-- a turn of a loop has begun inside loops that are in a turn
pub turn_more : (loops : List Turning) (loop : Turning) (turn : ℕ) (paths : List Path) (variables : Variables) → turn < loop.count
    → IsFresh loop.iterator loops → paths ≡ paths_inside loops → AreInTurn [] loops variables
    → AreInTurn [] (loops ++ loop ∷ []) (turn_begun loop turn (inner_paths paths loop) variables)
turn_more loops loop turn paths variables below fresh copies t =
    one_more [] loops loop _ (turns_kept [] loops variables _ (begun_kept loop turn loops fresh (inner_paths paths loop) variables) t)
    (record { turn = turn; below = below; holds = λ p h. turn_holds loop turn (inner_paths paths loop) variables p (inl (subst (λ (ps : List Path). IsPathAmong p ps) (sym inside) h)) })
  where
    inside : inner_paths paths loop ≡ paths_inside (loops ++ loop ∷ [])
    inside = ap (λ ps. inner_paths ps loop) copies ∙ inner_inside loops loop
