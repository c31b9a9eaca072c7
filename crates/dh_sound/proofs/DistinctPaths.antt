-- The paths inside loops do not repeat, and are all as long as there are unrolled loops. Two copies of one path differ
-- in their last number, copies of two paths in what stands before it.
use Rattle.std.proofs.Common.{◌≡◌, ◌⊎◌, inl, inr, ℕ, zero, suc, ◌<◌, List, [], ◌∷◌, ◌++◌, length, refl, sym, ◌∙◌, ap, subst, arith}
use Rattle.std.proofs.lemmas.List.{length-append}
use Rattle.dh_meaning.specs.Core.{Turning}
use Rattle.dh_meaning.specs.Effects.{Begun}
use Rattle.dh_meaning.specs.Paths.{Path, outer_paths, copies_of, all_copies, paths_from, paths_in}
use Rattle.dh_sound.specs.Blocks.{factors, paths_inside}
use Rattle.dh_sound.proofs.Lockstep.{AreCopies, AllLong}
use Rattle.dh_carried.proofs.Pigeons.{Has, NoTwice, once_both, has_either}
use Rattle.dh_sound.proofs.SettledNames.{inside_long}

never_empty : (q : Path) (b : ℕ) → [] ≡ q ++ b ∷ [] → ⊥
never_empty q b e = let l = ap length e in let n = length-append q (b ∷ []) in omega (arith, l, n)

-- paths with one number behind them
snoc_same : (p q : Path) (a b : ℕ) → p ++ a ∷ [] ≡ q ++ b ∷ [] → (p ≡ q) × (a ≡ b)
snoc_same [] [] a b e = (refl, cc)
snoc_same [] (y ∷ q) a b e = let t : [] ≡ q ++ b ∷ [] = cc in elim (never_empty q b t) [ ]
snoc_same (x ∷ p) [] a b e = let t : [] ≡ p ++ a ∷ [] = cc in elim (never_empty p a t) [ ]
snoc_same (x ∷ p) (y ∷ q) a b e =
    let h : x ≡ y = cc in
    let t : p ++ a ∷ [] ≡ q ++ b ∷ [] = cc in
    let s = snoc_same p q a b t in
    (ap (λ z. z ∷ p) h ∙ ap (λ r. y ∷ r) s.0, s.1)

is_copy : (path : Path) (n : ℕ) (q : Path) → Has q (copies_of path n) → (k : ℕ) × ((k < n) × (q ≡ path ++ k ∷ []))
is_copy path zero q h = elim h [ ]
is_copy path (suc n) q h = by (has_either q (copies_of path n) ((path ++ n ∷ []) ∷ []) h) (is_copy path n q)
  where
    by : Has q (copies_of path n) ⊎ ((q ≡ path ++ n ∷ []) ⊎ ⊥) → (Has q (copies_of path n) → (k : ℕ) × ((k < n) × (q ≡ path ++ k ∷ []))) → (k : ℕ) × ((k < suc n) × (q ≡ path ++ k ∷ []))
    by (inl a) more = let (k, (l, e)) = more a in (k, (omega (arith, l), e))
    by (inr (inl e)) more = (n, (omega arith, e))
    by (inr (inr none)) more = elim none [ ]

copies_once : (path : Path) (n : ℕ) → NoTwice (copies_of path n)
copies_once path zero = tt
copies_once path (suc n) = once_both (copies_of path n) ((path ++ n ∷ []) ∷ []) (copies_once path n) ((λ h. h), tt) apart
  where
    apart : (q : Path) → Has q (copies_of path n) → (q ≡ path ++ n ∷ []) ⊎ ⊥ → ⊥
    apart q h (inl e) = let (k, (l, f)) = is_copy path n q h in let s = snoc_same path path k n (sym f ∙ e) in let m = s.1 in omega (arith, l, m)
    apart q h (inr none) = none

is_of_one : (paths : List Path) (n : ℕ) (q : Path) → Has q (all_copies paths n) → (path : Path) × (Has path paths × ((k : ℕ) × (q ≡ path ++ k ∷ [])))
is_of_one [] n q h = elim h [ ]
is_of_one (path ∷ paths) n q h = by (has_either q (copies_of path n) (all_copies paths n) h) (is_of_one paths n q)
  where
    by : Has q (copies_of path n) ⊎ Has q (all_copies paths n) → (Has q (all_copies paths n) → (r : Path) × (Has r paths × ((k : ℕ) × (q ≡ r ++ k ∷ [])))) → (r : Path) × (Has r (path ∷ paths) × ((k : ℕ) × (q ≡ r ++ k ∷ [])))
    by (inl a) more = let (k, (l, e)) = is_copy path n q a in (path, (inl refl, (k, e)))
    by (inr c) more = let (r, (h, (k, e))) = more c in (r, (inr h, (k, e)))

all_once : (paths : List Path) (n : ℕ) → NoTwice paths → NoTwice (all_copies paths n)
all_once [] n once = tt
all_once (path ∷ paths) n once = once_both (copies_of path n) (all_copies paths n) (copies_once path n) (all_once paths n once.1) apart
  where
    apart : (q : Path) → Has q (copies_of path n) → Has q (all_copies paths n) → ⊥
    apart q h g =
        let (k, (l, e)) = is_copy path n q h in
        let (r, (at, (j, f))) = is_of_one paths n q g in
        let s = snoc_same path r k j (sym e ∙ f) in
        once.0 (subst (λ (x : Path). Has x paths) (sym s.0) at)

from_once : (paths : List Path) (fs : List ℕ) → NoTwice paths → NoTwice (paths_from paths fs)
from_once paths [] once = once
from_once paths (f ∷ fs) once = from_once (all_copies paths f) fs (all_once paths f once)

pub paths_once : (fs : List ℕ) → NoTwice (paths_in fs)
paths_once fs = from_once outer_paths fs ((λ h. h), tt)

all_long : (depth : ℕ) (ps : List Path) → ((path : Path) → Has path ps → length path ≡ depth) → AllLong depth ps
all_long depth [] h = tt
all_long depth (p ∷ ps) h = (h p (inl refl), all_long depth ps (λ q a. h q (inr a)))

-- so they are copies of one length
pub inside_copies : (b : Begun) (loops : List Turning) → AreCopies b (length (factors loops)) (paths_inside loops)
inside_copies b loops = record { long = all_long (length (factors loops)) (paths_inside loops) (λ path h. inside_long loops path h); once = paths_once (factors loops) }
