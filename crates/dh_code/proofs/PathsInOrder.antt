-- The paths inside loops, in order: each has as many before it as its rank says. By induction on the loops, each time
-- with one more loop inside: the copies of the path of rank k have the ranks from k times the factor on.
use Rattle.std.proofs.Common.{◌≡◌, ℕ, zero, suc, ◌+◌, ◌*◌, ◌<◌, ◌≤◌, List, [], ◌∷◌, ◌++◌, length, get_or, refl, ap, sym, ◌∙◌, subst, arith, append_assoc, append-nil}
use Rattle.std.specs.Prelude.{slice_index}
use Rattle.std.proofs.lemmas.List.{length-append}
use Rattle.dh_meaning.specs.Paths.{Path, all_copies, copies_of, outer_paths, paths_from, paths_in}
use Rattle.dh_code.specs.Ranks.{ArePaths, IsPath, copies_in, rank_behind, ranks_behind, rank_of}

-- paths whose ranks count up from a number
abbrev pub AreFrom : (factors : List ℕ) → (k : ℕ) → List Path → Type 0
AreFrom fs k [] = Unit {0}
AreFrom fs k (p ∷ ps) = (IsPath fs p × (rank_of fs p ≡ k)) × AreFrom fs (suc k) ps

pub ranks_snoc : (r : ℕ) (fs : List ℕ) (f : ℕ) (p : Path) (c : ℕ) → IsPath fs p → ranks_behind r (fs ++ f ∷ []) (p ++ c ∷ []) ≡ ranks_behind r fs p ++ (rank_behind r fs p * f + c) ∷ []
ranks_snoc r [] f [] c h = refl
ranks_snoc r [] f (d ∷ p) c h = absurd h
ranks_snoc r (g ∷ fs) f [] c h = absurd h
ranks_snoc r (g ∷ fs) f (d ∷ p) c h = ap (λ l. r ∷ l) (ranks_snoc (r * g + d) fs f p c h.1)

pub rank_snoc : (r : ℕ) (fs : List ℕ) (f : ℕ) (p : Path) (c : ℕ) → IsPath fs p → rank_behind r (fs ++ f ∷ []) (p ++ c ∷ []) ≡ rank_behind r fs p * f + c
rank_snoc r [] f [] c h = refl
rank_snoc r [] f (d ∷ p) c h = absurd h
rank_snoc r (g ∷ fs) f [] c h = absurd h
rank_snoc r (g ∷ fs) f (d ∷ p) c h = rank_snoc (r * g + d) fs f p c h.1

pub path_snoc : (fs : List ℕ) (f : ℕ) (p : Path) (c : ℕ) → IsPath fs p → c < f → IsPath (fs ++ f ∷ []) (p ++ c ∷ [])
path_snoc [] f [] c h below = (below, tt)
path_snoc [] f (d ∷ p) c h below = absurd h
path_snoc (g ∷ fs) f [] c h below = absurd h
path_snoc (g ∷ fs) f (d ∷ p) c h below = (h.0, path_snoc fs f p c h.1 below)

-- the last copy of a path, by its rank
pub last_rank : (r : ℕ) (fs : List ℕ) (f : ℕ) (p : Path) → IsPath (fs ++ f ∷ []) p → (m : ℕ) × ((rank_behind r (fs ++ f ∷ []) p ≡ m * f + slice_index p (length fs)) × (slice_index p (length fs) < f))
last_rank r [] f [] h = absurd h
last_rank r [] f (c ∷ []) h = (r, (refl, h.0))
last_rank r [] f (c ∷ (d ∷ p)) h = absurd h.1
last_rank r (g ∷ fs) f [] h = absurd h
last_rank r (g ∷ fs) f (c ∷ p) h = last_rank (r * g + c) fs f p h.1

pub length_path : (fs : List ℕ) (p : Path) → IsPath fs p → length p ≡ length fs
length_path [] [] h = refl
length_path [] (c ∷ p) h = absurd h
length_path (f ∷ fs) [] h = absurd h
length_path (f ∷ fs) (c ∷ p) h = ap suc (length_path fs p h.1)

pub length_ranks : (r : ℕ) (fs : List ℕ) (p : Path) → IsPath fs p → length (ranks_behind r fs p) ≡ suc (length fs)
length_ranks r [] [] h = refl
length_ranks r [] (c ∷ p) h = absurd h
length_ranks r (f ∷ fs) [] h = absurd h
length_ranks r (f ∷ fs) (c ∷ p) h = ap suc (length_ranks (r * f + c) fs p h.1)

length_copies : (p : Path) (n : ℕ) → length (copies_of p n) ≡ n
length_copies p zero = refl
length_copies p (suc n) = length-append (copies_of p n) ((p ++ n ∷ []) ∷ []) ∙ by (length (copies_of p n)) (length_copies p n)
  where
    by : (k : ℕ) → k ≡ n → k + 1 ≡ suc n
    by k e = omega (arith, e)

from_append : (fs : List ℕ) (k : ℕ) (xs ys : List Path) → AreFrom fs k xs → AreFrom fs (k + length xs) ys → AreFrom fs k (xs ++ ys)
from_append fs k [] ys h g = subst (λ (n : ℕ). AreFrom fs n ys) (none k) g
  where
    none : (k : ℕ) → k + 0 ≡ k
    none k = omega arith
from_append fs k (x ∷ xs) ys h g = (h.0, from_append fs (suc k) xs ys h.1 (subst (λ (n : ℕ). AreFrom fs n ys) (moved k (length xs)) g))
  where
    moved : (k n : ℕ) → k + suc n ≡ suc k + n
    moved k n = omega arith

module _ (fs : List ℕ) (f : ℕ) where
  copies_from : (p : Path) (k : ℕ) → IsPath fs p → rank_of fs p ≡ k → (n : ℕ) → n ≤ f → AreFrom (fs ++ f ∷ []) (k * f) (copies_of p n)
  copies_from p k h is zero few = tt
  copies_from p k h is (suc n) few =
      from_append (fs ++ f ∷ []) (k * f) (copies_of p n) ((p ++ n ∷ []) ∷ []) (copies_from p k h is n (omega (arith, few)))
      ((path_snoc fs f p n h (omega (arith, few)), rank_snoc 0 fs f p n h ∙ (ap (λ m. m * f + n) is ∙ ap (λ m. k * f + m) (sym (length_copies p n)))), tt)

  pub all_from : (ps : List Path) (k : ℕ) → AreFrom fs k ps → AreFrom (fs ++ f ∷ []) (k * f) (all_copies ps f)
  all_from [] k h = tt
  all_from (p ∷ ps) k h =
      from_append (fs ++ f ∷ []) (k * f) (copies_of p f) (all_copies ps f) (copies_from p k h.0.0 h.0.1 f (omega arith))
      (subst (λ (n : ℕ). AreFrom (fs ++ f ∷ []) n (all_copies ps f)) (next k f ∙ ap (λ m. k * f + m) (sym (length_copies p f))) (all_from ps (suc k) h.1))
    where
      next : (k f : ℕ) → suc k * f ≡ k * f + f
      next k f = omega arith

pub paths_snoc : (ps : List Path) (fs : List ℕ) (f : ℕ) → paths_from ps (fs ++ f ∷ []) ≡ all_copies (paths_from ps fs) f
paths_snoc ps [] f = refl
paths_snoc ps (g ∷ fs) f = paths_snoc (all_copies ps g) fs f

from_more : (gs : List ℕ) (ps : List Path) (fs : List ℕ) → AreFrom gs 0 ps → AreFrom (gs ++ fs) 0 (paths_from ps fs)
from_more gs ps [] h = subst (λ (l : List ℕ). AreFrom l 0 ps) (sym (append-nil gs)) h
from_more gs ps (f ∷ fs) h =
    subst (λ (l : List ℕ). AreFrom l 0 (paths_from (all_copies ps f) fs)) (append_assoc gs (f ∷ []) fs)
    (from_more (gs ++ f ∷ []) (all_copies ps f) fs (subst (λ (n : ℕ). AreFrom (gs ++ f ∷ []) n (all_copies ps f)) (none f) (all_from gs f ps 0 h)))
  where
    none : (f : ℕ) → 0 * f ≡ 0
    none f = omega arith

-- the paths inside loops, in order
pub paths_are : (fs : List ℕ) → AreFrom fs 0 (paths_in fs)
paths_are fs = from_more [] outer_paths fs ((tt, refl), tt)

pub are_paths : (fs : List ℕ) (k : ℕ) (ps : List Path) → AreFrom fs k ps → ArePaths fs ps
are_paths fs k [] h = tt
are_paths fs k (p ∷ ps) h = (h.0.0, are_paths fs (suc k) ps h.1)

pub path_at : (fs : List ℕ) (k : ℕ) (ps : List Path) (i : ℕ) → AreFrom fs k ps → i < length ps → IsPath fs (get_or ps i []) × (rank_of fs (get_or ps i []) ≡ k + i)
path_at fs k [] i h within = absurd (none i within)
  where
    none : (n : ℕ) → n < 0 → ⊥
    none n e = omega (arith, e)
path_at fs k (p ∷ ps) zero h within = (h.0.0, h.0.1 ∙ none k)
  where
    none : (k : ℕ) → k ≡ k + 0
    none k = omega arith
path_at fs k (p ∷ ps) (suc i) h within = let g = path_at fs (suc k) ps i h.1 (less i (length ps) within) in (g.0, g.1 ∙ moved k i)
  where
    less : (m l : ℕ) → suc m < suc l → m < l
    less m l e = omega (arith, e)

    moved : (k i : ℕ) → suc k + i ≡ k + suc i
    moved k i = omega arith

length_all : (ps : List Path) (f : ℕ) → length (all_copies ps f) ≡ length ps * f
length_all [] f = none f
  where
    none : (f : ℕ) → 0 ≡ 0 * f
    none f = omega arith
length_all (p ∷ ps) f = length-append (copies_of p f) (all_copies ps f) ∙ by (length (copies_of p f)) (length (all_copies ps f)) (length ps) (length_copies p f) (length_all ps f)
  where
    by : (a b n : ℕ) → a ≡ f → b ≡ n * f → a + b ≡ suc n * f
    by a b n e g = omega (arith, e, g)

length_from : (ps : List Path) (fs : List ℕ) → length (paths_from ps fs) ≡ length ps * copies_in fs
length_from ps [] = one (length ps)
  where
    one : (n : ℕ) → n ≡ n * 1
    one n = omega arith
length_from ps (f ∷ fs) = length_from (all_copies ps f) fs ∙ (ap (λ n. n * copies_in fs) (length_all ps f) ∙ grouped (length ps) f (copies_in fs))
  where
    grouped : (x y z : ℕ) → (x * y) * z ≡ x * (y * z)
    grouped x y z = omega arith

-- there are as many paths as copies
pub length_paths : (fs : List ℕ) → length (paths_in fs) ≡ copies_in fs
length_paths fs = length_from outer_paths fs ∙ one (copies_in fs)
  where
    one : (n : ℕ) → 1 * n ≡ n
    one n = omega arith

pub copies_snoc : (fs : List ℕ) (f : ℕ) → copies_in (fs ++ f ∷ []) ≡ copies_in fs * f
copies_snoc [] f = one f
  where
    one : (n : ℕ) → n * 1 ≡ 1 * n
    one n = omega arith
copies_snoc (g ∷ fs) f = ap (λ n. g * n) (copies_snoc fs f) ∙ grouped g (copies_in fs) f
  where
    grouped : (x y z : ℕ) → x * (y * z) ≡ (x * y) * z
    grouped x y z = omega arith
