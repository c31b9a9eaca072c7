-- The paths inside loops that stand one in the other are the lists of copy numbers, one for each loop and below its
-- factor. By induction over the factors: each path outside goes on with the copies of the next loop. So the
-- part of a path that leads into some outer loops is a path inside these.
use Rattle.std.proofs.Common.{◌≡◌, ℕ, zero, suc, ◌<◌, ◌⊎◌, inl, inr, List, [], ◌∷◌, ◌++◌, length, refl, sym, ◌∙◌, ap, subst, arith}
use Rattle.std.specs.Prelude.{take, slice_index_or}
use Rattle.std.proofs.lemmas.Bool.{cases_lt}
use Rattle.std.proofs.lemmas.List.{append_assoc, append-nil}
use Rattle.dh_meaning.specs.Paths.{Path, outer_paths, copies_of, all_copies, paths_from, paths_in, IsPathAmong}

-- a copy number for each loop, below its factor
abbrev pub Fits : Path → (factors : List ℕ) → Type 0
Fits [] [] = Unit {0}
Fits [] (f ∷ fs) = ⊥
Fits (n ∷ path) [] = ⊥
Fits (n ∷ path) (f ∷ fs) = (n < f) × Fits path fs

path_left : (path : Path) (ps qs : List Path) → IsPathAmong path ps → IsPathAmong path (ps ++ qs)
path_left path [] qs h = elim h [ ]
path_left path (p ∷ ps) qs (inl e) = inl e
path_left path (p ∷ ps) qs (inr h) = inr (path_left path ps qs h)

path_right : (path : Path) (ps qs : List Path) → IsPathAmong path qs → IsPathAmong path (ps ++ qs)
path_right path [] qs h = h
path_right path (p ∷ ps) qs h = inr (path_right path ps qs h)

path_either : (path : Path) (ps qs : List Path) → IsPathAmong path (ps ++ qs) → IsPathAmong path ps ⊎ IsPathAmong path qs
path_either path [] qs h = inr h
path_either path (p ∷ ps) qs (inl e) = inl (inl e)
path_either path (p ∷ ps) qs (inr h) = side (path_either path ps qs h)
  where
    side : IsPathAmong path ps ⊎ IsPathAmong path qs → ((path ≡ p) ⊎ IsPathAmong path ps) ⊎ IsPathAmong path qs
    side (inl a) = inl (inr a)
    side (inr b) = inr b

-- Copies.

-- a path is a copy of one of these
record IsCopy (ps : List Path) (f : ℕ) (path : Path) : Type 0 where
  of : Path
  among : IsPathAmong of ps
  copy : ℕ
  below : copy < f
  is : path ≡ of ++ copy ∷ []

copy_of : (q : Path) (f : ℕ) (path : Path) → IsPathAmong path (copies_of q f) → IsCopy (q ∷ []) f path
copy_of q zero path h = elim h [ ]
copy_of q (suc f) path h = side (path_either path (copies_of q f) ((q ++ f ∷ []) ∷ []) h) (copy_of q f path)
  where
    side : IsPathAmong path (copies_of q f) ⊎ ((path ≡ q ++ f ∷ []) ⊎ ⊥) → (IsPathAmong path (copies_of q f) → IsCopy (q ∷ []) f path) → IsCopy (q ∷ []) (suc f) path
    side (inl a) more =
        let c = more a in
        let l = c.below in
        record { of = c.of; among = c.among; copy = c.copy; below = omega (arith, l); is = c.is }
    side (inr (inl e)) more = record { of = q; among = inl refl; copy = f; below = omega arith; is = e }
    side (inr (inr none)) more = elim none [ ]

below_or : (k n : ℕ) → k < suc n → (k < n) ⊎ (k ≡ n)
below_or k n l = elim (cases_lt k n) [ inl small ↦ inl small | inr large ↦ inr (omega (arith, l, large)) ]

is_copy : (q : Path) (n f : ℕ) → n < f → IsPathAmong (q ++ n ∷ []) (copies_of q f)
is_copy q n zero l = let none : ⊥ = omega (arith, l) in elim none [ ]
is_copy q n (suc f) l =
    elim (below_or n f l) [
      | inl small ↦ path_left _ (copies_of q f) _ (is_copy q n f small)
      | inr same ↦ path_right _ (copies_of q f) _ (inl (ap (λ k. q ++ k ∷ []) same))
    ]

copy_among : (ps : List Path) (f : ℕ) (path : Path) → IsPathAmong path (all_copies ps f) → IsCopy ps f path
copy_among [] f path h = elim h [ ]
copy_among (p ∷ ps) f path h = side (path_either path (copies_of p f) (all_copies ps f) h) (copy_among ps f path)
  where
    here : (q : Path) → (q ≡ p) ⊎ ⊥ → (q ≡ p) ⊎ IsPathAmong q ps
    here q (inl e) = inl e
    here q (inr none) = elim none [ ]

    side : IsPathAmong path (copies_of p f) ⊎ IsPathAmong path (all_copies ps f) → (IsPathAmong path (all_copies ps f) → IsCopy ps f path) → IsCopy (p ∷ ps) f path
    side (inl a) more =
        let c = copy_of p f path a in
        record { of = c.of; among = here c.of c.among; copy = c.copy; below = c.below; is = c.is }
    side (inr b) more =
        let c = more b in
        record { of = c.of; among = inr c.among; copy = c.copy; below = c.below; is = c.is }

among_copies : (ps : List Path) (q : Path) (n f : ℕ) → IsPathAmong q ps → n < f → IsPathAmong (q ++ n ∷ []) (all_copies ps f)
among_copies [] q n f h l = elim h [ ]
among_copies (p ∷ ps) q n f (inl e) l =
    path_left _ (copies_of p f) (all_copies ps f) (subst (λ (r : Path). IsPathAmong (q ++ n ∷ []) (copies_of r f)) e (is_copy q n f l))
among_copies (p ∷ ps) q n f (inr h) l = path_right _ (copies_of p f) (all_copies ps f) (among_copies ps q n f h l)

-- Paths.

-- a path goes on from one of these
record HasParts (ps : List Path) (fs : List ℕ) (path : Path) : Type 0 where
  outer : Path
  among : IsPathAmong outer ps
  inner : Path
  fits : Fits inner fs
  is : path ≡ outer ++ inner

path_parts : (fs : List ℕ) (ps : List Path) (path : Path) → IsPathAmong path (paths_from ps fs) → HasParts ps fs path
path_parts [] ps path h = record { outer = path; among = h; inner = []; fits = tt; is = sym (append-nil path) }
path_parts (f ∷ fs) ps path h =
    let r = path_parts fs (all_copies ps f) path h in
    let c = copy_among ps f r.outer r.among in
    record {
      outer = c.of;
      among = c.among;
      inner = c.copy ∷ r.inner;
      fits = (c.below, r.fits);
      is = r.is ∙ (ap (λ q. q ++ r.inner) c.is ∙ append_assoc c.of (c.copy ∷ []) r.inner);
    }

parts_path : (fs : List ℕ) (ps : List Path) (q r : Path) → IsPathAmong q ps → Fits r fs → IsPathAmong (q ++ r) (paths_from ps fs)
parts_path [] ps q [] h fits = subst (λ (x : Path). IsPathAmong x ps) (sym (append-nil q)) h
parts_path [] ps q (n ∷ r) h fits = elim fits [ ]
parts_path (f ∷ fs) ps q [] h fits = elim fits [ ]
parts_path (f ∷ fs) ps q (n ∷ r) h fits =
    subst (λ (x : Path). IsPathAmong x (paths_from (all_copies ps f) fs)) (append_assoc q (n ∷ []) r)
    (parts_path fs (all_copies ps f) (q ++ n ∷ []) r (among_copies ps q n f h fits.0) fits.1)

-- a path inside loops has a copy number for each, below its factor
pub path_fits : (fs : List ℕ) (path : Path) → IsPathAmong path (paths_in fs) → Fits path fs
path_fits fs path h =
    let p = path_parts fs outer_paths path h in
    subst (λ (x : Path). Fits x fs) (sym (p.is ∙ ap (λ q. q ++ p.inner) (alone p.outer p.among))) p.fits
  where
    alone : (q : Path) → (q ≡ []) ⊎ ⊥ → q ≡ []
    alone q (inl e) = e
    alone q (inr none) = elim none [ ]

-- and each such list is a path inside them
pub fits_path : (fs : List ℕ) (path : Path) → Fits path fs → IsPathAmong path (paths_in fs)
fits_path fs path h = parts_path fs outer_paths [] path (inl refl) h

-- Outer parts.

outer_fits : (fs gs : List ℕ) (path : Path) → Fits path (fs ++ gs) → Fits (take (length fs) path) fs
outer_fits [] gs path h = tt
outer_fits (f ∷ fs) gs [] h = elim h [ ]
outer_fits (f ∷ fs) gs (n ∷ path) h = (h.0, outer_fits fs gs path h.1)

-- the part of a path that leads into outer loops is a path inside them
pub outer_path : (fs gs : List ℕ) (path : Path) → IsPathAmong path (paths_in (fs ++ gs)) → IsPathAmong (take (length fs) path) (paths_in fs)
outer_path fs gs path h = fits_path fs (take (length fs) path) (outer_fits fs gs path (path_fits (fs ++ gs) path h))

copy_fits : (fs : List ℕ) (f : ℕ) (gs : List ℕ) (path : Path) → Fits path (fs ++ f ∷ gs) → slice_index_or path (length fs) 0 < f
copy_fits [] f gs [] h = elim h [ ]
copy_fits [] f gs (n ∷ path) h = h.0
copy_fits (g ∷ fs) f gs [] h = elim h [ ]
copy_fits (g ∷ fs) f gs (n ∷ path) h = copy_fits fs f gs path h.1

-- the copy number of a loop is below its factor
pub copy_below : (fs : List ℕ) (f : ℕ) (gs : List ℕ) (path : Path) → IsPathAmong path (paths_in (fs ++ f ∷ gs)) → slice_index_or path (length fs) 0 < f
copy_below fs f gs path h = copy_fits fs f gs path (path_fits (fs ++ f ∷ gs) path h)

-- the outer part has the copy number of its last loop
pub last_of_outer : (n : ℕ) (path : Path) → slice_index_or (take (suc n) path) n 0 ≡ slice_index_or path n 0
last_of_outer n [] = refl
last_of_outer zero (c ∷ path) = refl
last_of_outer (suc n) (c ∷ path) = last_of_outer n path
