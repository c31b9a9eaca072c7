-- Paths by number: which they are, and when the keys of two are one.
use Rattle.std.proofs.Common.{◌≡◌, ℕ, zero, suc, add-one, ◌+◌, ◌*◌, ◌/◌, ◌%◌, ◌<◌, ◌≤◌, ◌==◌, ◌&&◌, Bool, true, false, if◌then◌else◌, List, [], ◌∷◌, ◌++◌, append_assoc, length, refl, ap, sym, ◌∙◌, arith, ◌⊎◌, inl, inr}
use Rattle.std.proofs.lemmas.Bool.{cases_Bool, eqb-true, eq-eqb, ne_eqb}
use Rattle.std.proofs.Math.Nat.{mod-lt, mul-add-div_right, mul-add-mod_self_right}
use Rattle.std.proofs.lemmas.Nat.{mul-add-lt, div-mul-add, mod-mul-add}
use Rattle.dh_meaning.specs.Paths.{Path, same_path, outer_paths, copies_of, all_copies, paths_from, paths_in}
use Rattle.dh_meets.specs.Charges.{picked}
use Rattle.dh_ports.specs.Banks.{path_of_number, keys_in, key_number}
pub use Rattle.dh_ports.specs.Banks.{each_below}
use Rattle.dh_meaning.specs.Paths.{copies_in}

absurd : {A : Type 0} → ⊥ → A
absurd e = elim e [ ]

pub each_same : {A : Type 0} (f g : ℕ → A) (n : ℕ) → ((k : ℕ) → k < n → f k ≡ g k) → each_below f n ≡ each_below g n
each_same f g zero e = refl
each_same f g (suc n) e = ap (λ l. l ++ f n ∷ []) (each_same f g n (λ k h. e k (omega (arith, h)))) ∙ ap (λ x. each_below g n ++ x ∷ []) (e n (omega arith))

pub each_more : {A : Type 0} (f : ℕ → A) (m n : ℕ) → each_below f (m + n) ≡ each_below f m ++ each_below (λ k. f (m + k)) n
each_more f m zero = ap (each_below f) (none m) ∙ sym (nothing (each_below f m))
  where
    none : (m : ℕ) → m + 0 ≡ m
    none m = omega arith

    nothing : {A : Type 0} (xs : List A) → xs ++ [] ≡ xs
    nothing [] = refl
    nothing (x ∷ xs) = ap (λ l. x ∷ l) (nothing xs)
each_more f m (suc n) =
    ap (each_below f) (one m n)
    ∙ (ap (λ l. l ++ f (m + n) ∷ []) (each_more f m n) ∙ append_assoc (each_below f m) (each_below (λ k. f (m + k)) n) (f (m + n) ∷ []))
  where
    one : (m n : ℕ) → m + suc n ≡ suc (m + n)
    one m n = omega arith

-- Paths.

pub one_more : (f : ℕ) (fs : List ℕ) → 1 ≤ copies_in (f ∷ fs) → (1 ≤ f) × (1 ≤ copies_in fs)
one_more zero fs e = absurd (none (copies_in fs) e)
  where
    none : (n : ℕ) → 1 ≤ 0 * n → ⊥
    none n e = omega (arith, e)
one_more (suc f) fs e = (omega arith, by (copies_in fs) e)
  where
    by : (n : ℕ) → 1 ≤ suc f * n → 1 ≤ n
    by zero e = absurd (none f e)
      where
        none : (f : ℕ) → 1 ≤ suc f * 0 → ⊥
        none f e = omega (arith, e)
    by (suc n) e = omega arith

-- a multiple of the copies more leads to the same path
pub path_round : (fs : List ℕ) (k n : ℕ) → 1 ≤ copies_in fs → path_of_number fs (k * copies_in fs + n) ≡ path_of_number fs n
path_round [] k n e = refl
path_round (f ∷ fs) k n e =
    let more = one_more f fs e in
    ap (λ m. (m / copies_in fs) % f ∷ path_of_number fs m) (grouped k f (copies_in fs) n)
    ∙ (ap (λ c. c % f ∷ path_of_number fs (k * f * copies_in fs + n)) (mul-add-div_right {m = copies_in fs} more.1 (k * f) n)
    ∙ (ap (λ c. c ∷ path_of_number fs (k * f * copies_in fs + n)) (mul-add-mod_self_right k f (n / copies_in fs)) ∙ ap (λ l. (n / copies_in fs) % f ∷ l) (path_round fs (k * f) n more.1)))
  where
    grouped : (k f c n : ℕ) → k * (f * c) + n ≡ k * f * c + n
    grouped k f c n = omega arith

copies_append : (ps qs : List Path) (n : ℕ) → all_copies (ps ++ qs) n ≡ all_copies ps n ++ all_copies qs n
copies_append [] qs n = refl
copies_append (p ∷ ps) qs n = ap (λ l. copies_of p n ++ l) (copies_append ps qs n) ∙ sym (append_assoc (copies_of p n) (all_copies ps n) (all_copies qs n))

from_append : (ps qs : List Path) (fs : List ℕ) → paths_from (ps ++ qs) fs ≡ paths_from ps fs ++ paths_from qs fs
from_append ps qs [] = refl
from_append ps qs (f ∷ fs) = ap (λ l. paths_from l fs) (copies_append ps qs f) ∙ from_append (all_copies ps f) (all_copies qs f) fs

from_none : (fs : List ℕ) → paths_from [] fs ≡ []
from_none [] = refl
from_none (f ∷ fs) = from_none fs

append_none : {A : Type 0} (xs : List A) → xs ++ [] ≡ xs
append_none [] = refl
append_none (x ∷ xs) = ap (λ l. x ∷ l) (append_none xs)

from_copies : (p : Path) (f : ℕ) (fs : List ℕ) → 1 ≤ f → 1 ≤ copies_in fs → ((q : Path) → paths_from (q ∷ []) fs ≡ each_below (λ n. q ++ path_of_number fs n) (copies_in fs)) → (j : ℕ) → j ≤ f
    → paths_from (copies_of p j) fs ≡ each_below (λ n. p ++ path_of_number (f ∷ fs) n) (j * copies_in fs)
from_copies p f fs some each one zero e = from_none fs ∙ sym (ap (each_below (λ n. p ++ path_of_number (f ∷ fs) n)) (none (copies_in fs)))
  where
    none : (n : ℕ) → 0 * n ≡ 0
    none n = omega arith
from_copies p f fs some each one (suc j) e =
    from_append (copies_of p j) ((p ++ j ∷ []) ∷ []) fs
    ∙ (ap (λ l. l ++ paths_from ((p ++ j ∷ []) ∷ []) fs) (from_copies p f fs some each one j (omega (arith, e)))
    ∙ (ap (λ l. each_below (λ n. p ++ path_of_number (f ∷ fs) n) (j * copies_in fs) ++ l) (one (p ++ j ∷ []) ∙ each_same _ (λ k. p ++ path_of_number (f ∷ fs) (j * copies_in fs + k)) (copies_in fs) (λ k h. there k h))
    ∙ (sym (each_more (λ n. p ++ path_of_number (f ∷ fs) n) (j * copies_in fs) (copies_in fs)) ∙ ap (each_below (λ n. p ++ path_of_number (f ∷ fs) n)) (next j (copies_in fs)))))
  where
    next : (j n : ℕ) → j * n + n ≡ suc j * n
    next j n = omega arith

    first : (k : ℕ) → k < copies_in fs → ((j * copies_in fs + k) / copies_in fs) % f ≡ j
    first k h = ap (λ n. n % f) (div-mul-add j (copies_in fs) k h) ∙ (ap (λ n. n % f) (zeros j f) ∙ mod-mul-add 0 f j (omega (arith, e)))
      where
        zeros : (j f : ℕ) → j ≡ 0 * f + j
        zeros j f = omega arith

    there : (k : ℕ) → k < copies_in fs → (p ++ j ∷ []) ++ path_of_number fs k ≡ p ++ path_of_number (f ∷ fs) (j * copies_in fs + k)
    there k h =
        append_assoc p (j ∷ []) (path_of_number fs k)
        ∙ sym (ap (λ c. p ++ (c ∷ path_of_number fs (j * copies_in fs + k))) (first k h) ∙ ap (λ l. p ++ (j ∷ l)) (path_round fs j k each))

from_one : (p : Path) (fs : List ℕ) → 1 ≤ copies_in fs → paths_from (p ∷ []) fs ≡ each_below (λ n. p ++ path_of_number fs n) (copies_in fs)
from_one p [] e = ap (λ q. q ∷ []) (sym (append_none p))
from_one p (f ∷ fs) e =
    let more = one_more f fs e in
    ap (λ l. paths_from l fs) (append_none (copies_of p f)) ∙ from_copies p f fs more.0 more.1 (λ q. from_one q fs more.1) f (omega arith)

pub paths_are : (fs : List ℕ) → 1 ≤ copies_in fs → paths_in fs ≡ each_below (path_of_number fs) (copies_in fs)
paths_are fs e = from_one [] fs e

-- where a loop has no copies there are no paths
pub no_paths : (fs : List ℕ) → copies_in fs ≡ 0 → paths_in fs ≡ []
no_paths fs e = none fs outer_paths e
  where
    no_copies : (ps : List Path) → all_copies ps 0 ≡ []
    no_copies [] = refl
    no_copies (p ∷ ps) = no_copies ps

    product : (f n : ℕ) → suc f * n ≡ 0 → n ≡ 0
    product f zero e = refl
    product f (suc n) e = absurd (more f n e)
      where
        more : (f n : ℕ) → suc f * suc n ≡ 0 → ⊥
        more f n e = omega (arith, e)

    none : (fs : List ℕ) (ps : List Path) → copies_in fs ≡ 0 → paths_from ps fs ≡ []
    none [] ps e = absurd (one e)
      where
        one : ◌≡◌ {A = ℕ} 1 0 → ⊥
        one e = omega (arith, e)
    none (zero ∷ fs) ps e = ap (λ l. paths_from l fs) (no_copies ps) ∙ from_none fs
    none (suc f ∷ fs) ps e = none fs (all_copies ps (suc f)) (product f (copies_in fs) e)

pub path_long : (fs : List ℕ) (n : ℕ) → length (path_of_number fs n) ≡ length fs
path_long [] n = refl
path_long (f ∷ fs) n = ap suc (path_long fs n)

-- Keys.

pub keys_most : (picks : ℕ → Bool) (level : ℕ) (fs : List ℕ) → 1 ≤ copies_in fs → (1 ≤ keys_in picks level fs) × (keys_in picks level fs ≤ copies_in fs)
keys_most picks level [] e = (omega arith, omega arith)
keys_most picks level (f ∷ fs) e = by (picks level) (one_more f fs e).0 (keys_most picks (level + 1) fs (one_more f fs e).1)
  where
    some : (f k : ℕ) → 1 ≤ f → 1 ≤ k → 1 ≤ f * k
    some f k a b = grind arith

    product : (f k c : ℕ) → k ≤ c → f * k ≤ f * c
    product f k c a = grind arith

    times : (f k c : ℕ) → 1 ≤ f → k ≤ c → k ≤ f * c
    times f k c a b = grind arith

    by : (b : Bool) → 1 ≤ f → (1 ≤ keys_in picks (level + 1) fs) × (keys_in picks (level + 1) fs ≤ copies_in fs)
        → (1 ≤ (if b then f * keys_in picks (level + 1) fs else keys_in picks (level + 1) fs)) × ((if b then f * keys_in picks (level + 1) fs else keys_in picks (level + 1) fs) ≤ f * copies_in fs)
    by true a (b, c) = (some f _ a b, product f _ _ c)
    by false a (b, c) = (b, times f _ _ a c)

pub key_below : (picks : ℕ → Bool) (level : ℕ) (fs : List ℕ) (n : ℕ) → 1 ≤ copies_in fs → key_number picks level fs n < keys_in picks level fs
key_below picks level [] n e = omega arith
key_below picks level (f ∷ fs) n e = by (picks level) (one_more f fs e).0 (key_below picks (level + 1) fs n (one_more f fs e).1)
  where
    product : (a k r f : ℕ) → a < f → r < k → a * k + r < f * k
    product a k r f p q = grouped (a * k + r) k f (mul-add-lt a k r f p q)
      where
        grouped : (n k f : ℕ) → n < k * f → n < f * k
        grouped n k f e = omega (arith, e)

    by : (b : Bool) → 1 ≤ f → key_number picks (level + 1) fs n < keys_in picks (level + 1) fs
        → (if b then ((n / copies_in fs) % f) * keys_in picks (level + 1) fs else 0) + key_number picks (level + 1) fs n < (if b then f * keys_in picks (level + 1) fs else keys_in picks (level + 1) fs)
    by true a h = product _ _ _ f (mod-lt (n / copies_in fs) {m = f} a) h
    by false a h = omega (arith, h)

-- two numbers below a factor, each with one below a stride behind it, are one where both are
pub same_sums : (a b k r s : ℕ) → r < k → s < k → ((a * k + r) == (b * k + s)) ≡ ((a == b) && (r == s))
same_sums a b k r s p q = by (cases_Bool (a == b)) (cases_Bool (r == s))
  where
    quotient : a * k + r ≡ b * k + s → a ≡ b
    quotient e = sym (div-mul-add a k r p) ∙ (ap (λ n. n / k) e ∙ div-mul-add b k s q)

    rest : a * k + r ≡ b * k + s → r ≡ s
    rest e = sym (mod-mul-add a k r p) ∙ (ap (λ n. n % k) e ∙ mod-mul-add b k s q)

    clash : (b : Bool) → b ≡ true → b ≡ false → ⊥
    clash b e f = cc

    by : ((a == b) ≡ true) ⊎ ((a == b) ≡ false) → ((r == s) ≡ true) ⊎ ((r == s) ≡ false) → ((a * k + r) == (b * k + s)) ≡ ((a == b) && (r == s))
    by (inl e) (inl f) = eq-eqb (a * k + r) (b * k + s) (ap (λ n. n * k + r) (eqb-true a b e) ∙ ap (λ n. b * k + n) (eqb-true r s f)) ∙ sym (ap (λ x. x && (r == s)) e ∙ f)
    by (inl e) (inr f) = ne_eqb (a * k + r) (b * k + s) (λ g. clash (r == s) (eq-eqb r s (rest g)) f) ∙ sym (ap (λ x. x && (r == s)) e ∙ f)
    by (inr e) f = ne_eqb (a * k + r) (b * k + s) (λ g. clash (a == b) (eq-eqb a b (quotient g)) e) ∙ sym (ap (λ x. x && (r == s)) e)

-- keys are one where their numbers are
pub same_keys : (picks : ℕ → Bool) (level : ℕ) (fs : List ℕ) (m n : ℕ) → 1 ≤ copies_in fs
    → (key_number picks level fs m == key_number picks level fs n) ≡ same_path (picked picks level (path_of_number fs m)) (picked picks level (path_of_number fs n))
same_keys picks level [] m n e = eq-eqb 0 0 refl
same_keys picks level (f ∷ fs) m n e =
    let more = (one_more f fs e).1 in
    by (picks level) (key_below picks (level + 1) fs m more) (key_below picks (level + 1) fs n more) (same_keys picks (level + 1) fs m n more ∙ ap (λ l. same_path (picked picks l (path_of_number fs m)) (picked picks l (path_of_number fs n))) (add-one level))
  where
    none : (n : ℕ) → 0 + n ≡ n
    none n = omega arith

    by : (t : Bool) → key_number picks (level + 1) fs m < keys_in picks (level + 1) fs → key_number picks (level + 1) fs n < keys_in picks (level + 1) fs
        → (key_number picks (level + 1) fs m == key_number picks (level + 1) fs n) ≡ same_path (picked picks (suc level) (path_of_number fs m)) (picked picks (suc level) (path_of_number fs n))
        → (((if t then ((m / copies_in fs) % f) * keys_in picks (level + 1) fs else 0) + key_number picks (level + 1) fs m) == ((if t then ((n / copies_in fs) % f) * keys_in picks (level + 1) fs else 0) + key_number picks (level + 1) fs n))
        ≡ same_path (if t then ((m / copies_in fs) % f) ∷ picked picks (suc level) (path_of_number fs m) else picked picks (suc level) (path_of_number fs m)) (if t then ((n / copies_in fs) % f) ∷ picked picks (suc level) (path_of_number fs n) else picked picks (suc level) (path_of_number fs n))
    by true p q h = same_sums _ _ _ _ _ p q ∙ ap (λ x. (((m / copies_in fs) % f) == ((n / copies_in fs) % f)) && x) h
    by false p q h = ap (λ x. x == (0 + key_number picks (level + 1) fs n)) (none _) ∙ (ap (λ x. key_number picks (level + 1) fs m == x) (none _) ∙ h)
