-- Sums of charges over sets of accesses: a set of one tree is no more than the same set of a tree that has all its accesses.
use Rattle.std.proofs.Common.{◌≡◌, ◌⊎◌, inl, inr, ℕ, ◌+◌, ◌≤◌, ◌==◌, ◌&&◌, ◌||◌, Bool, true, false, IsTrue, if◌then◌else◌, refl, ap, ◌∙◌, subst, arith}
use Rattle.std.proofs.lemmas.Bool.Decides.{nat_tests}
use Rattle.dh_tree.specs.Meets.{Meets, nothing, access, all, one, In, has, Distinct, total}

pub both_true : (x y : Bool) → IsTrue (x && y) → IsTrue x × IsTrue y
both_true true y e = (refl, e)
both_true false y e = absurd cc

in_either : (x y : Bool) (P Q : Type 0) → (IsTrue x → P) → (IsTrue y → Q) → IsTrue (x || y) → P ⊎ Q
in_either true y P Q f g e = inl (f refl)
in_either false y P Q f g e = inr (g e)

pub has_in : (a : ℕ) (t : Meets) → IsTrue (has a t) → In a t
has_in a nothing e = absurd cc
has_in a (access b) e = grind (arith, nat_tests, e)
has_in a (all l r) e = in_either (has a l) (has a r) (In a l) (In a r) (has_in a l) (has_in a r) e
has_in a (one l r) e = in_either (has a l) (has a r) (In a l) (In a r) (has_in a l) (has_in a r) e

-- sums of less charges are less
less_one : (x : Bool) (m n : ℕ) → m ≤ n → (if x then m else 0) ≤ (if x then n else 0)
less_one true m n l = l
less_one false m n l = omega arith

pub less_total : (c d : ℕ → ℕ) → ((a : ℕ) → c a ≤ d a) → (f : ℕ → Bool) (t : Meets) → total c f t ≤ total d f t
less_total c d l f nothing = omega arith
less_total c d l f (access a) = less_one (f a) (c a) (d a) (l a)
less_total c d l f (all p q) =
    let x = less_total c d l f p in
    let y = less_total c d l f q in
    omega (arith, x, y)
less_total c d l f (one p q) =
    let x = less_total c d l f p in
    let y = less_total c d l f q in
    omega (arith, x, y)

-- and that of none is none
no_charge : (x : Bool) → ◌≡◌ {A = ℕ} (if x then 0 else 0) 0
no_charge true = refl
no_charge false = refl

pub none_total : (f : ℕ → Bool) (t : Meets) → total (λ a. 0) f t ≡ 0
none_total f nothing = refl
none_total f (access a) = no_charge (f a)
none_total f (all p q) =
    let x = none_total f p in
    let y = none_total f q in
    omega (arith, x, y)
none_total f (one p q) =
    let x = none_total f p in
    let y = none_total f q in
    omega (arith, x, y)

-- sets that share no access, and one that has both
parts_one : (n : ℕ) (x y z : Bool) → (IsTrue x → IsTrue z) → (IsTrue y → IsTrue z) → (IsTrue x → IsTrue y → ⊥)
    → (if x then n else 0) + (if y then n else 0) ≤ (if z then n else 0)
parts_one n true true z f g h = absurd (h refl refl)
parts_one n true false true f g h = omega arith
parts_one n true false false f g h = let e = f refl in absurd cc
parts_one n false true true f g h = omega arith
parts_one n false true false f g h = let e = g refl in absurd cc
parts_one n false false z f g h = omega arith

parts_total : (c : ℕ → ℕ) (f g h : ℕ → Bool) → ((a : ℕ) → IsTrue (f a) → IsTrue (h a)) → ((a : ℕ) → IsTrue (g a) → IsTrue (h a))
    → ((a : ℕ) → IsTrue (f a) → IsTrue (g a) → ⊥) → (t : Meets) → total c f t + total c g t ≤ total c h t
parts_total c f g h i j k nothing = omega arith
parts_total c f g h i j k (access a) = parts_one (c a) (f a) (g a) (h a) (i a) (j a) (k a)
parts_total c f g h i j k (all p q) =
    let x = parts_total c f g h i j k p in
    let y = parts_total c f g h i j k q in
    omega (arith, x, y)
parts_total c f g h i j k (one p q) =
    let x = parts_total c f g h i j k p in
    let y = parts_total c f g h i j k q in
    omega (arith, x, y)

-- one access of a set is no more than the sum
chosen_one : (n : ℕ) (x : Bool) → IsTrue x → n ≤ (if x then n else 0)
chosen_one n true e = omega arith
chosen_one n false e = absurd cc

one_total : (c : ℕ → ℕ) (f : ℕ → Bool) (b : ℕ) → IsTrue (f b) → (t : Meets) → In b t → c b ≤ total c f t
one_total c f b e nothing i = absurd i
one_total c f b e (access a) i = subst (λ (k : ℕ). c b ≤ (if f k then c k else 0)) i (chosen_one (c b) (f b) e)
one_total c f b e (all p q) (inl i) = let x = one_total c f b e p i in omega (arith, x)
one_total c f b e (all p q) (inr i) = let x = one_total c f b e q i in omega (arith, x)
one_total c f b e (one p q) (inl i) = let x = one_total c f b e p i in omega (arith, x)
one_total c f b e (one p q) (inr i) = let x = one_total c f b e q i in omega (arith, x)

-- those of a set that stand in a tree
abbrev pub chosen_in : (ℕ → Bool) → Meets → ℕ → Bool
chosen_in f t a = f a && has a t

left_in : (x y z : Bool) → IsTrue (x && y) → IsTrue (x && (y || z))
left_in true true z e = refl
left_in true false z e = absurd cc
left_in false y z e = absurd cc

right_in : (x y z : Bool) → IsTrue (x && z) → IsTrue (x && (y || z))
right_in true true z e = refl
right_in true false z e = e
right_in false y z e = absurd cc

two_within : (c : ℕ → ℕ) (f : ℕ → Bool) (l r u : Meets) → ((a : ℕ) → In a l → In a r → ⊥)
    → total c (chosen_in f l) u + total c (chosen_in f r) u ≤ total c (λ a. f a && (has a l || has a r)) u
two_within c f l r u apart =
    parts_total c (chosen_in f l) (chosen_in f r) (λ a. f a && (has a l || has a r))
    (λ a e. left_in (f a) (has a l) (has a r) e) (λ a e. right_in (f a) (has a l) (has a r) e)
    (λ a d e. apart a (has_in a l (both_true (f a) (has a l) d).1) (has_in a r (both_true (f a) (has a r) e).1)) u

access_within : (c : ℕ → ℕ) (f : ℕ → Bool) (b : ℕ) (u : Meets) → In b u → (x : Bool) → f b ≡ x
    → (if x then c b else 0) ≤ total c (λ a. f a && (a == b)) u
access_within c f b u i false e = omega arith
access_within c f b u i true e =
    let t : (b == b) ≡ true = grind (arith, nat_tests) in
    let so : (f b && (b == b)) ≡ true = ap (λ x. x && (b == b)) e ∙ t in
    one_total c (λ a. f a && (a == b)) b so u i

pub within_total : (c : ℕ → ℕ) (f : ℕ → Bool) (u t : Meets) → Distinct t → ((a : ℕ) → In a t → In a u) → total c f t ≤ total c (chosen_in f t) u
within_total c f u nothing d known = omega arith
within_total c f u (access b) d known = access_within c f b u (known b refl) (f b) refl
within_total c f u (all l r) d known =
    let x = within_total c f u l d.0.0 (λ a i. known a (inl i)) in
    let y = within_total c f u r d.0.1 (λ a i. known a (inr i)) in
    let z = two_within c f l r u d.1 in
    omega (arith, x, y, z)
within_total c f u (one l r) d known =
    let x = within_total c f u l d.0.0 (λ a i. known a (inl i)) in
    let y = within_total c f u r d.0.1 (λ a i. known a (inr i)) in
    let z = two_within c f l r u d.1 in
    omega (arith, x, y, z)
