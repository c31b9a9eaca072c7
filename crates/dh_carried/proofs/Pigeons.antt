-- Lists without repeats: such a list is no longer than any list that has all its members. By induction: the
-- first member is taken out of the other list, and the rest goes on. Shared by dh_sound, dh_charged,
-- dh_typed_blocks and dh_used.
use Rattle.std.proofs.Common.{◌≡◌, suc, ◌≤◌, ◌⊎◌, inl, inr, Bool, true, false, ◌||◌, cond, List, [], ◌∷◌, ◌++◌, length, map, refl, sym, ◌∙◌, ap, subst, arith}
use Rattle.std.specs.List.{list_any}
use Rattle.std.specs.Set.{unique_keys, is_member}

abbrev pub Has : {A : Type 0} → A → List A → Type 0
Has x [] = ⊥
Has x (y ∷ ys) = (x ≡ y) ⊎ Has x ys

abbrev pub NoTwice : {A : Type 0} → List A → Type 0
NoTwice [] = Unit {0}
NoTwice (x ∷ xs) = (Has x xs → ⊥) × NoTwice xs

-- a list without one of its members
pub record Without {A : Type 0} (x : A) (ys : List A) : Type 0 where
  pub rest : List A
  pub long : length ys ≡ suc (length rest)
  pub others : (z : A) → Has z ys → (z ≡ x → ⊥) → Has z rest

without : {A : Type 0} (x : A) (ys : List A) → Has x ys → Without x ys
without x [] h = elim h [ ]
without {A} x (y ∷ ys) (inl e) = record { rest = ys; long = refl; others = first }
  where
    first : (z : A) → (z ≡ y) ⊎ Has z ys → (z ≡ x → ⊥) → Has z ys
    first z (inl same) no_x = elim (no_x (same ∙ sym e)) [ ]
    first z (inr h) no_x = h
without {A} x (y ∷ ys) (inr h) =
    let w = without x ys h in
    record { rest = y ∷ w.rest; long = ap suc w.long; others = more w }
  where
    more : (w : Without x ys) (z : A) → (z ≡ y) ⊎ Has z ys → (z ≡ x → ⊥) → (z ≡ y) ⊎ Has z w.rest
    more w z (inl same) no_x = inl same
    more w z (inr at) no_x = inr (w.others z at no_x)

pub no_longer : {A : Type 0} (xs ys : List A) → NoTwice xs → ((x : A) → Has x xs → Has x ys) → length xs ≤ length ys
no_longer [] ys once all = omega arith
no_longer {A} (x ∷ xs) ys once all =
    let w = without x ys (all x (inl refl)) in
    let l = no_longer xs w.rest once.1 (λ z h. w.others z (all z (inr h)) (λ e. once.0 (subst (λ (a : A). Has a xs) e h))) in
    let n = w.long in
    omega (arith, l, n)

-- parts of a list
pub has_left : {A : Type 0} (x : A) (xs ys : List A) → Has x xs → Has x (xs ++ ys)
has_left x [] ys h = elim h [ ]
has_left x (y ∷ xs) ys (inl e) = inl e
has_left x (y ∷ xs) ys (inr h) = inr (has_left x xs ys h)

pub has_right : {A : Type 0} (x : A) (xs ys : List A) → Has x ys → Has x (xs ++ ys)
has_right x [] ys h = h
has_right x (y ∷ xs) ys h = inr (has_right x xs ys h)

pub has_either : {A : Type 0} (x : A) (xs ys : List A) → Has x (xs ++ ys) → Has x xs ⊎ Has x ys
has_either x [] ys h = inr h
has_either x (y ∷ xs) ys (inl e) = inl (inl e)
has_either x (y ∷ xs) ys (inr h) = side (has_either x xs ys h)
  where
    side : Has x xs ⊎ Has x ys → ((x ≡ y) ⊎ Has x xs) ⊎ Has x ys
    side (inl a) = inl (inr a)
    side (inr b) = inr b

pub once_both : {A : Type 0} (xs ys : List A) → NoTwice xs → NoTwice ys → ((x : A) → Has x xs → Has x ys → ⊥) → NoTwice (xs ++ ys)
once_both [] ys a b apart = b
once_both (x ∷ xs) ys a b apart =
    (fresh, once_both xs ys a.1 b (λ z h. apart z (inr h)))
  where
    fresh : Has x (xs ++ ys) → ⊥
    fresh h = elim (has_either x xs ys h) [ inl l ↦ a.0 l | inr r ↦ apart x (inl refl) r ]

pub has_mapped : {A B : Type 0} (f : A → B) (x : A) (xs : List A) → Has x xs → Has (f x) (map f xs)
has_mapped f x [] h = elim h [ ]
has_mapped f x (y ∷ xs) (inl e) = inl (ap f e)
has_mapped f x (y ∷ xs) (inr h) = inr (has_mapped f x xs h)

-- the members of a list, each once
either : (a b : Bool) → (a || b) ≡ true → (a ≡ true) ⊎ (b ≡ true)
either true b e = inl refl
either false b e = inr e

or_right : (a : Bool) → (a || true) ≡ true
or_right true = refl
or_right false = refl

module _ {A : Type 0} (eq : A → A → Bool) (sound : (a b : A) → eq a b ≡ true → a ≡ b) (whole : (a : A) → eq a a ≡ true) where
  pub member_has : (x : A) (xs : List A) → list_any (eq x) xs ≡ true → Has x xs
  member_has x [] e = cc
  member_has x (y ∷ xs) e = elim (either (eq x y) (list_any (eq x) xs) e) [ inl same ↦ inl (sound x y same) | inr more ↦ inr (member_has x xs more) ]

  pub has_member : (x : A) (xs : List A) → Has x xs → list_any (eq x) xs ≡ true
  has_member x [] h = elim h [ ]
  has_member x (y ∷ xs) (inl e) = ap (λ b. b || list_any (eq x) xs) (subst (λ (z : A). eq x z ≡ true) e (whole x))
  has_member x (y ∷ xs) (inr h) = ap (λ b. eq x y || b) (has_member x xs h) ∙ or_right (eq x y)

  pub unique_has : (x : A) (xs : List A) → Has x (unique_keys eq xs) → Has x xs
  unique_has x [] h = h
  unique_has x (y ∷ xs) h = by (is_member eq xs y) (unique_has x xs) h
    where
      by : (b : Bool) → (Has x (unique_keys eq xs) → Has x xs) → Has x (cond b (unique_keys eq xs) (y ∷ unique_keys eq xs)) → (x ≡ y) ⊎ Has x xs
      by true more h = inr (more h)
      by false more (inl e) = inl e
      by false more (inr h) = inr (more h)

  pub has_unique : (x : A) (xs : List A) → Has x xs → Has x (unique_keys eq xs)
  has_unique x [] h = h
  has_unique x (y ∷ xs) h = by (is_member eq xs y) refl (has_unique x xs) h
    where
      by : (b : Bool) → is_member eq xs y ≡ b → (Has x xs → Has x (unique_keys eq xs)) → (x ≡ y) ⊎ Has x xs → Has x (cond b (unique_keys eq xs) (y ∷ unique_keys eq xs))
      by true m more (inl e) = more (subst (λ (z : A). Has z xs) (sym e) (member_has y xs m))
      by true m more (inr h) = more h
      by false m more (inl e) = inl e
      by false m more (inr h) = inr (more h)

  pub unique_once : (xs : List A) → NoTwice (unique_keys eq xs)
  unique_once [] = tt
  unique_once (y ∷ xs) = by (is_member eq xs y) refl (unique_once xs)
    where
      fresh : is_member eq xs y ≡ false → Has y (unique_keys eq xs) → ⊥
      fresh m h = let t = has_member y xs (unique_has y xs h) in cc

      by : (b : Bool) → is_member eq xs y ≡ b → NoTwice (unique_keys eq xs) → NoTwice (cond b (unique_keys eq xs) (y ∷ unique_keys eq xs))
      by true m once = once
      by false m once = (fresh m, once)
