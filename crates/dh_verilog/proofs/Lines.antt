-- Lists of items, each with a text. If the text of an item tells the item, and the item's text begins
-- with a byte (at a place) that what follows the list has not there, then the text of a list tells
-- the list: by induction on both lists, the shorter of which would end where the other goes on.
use Rattle.std.proofs.Common.{◌≡◌, ℕ, ◌+◌, List, [], ◌∷◌, ◌++◌, ◌∙◌, ap, sym, refl, subst, append_assoc}
use Rattle.std.specs.Prelude.{slice_index}
use Rattle.std.specs.List.{AllByRecursion}
use Rattle.dh_verilog.specs.Listed.{each, each_numbered}

-- two lists are of one length, and item by item in this relation
abbrev pub Pointwise : {A : Type 0} → (A → A → Type 0) → List A → List A → Type 0
Pointwise R [] [] = Unit {0}
Pointwise R (a ∷ xs) (b ∷ ys) = R a b × Pointwise R xs ys
Pointwise R _ _ = ⊥

pub equal_items : {A : Type 0} (xs ys : List A) → Pointwise (λ a b. a ≡ b) xs ys → xs ≡ ys
equal_items [] [] h = refl
equal_items (a ∷ xs) (b ∷ ys) h =
    let first : a ≡ b = h.0 in
    let rest : xs ≡ ys = equal_items xs ys h.1 in
    cc
equal_items [] (b ∷ ys) h = absurd h
equal_items (a ∷ xs) [] h = absurd h

-- the text of an item, whatever its number, has the byte v at k, and what may follow an item is Next
pub record Begins {A : Type 0} (text : ℕ → A → List ℕ) (k v : ℕ) (Next : List ℕ → Type 0) : Type 0 where
  pub byte : (i : ℕ) (a : A) (x : List ℕ) → slice_index (text i a ++ x) k ≡ v
  pub next : (i : ℕ) (a : A) (x : List ℕ) → Next (text i a ++ x)

-- what follows a list has not that byte there, and may follow an item
pub record Ends (k v : ℕ) (Next : List ℕ → Type 0) (x : List ℕ) : Type 0 where
  pub other : slice_index x k ≡ v → ⊥
  pub next : Next x

-- the text of a good item tells what R says of it
abbrev pub Tells : {A : Type 0} → (ℕ → A → List ℕ) → (A → Type 0) → (A → A → Type 0) → (List ℕ → Type 0) → Type 0
Tells {A = A} text Good R Next =
    (i : ℕ) (a b : A) (x y : List ℕ) → Good a → Good b → Next x → Next y → text i a ++ x ≡ text i b ++ y → R a b × (x ≡ y)

next_on : {A : Type 0} (text : ℕ → A → List ℕ) (k v : ℕ) (Next : List ℕ → Type 0) → Begins text k v Next → (i : ℕ) (xs : List A) (x : List ℕ) → Next x → Next (each_numbered text i xs ++ x)
next_on text k v Next b i [] x h = h
next_on text k v Next b i (a ∷ xs) x h = subst Next (sym (append_assoc (text i a) (each_numbered text (i + 1) xs) x)) (b.next i a (each_numbered text (i + 1) xs ++ x))

begun : {A : Type 0} (text : ℕ → A → List ℕ) (k v : ℕ) (Next : List ℕ → Type 0) → Begins text k v Next → (i : ℕ) (a : A) (xs : List A) (y x : List ℕ) → Ends k v Next x → x ≡ (text i a ++ each_numbered text (i + 1) xs) ++ y → ⊥
begun text k v Next b i a xs y x ends e =
    ends.other (ap (λ t. slice_index t k) (e ∙ append_assoc (text i a) (each_numbered text (i + 1) xs) y) ∙ b.byte i a (each_numbered text (i + 1) xs ++ y))

pub same_numbered : {A : Type 0} (text : ℕ → A → List ℕ) (k v : ℕ) (Good : A → Type 0) (R : A → A → Type 0) (Next : List ℕ → Type 0) → Begins text k v Next → Tells text Good R Next
    → (i : ℕ) (xs ys : List A) (x y : List ℕ) → AllByRecursion Good xs → AllByRecursion Good ys → Ends k v Next x → Ends k v Next y
    → each_numbered text i xs ++ x ≡ each_numbered text i ys ++ y → Pointwise R xs ys × (x ≡ y)
same_numbered text k v Good R Next b tells i [] [] x y gx gy ex ey e = (tt, e)
same_numbered text k v Good R Next b tells i [] (c ∷ ys) x y gx gy ex ey e = absurd (begun text k v Next b i c ys y x ex e)
same_numbered text k v Good R Next b tells i (a ∷ xs) [] x y gx gy ex ey e = absurd (begun text k v Next b i a xs x y ey (sym e))
same_numbered text k v Good R Next b tells i (a ∷ xs) (c ∷ ys) x y gx gy ex ey e =
    let one = tells i a c (each_numbered text (i + 1) xs ++ x) (each_numbered text (i + 1) ys ++ y) gx.0 gy.0 (next_on text k v Next b (i + 1) xs x ex.next) (next_on text k v Next b (i + 1) ys y ey.next)
    (sym (append_assoc (text i a) (each_numbered text (i + 1) xs) x) ∙ (e ∙ append_assoc (text i c) (each_numbered text (i + 1) ys) y)) in
    let more = same_numbered text k v Good R Next b tells (i + 1) xs ys x y gx.1 gy.1 ex ey one.1 in
    ((one.0, more.0), more.1)

-- a list without numbers is one whose texts do not name them
pub each_is : {A : Type 0} (text : A → List ℕ) (i : ℕ) (xs : List A) → each text xs ≡ each_numbered (λ j. text) i xs
each_is text i [] = refl
each_is text i (a ∷ xs) = ap (λ t. text a ++ t) (each_is text (i + 1) xs)

pub same_each : {A : Type 0} (text : A → List ℕ) (k v : ℕ) (Good : A → Type 0) (R : A → A → Type 0) (Next : List ℕ → Type 0) → Begins (λ j. text) k v Next → Tells (λ j. text) Good R Next
    → (xs ys : List A) (x y : List ℕ) → AllByRecursion Good xs → AllByRecursion Good ys → Ends k v Next x → Ends k v Next y
    → each text xs ++ x ≡ each text ys ++ y → Pointwise R xs ys × (x ≡ y)
same_each text k v Good R Next b tells xs ys x y gx gy ex ey e =
    same_numbered (λ j. text) k v Good R Next b tells 0 xs ys x y gx gy ex ey
    (sym (ap (λ t. t ++ x) (each_is text 0 xs)) ∙ (e ∙ ap (λ t. t ++ y) (each_is text 0 ys)))
