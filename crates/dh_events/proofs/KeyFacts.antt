-- Keys without repeats have one place each.
use Rattle.std.proofs.Common.{◌≡◌, ℕ, zero, suc, ◌+◌, ◌==◌, ◌&&◌, Bool, true, false, if◌then◌else◌, List, [], ◌∷◌, ◌++◌, refl, ap, sym, ◌∙◌, subst, arith, ◌⊎◌, inl, inr}
use Rattle.std.specs.Prelude.{Option, Some, None, slice_get}
use Rattle.std.specs.List.{AllByRecursion, IsDistinct, position, position_from}
use Rattle.std.proofs.lemmas.Bool.{eqb-true, eq-eqb}
use Rattle.std.proofs.lemmas.Iterator.Adapters.{position_from-zero}
use Rattle.dh_events.specs.declared.classes.Key.{Key}
use Rattle.dh_events.specs.Classes.{FindsKeyNumber}

pub absurd : {A : Type 0} → ⊥ → A
absurd e = elim e [ ]

pub some_same : {X : Type 0} (x y : X) → Some x ≡ Some y → x ≡ y
some_same x y e = cc

pub all_there : {X : Type 0} (P : X → Type 0) (xs : List X) (n : ℕ) (x : X) → AllByRecursion P xs → slice_get xs n ≡ Some x → P x
all_there P [] n x a e = cc
all_there {X} P (y ∷ xs) zero x a e = subst (λ (z : X). P z) (some_same y x e) a.0
all_there P (y ∷ xs) (suc n) x a e = all_there P xs n x a.1 e

-- an element at two places of a list without repeats
pub one_place : {K : Type 0} (eq : K → K → Bool) → ((k : K) → eq k k ≡ true) → (ks : List K) → IsDistinct eq ks → (m n : ℕ) (k : K) → slice_get ks m ≡ Some k → slice_get ks n ≡ Some k → m ≡ n
unfolding IsDistinct
one_place eq itself [] d m n k e f = cc
one_place eq itself (x ∷ ks) d zero zero k e f = refl
one_place eq itself (x ∷ ks) d zero (suc n) k e f = absurd (clash (eq x k) (ap (λ z. eq z k) (some_same x k e) ∙ itself k) (all_there (λ y. eq x y ≡ false) ks n k d.0 f))
  where
    clash : (b : Bool) → b ≡ true → b ≡ false → ⊥
    clash b e f = cc
one_place eq itself (x ∷ ks) d (suc m) zero k e f = absurd (clash (eq x k) (ap (λ z. eq z k) (some_same x k f) ∙ itself k) (all_there (λ y. eq x y ≡ false) ks m k d.0 e))
  where
    clash : (b : Bool) → b ≡ true → b ≡ false → ⊥
    clash b e f = cc
one_place eq itself (x ∷ ks) d (suc m) (suc n) k e f = ap suc (one_place eq itself ks d.1 m n k e f)

-- what stands in a list stands there when one more is added, if it is
pub stays : {X : Type 0} (b : Bool) (xs : List X) (y : X) (n : ℕ) (x : X) → slice_get xs n ≡ Some x → slice_get (if b then xs else xs ++ y ∷ []) n ≡ Some x
stays true xs y n x e = e
stays false [] y n x e = cc
stays false (z ∷ xs) y zero x e = e
stays false (z ∷ xs) y (suc n) x e = stays false xs y n x e

pub both : (a b : Bool) → (a && b) ≡ true → (a ≡ true) × (b ≡ true)
both true b e = (refl, e)
both false b e = cc

pub all_both : (a b : Bool) → a ≡ true → b ≡ true → (a && b) ≡ true
all_both true b e f = f
all_both false b e f = cc

abbrev key : ℕ → ℕ → ℕ → ℕ → Key
key p e l n = record { phase = p; entity = e; element = l; newest = n }

pub same_key : (a b : Key) → ((a.phase == b.phase) && ((a.entity == b.entity) && ((a.element == b.element) && (a.newest == b.newest)))) ≡ true → a ≡ b
same_key a b e =
    let x = both (a.phase == b.phase) _ e in
    let y = both (a.entity == b.entity) _ x.1 in
    let z = both (a.element == b.element) _ y.1 in
    ap (λ p. key p a.entity a.element a.newest) (eqb-true a.phase b.phase x.0)
    ∙ (ap (λ p. key b.phase p a.element a.newest) (eqb-true a.entity b.entity y.0)
    ∙ (ap (λ p. key b.phase b.entity p a.newest) (eqb-true a.element b.element z.0) ∙ ap (λ p. key b.phase b.entity b.element p) (eqb-true a.newest b.newest z.1)))

pub own_key : (a : Key) → ((a.phase == a.phase) && ((a.entity == a.entity) && ((a.element == a.element) && (a.newest == a.newest)))) ≡ true
own_key a = all_both _ _ (eq-eqb a.phase a.phase refl) (all_both _ _ (eq-eqb a.entity a.entity refl) (all_both _ _ (eq-eqb a.element a.element refl) (eq-eqb a.newest a.newest refl)))

-- the place of a key, counted from a number on
abbrev FindsFrom : ℕ → List Key → Key → Option ℕ → Type 0
FindsFrom i ks k None = (n : ℕ) → slice_get ks n ≡ Some k → ⊥
FindsFrom i ks k (Some m) = (n : ℕ) × ((m ≡ i + n) × (slice_get ks n ≡ Some k))

module _ (eq : Key → Key → Bool) (own : (k : Key) → eq k k ≡ true) (same : (a b : Key) → eq a b ≡ true → a ≡ b) where
  found_more : (i : ℕ) (x : Key) (ks : List Key) (k : Key) (r : Option ℕ) → (x ≡ k → ⊥) → FindsFrom (i + 1) ks k r → FindsFrom i (x ∷ ks) k r
  found_more i x ks k None d f = later
    where
      later : (n : ℕ) → slice_get (x ∷ ks) n ≡ Some k → ⊥
      later zero e = d (some_same x k e)
      later (suc n) e = f n e
  found_more i x ks k (Some m) d (n, (e, g)) = (suc n, (e ∙ sums i n, g))
    where
      sums : (i n : ℕ) → i + 1 + n ≡ i + suc n
      sums i n = omega arith

  found_from : (i : ℕ) (ks : List Key) (k : Key) → FindsFrom i ks k (position_from (eq k) i ks)
  found_from i [] k = λ n e. cc
  found_from i (x ∷ ks) k = by (eq k x) refl (found_from (i + 1) ks k)
    where
      from_none : (i : ℕ) → i ≡ i + 0
      from_none i = omega arith

      clash : (b : Bool) → b ≡ true → b ≡ false → ⊥
      clash b e f = cc

      by : (b : Bool) → eq k x ≡ b → FindsFrom (i + 1) ks k (position_from (eq k) (i + 1) ks) → FindsFrom i (x ∷ ks) k (if b then Some i else position_from (eq k) (i + 1) ks)
      by true e f = (0, (from_none i, ap Some (sym (same k x e))))
      by false e f = found_more i x ks k (position_from (eq k) (i + 1) ks) (λ g. clash (eq k x) (ap (eq k) g ∙ own k) e) f

  found : (ks : List Key) (k : Key) (r : Option ℕ) → FindsFrom 0 ks k r → FindsKeyNumber ks k r
  found ks k None f = f
  found ks k (Some m) (n, (e, g)) = ap (slice_get ks) (e ∙ none n) ∙ g
    where
      none : (n : ℕ) → 0 + n ≡ n
      none n = omega arith

  pub finds : (ks : List Key) (k : Key) (r : Option ℕ) → r ≡ position (eq k) ks → FindsKeyNumber ks k r
  finds ks k r e = subst (λ (o : Option ℕ). FindsKeyNumber ks k o) (sym (e ∙ position_from-zero (eq k) ks)) (found ks k (position_from (eq k) 0 ks) (found_from 0 ks k))

-- and what stands in the longer list is of the list, or the one more
only_more : {X : Type 0} (b : Bool) (xs : List X) (y : X) (n : ℕ) (x : X) → slice_get (if b then xs else xs ++ y ∷ []) n ≡ Some x → (slice_get xs n ≡ Some x) ⊎ (x ≡ y)
only_more true xs y n x e = inl e
only_more false [] y zero x e = inr (sym (some_same y x e))
only_more false [] y (suc n) x e = absurd (none x e)
  where
    none : {X : Type 0} (x : X) → ◌≡◌ {A = Option X} None (Some x) → ⊥
    none x e = cc
only_more false (z ∷ xs) y zero x e = inl e
only_more false (z ∷ xs) y (suc n) x e = only_more false xs y n x e

pub only_there : {X : Type 0} (b : Bool) (xs old new : List X) (y : X) → xs ≡ old → new ≡ (if b then xs else xs ++ y ∷ []) → (n : ℕ) (x : X) → slice_get new n ≡ Some x → (slice_get old n ≡ Some x) ⊎ (x ≡ y)
only_there b xs old new y same more n x at =
    elim (only_more b xs y n x (sym (ap (λ l. slice_get l n) more) ∙ at)) [ inl e ↦ inl (sym (ap (λ l. slice_get l n) same) ∙ e) | inr e ↦ inr e ]
