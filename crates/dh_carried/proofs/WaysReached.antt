-- What is reached through views is among the banks that may be reached there.
use Rattle.std.proofs.Common.{◌≡◌, ℕ, zero, suc, ◌==◌, ◌<◌, ◌&&◌, ◌||◌, ◌⊎◌, inl, inr, Bool, true, false, if◌then◌else◌, List, [], ◌∷◌, take, drop, Option, Some, None, refl, sym, ap, subst, arith}
use Rattle.std.specs.Prelude.{ℤ}
use Rattle.std.proofs.lemmas.Bool.{eq-eqb}
use Rattle.dh_tree.specs.declared.tables.Dim.{Dim}
use Rattle.dh_tree.specs.declared.viewing.ViewMap.{ViewMap}
use Rattle.dh_tree.specs.Elements.{banks_of}
use Rattle.dh_tree.specs.ViewElements.{is_inside, named_by, view_through, where_inside}
use Rattle.dh_viewing.proofs.BankDigits.{bank_at_below}
use Rattle.dh_viewing.proofs.ReachTold.{told_all}
use Rattle.dh_viewing.specs.ReachedBanks.{bank_at, can_reach}
use Rattle.dh_meaning.specs.Effects.{indices_through}
use Rattle.dh_meaning.specs.Ways.{WayStep}
use Rattle.dh_meets.specs.Charges.{any_below, may_reach}
use Rattle.dh_ways.specs.Leading.{StepsLead, next_dims}

-- Below a number.

or_right : (b c : Bool) → c ≡ true → (b || c) ≡ true
or_right true c e = refl
or_right false c e = e

pub any_found : (n m : ℕ) (test : ℕ → Bool) → m < n → test m ≡ true → any_below n test ≡ true
any_found zero m test l e = absurd (none m l)
  where
    none : (m : ℕ) → m < 0 → ⊥
    none m l = omega (arith, l)
any_found (suc n) m test l e = by (split n m l) (λ k. any_found n m test k e)
  where
    split : (n m : ℕ) → m < suc n → (m < n) ⊎ (m ≡ n)
    split n m l = grind (arith, l)

    or_left : (b c : Bool) → b ≡ true → (b || c) ≡ true
    or_left true c e = refl
    or_left false c e = cc

    by : (m < n) ⊎ (m ≡ n) → (m < n → any_below n test ≡ true) → any_below (suc n) test ≡ true
    by (inl k) before = or_left (any_below n test) (test n) (before k)
    by (inr k) before = or_right (any_below n test) (test n) (subst (λ (x : ℕ). test x ≡ true) k e)

-- One step.

module _ (v : ViewMap) (offsets indices : List ℤ) where
  -- the indices were within the view, and these are they of its parent
  pub record Stepped (inner : List ℤ) : Type 0 where
    pub inside : is_inside v.shape.dims indices ≡ true
    pub is : named_by v offsets indices ≡ inner

  stepped : (inner : List ℤ) → view_through v offsets indices ≡ Some inner → Stepped inner
  stepped inner h = by (is_inside v.shape.dims indices) refl h
    where
      by : (b : Bool) → is_inside v.shape.dims indices ≡ b → (if b then Some (named_by v offsets indices) else None) ≡ Some inner → Stepped inner
      by true e same = record { inside = e; is = same_is same }
        where
          same_is : Some (named_by v offsets indices) ≡ Some inner → named_by v offsets indices ≡ inner
          same_is same = cc
      by false e same = absurd (no same)
        where
          no : None ≡ Some inner → ⊥
          no same = cc

-- what follows was reached with some indices
pub record Followed (first : Option (List ℤ)) (follow : List ℤ → Option (List ℤ)) (last : List ℤ) : Type 0 where
  pub inner : List ℤ
  pub is : first ≡ Some inner
  pub rest : follow inner ≡ Some last

followed : (first : Option (List ℤ)) (follow : List ℤ → Option (List ℤ)) (last : List ℤ) → where_inside first follow ≡ Some last → Followed first follow last
followed None follow last h = absurd (no last h)
  where
    no : (last : List ℤ) → None ≡ Some last → ⊥
    no last h = cc
followed (Some inner) follow last h = record { inner = inner; is = refl; rest = h }

-- Ways.

through_first : (ss : List WayStep) (dims : List Dim) (indices offsets last : List ℤ) → indices_through ss indices offsets ≡ Some last → is_inside dims last ≡ true → is_inside (next_dims ss dims) indices ≡ true
through_first [] dims indices offsets last h there = subst (λ (l : List ℤ). is_inside dims l ≡ true) (sym (same indices last h)) there
  where
    same : (one other : List ℤ) → Some one ≡ Some other → one ≡ other
    same one other h = cc
through_first (s ∷ ss) dims indices offsets last h there =
    let f = followed (view_through s.is (take s.offsets offsets) indices) (λ inner. indices_through ss inner (drop s.offsets offsets)) last h in
    (stepped s.is (take s.offsets offsets) indices f.inner f.is).inside

both_true : (b c : Bool) → b ≡ true → c ≡ true → (b && c) ≡ true
both_true true c e f = f
both_true false c e f = cc

pub ways_reach : (ss : List WayStep) (dims : List Dim) (indices offsets last : List ℤ) → StepsLead ss dims → indices_through ss indices offsets ≡ Some last → is_inside dims last ≡ true
    → may_reach ss (bank_at (next_dims ss dims) indices) (bank_at dims last) ≡ true
ways_reach [] dims indices offsets last leads h there = eq-eqb (bank_at dims indices) (bank_at dims last) (ap (λ (l : List ℤ). bank_at dims l) (same indices last h))
  where
    same : (one other : List ℤ) → Some one ≡ Some other → one ≡ other
    same one other h = cc
ways_reach (s ∷ ss) dims indices offsets last leads h there =
    let f = followed (view_through s.is (take s.offsets offsets) indices) (λ inner. indices_through ss inner (drop s.offsets offsets)) last h in
    let one = stepped s.is (take s.offsets offsets) indices f.inner f.is in
    let within : is_inside s.is.parent.dims f.inner ≡ true =
    subst (λ (ds : List Dim). is_inside ds f.inner ≡ true) (sym leads.1.0) (through_first ss dims f.inner (drop s.offsets offsets) last f.rest there)
    in
    let map_is = leads.0 in
    let below = bank_at_below s.is.parent.dims f.inner map_is.parent.dims within in
    let told : can_reach s.is (bank_at s.is.shape.dims indices) (bank_at s.is.parent.dims f.inner) ≡ true =
    told_all s.is.sort s.is.shape.dims s.is.parent.dims s.is.by (take s.offsets offsets) indices (bank_at s.is.shape.dims indices) (bank_at s.is.parent.dims f.inner) map_is.shape map_is.own.dims map_is.parent.dims
    one.inside (subst (λ (l : List ℤ). is_inside s.is.parent.dims l ≡ true) (sym one.is) within) refl (ap (λ (l : List ℤ). bank_at s.is.parent.dims l) one.is)
    in
    let rest : may_reach ss (bank_at s.is.parent.dims f.inner) (bank_at dims last) ≡ true =
    subst (λ (ds : List Dim). may_reach ss (bank_at ds f.inner) (bank_at dims last) ≡ true) (sym leads.1.0) (ways_reach ss dims f.inner (drop s.offsets offsets) last leads.1.1 f.rest there)
    in
    any_found (banks_of s.is.parent.dims) (bank_at s.is.parent.dims f.inner)
    (λ inner. can_reach s.is (bank_at s.is.shape.dims indices) inner && may_reach ss inner (bank_at dims last)) below
    (both_true (can_reach s.is (bank_at s.is.shape.dims indices) (bank_at s.is.parent.dims f.inner)) (may_reach ss (bank_at s.is.parent.dims f.inner) (bank_at dims last)) told rest)
