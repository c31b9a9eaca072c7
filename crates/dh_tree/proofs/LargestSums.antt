-- The load of a tree of accesses is the largest sum of charges of a set any two of which may meet,
-- and the load up to an access the largest such sum of the sets that this access completes.
use Rattle.std.proofs.Common.{◌≡◌, ℕ, ◌+◌, ◌≤◌, ◌<◌, Bool, true, false, ◌==◌, ◌||◌, if◌then◌else◌, ◌⊎◌, inl, inr, max, refl, ap, sym, ◌∙◌, subst, arith}
use Rattle.std.specs.Prelude.{IsTrue}
use Rattle.std.proofs.lemmas.Bool.{eqb-true, eq-eqb, or_cases, cases_Bool, cases_lt}
use Rattle.std.proofs.Math.Bool.{or-true}
use Rattle.std.proofs.Math.Nat.{le_refl, max-eq_left, max-eq_right, le-max_left, le-max_right}
use Rattle.dh_tree.specs.Meets.{Meets, nothing, access, all, one, In, has, Distinct, Apart, Before, Together, total, Completes, load, upto, IsLargest, IsLargestUpto}

absurd : {A : Type 0} → ⊥ → A
absurd e = elim e [ ]

-- what stands apart, or before, stands in the tree
pub apart_left : (t : Meets) (a b : ℕ) → Apart t a b → In a t
apart_left nothing a b e = absurd e
apart_left (access c) a b e = absurd e
apart_left (all l r) a b (inl e) = inl (apart_left l a b e)
apart_left (all l r) a b (inr e) = inr (apart_left r a b e)
apart_left (one l r) a b (inl (inl e)) = inl e.0
apart_left (one l r) a b (inl (inr e)) = inr e.0
apart_left (one l r) a b (inr (inl e)) = inl (apart_left l a b e)
apart_left (one l r) a b (inr (inr e)) = inr (apart_left r a b e)

pub apart_right : (t : Meets) (a b : ℕ) → Apart t a b → In b t
apart_right nothing a b e = absurd e
apart_right (access c) a b e = absurd e
apart_right (all l r) a b (inl e) = inl (apart_right l a b e)
apart_right (all l r) a b (inr e) = inr (apart_right r a b e)
apart_right (one l r) a b (inl (inl e)) = inr e.1
apart_right (one l r) a b (inl (inr e)) = inl e.1
apart_right (one l r) a b (inr (inl e)) = inl (apart_right l a b e)
apart_right (one l r) a b (inr (inr e)) = inr (apart_right r a b e)

pub before_left : (t : Meets) (x a : ℕ) → Before t x a → In x t
before_left nothing x a e = absurd e
before_left (access c) x a e = absurd e
before_left (all l r) x a (inl e) = inl e.0
before_left (all l r) x a (inr (inl e)) = inl (before_left l x a e)
before_left (all l r) x a (inr (inr e)) = inr (before_left r x a e)
before_left (one l r) x a (inl e) = inl e.0
before_left (one l r) x a (inr (inl e)) = inl (before_left l x a e)
before_left (one l r) x a (inr (inr e)) = inr (before_left r x a e)

pub before_right : (t : Meets) (x a : ℕ) → Before t x a → In a t
before_right nothing x a e = absurd e
before_right (access c) x a e = absurd e
before_right (all l r) x a (inl e) = inr e.1
before_right (all l r) x a (inr (inl e)) = inl (before_right l x a e)
before_right (all l r) x a (inr (inr e)) = inr (before_right r x a e)
before_right (one l r) x a (inl e) = inr e.1
before_right (one l r) x a (inr (inl e)) = inl (before_right l x a e)
before_right (one l r) x a (inr (inr e)) = inr (before_right r x a e)

-- the test tells whether an access stands in the tree
or_left : (x y : Bool) → x ≡ true → (x || y) ≡ true
or_left true y e = refl
or_left false y e = cc

or_right : (x y : Bool) → y ≡ true → (x || y) ≡ true
or_right x true e = or-true x
or_right x false e = cc

pub in_has : (t : Meets) (a : ℕ) → In a t → has a t ≡ true
in_has nothing a i = absurd i
in_has (access b) a i = eq-eqb a b i
in_has (all l r) a (inl i) = or_left _ _ (in_has l a i)
in_has (all l r) a (inr i) = or_right _ _ (in_has r a i)
in_has (one l r) a (inl i) = or_left _ _ (in_has l a i)
in_has (one l r) a (inr i) = or_right _ _ (in_has r a i)

has_in : (t : Meets) (a : ℕ) → has a t ≡ true → In a t
has_in nothing a e = cc
has_in (access b) a e = eqb-true a b e
has_in (all l r) a e = elim (or_cases (has a l) (has a r) e) [ inl x ↦ inl (has_in l a x) | inr x ↦ inr (has_in r a x) ]
has_in (one l r) a e = elim (or_cases (has a l) (has a r) e) [ inl x ↦ inl (has_in l a x) | inr x ↦ inr (has_in r a x) ]

pub lacks : (t : Meets) (a : ℕ) → (In a t → ⊥) → has a t ≡ false
lacks t a none = elim (cases_Bool (has a t)) [ inl e ↦ absurd (none (has_in t a e)) | inr e ↦ e ]

-- a set has a member in the tree, or none
abbrev None : (ℕ → Bool) → Meets → Type 0
None chosen t = (a : ℕ) → IsTrue (chosen a) → In a t → ⊥

some_or_none : (chosen : ℕ → Bool) (t : Meets) → ((a : ℕ) × (IsTrue (chosen a) × In a t)) ⊎ None chosen t
some_or_none chosen nothing = inr (λ a c i. i)
some_or_none chosen (access b) = elim (cases_Bool (chosen b)) [ inl e ↦ inl (b, (e, refl)) | inr e ↦ inr (λ a c i. let f : chosen a ≡ chosen b = ap chosen i in cc) ]
some_or_none chosen (all l r) = either (some_or_none chosen l) (some_or_none chosen r)
  where
    either : ((a : ℕ) × (IsTrue (chosen a) × In a l)) ⊎ None chosen l → ((a : ℕ) × (IsTrue (chosen a) × In a r)) ⊎ None chosen r → ((a : ℕ) × (IsTrue (chosen a) × In a (all l r))) ⊎ None chosen (all l r)
    either (inl x) y = inl (x.0, (x.1.0, inl x.1.1))
    either (inr x) (inl y) = inl (y.0, (y.1.0, inr y.1.1))
    either (inr x) (inr y) = inr (λ a c i. elim i [ inl j ↦ x a c j | inr j ↦ y a c j ])
some_or_none chosen (one l r) = either (some_or_none chosen l) (some_or_none chosen r)
  where
    either : ((a : ℕ) × (IsTrue (chosen a) × In a l)) ⊎ None chosen l → ((a : ℕ) × (IsTrue (chosen a) × In a r)) ⊎ None chosen r → ((a : ℕ) × (IsTrue (chosen a) × In a (one l r))) ⊎ None chosen (one l r)
    either (inl x) y = inl (x.0, (x.1.0, inl x.1.1))
    either (inr x) (inl y) = inl (y.0, (y.1.0, inr y.1.1))
    either (inr x) (inr y) = inr (λ a c i. elim i [ inl j ↦ x a c j | inr j ↦ y a c j ])

-- a sum over members of the tree alone
not_chosen : (b : Bool) (n : ℕ) → (b ≡ true → ⊥) → (if b then n else 0) ≡ 0
not_chosen true n none = absurd (none refl)
not_chosen false n none = refl

sums : (a b c d : ℕ) → a ≡ c → b ≡ d → a + b ≡ c + d
sums a b c d e f = omega (arith, e, f)

none_total : (charge : ℕ → ℕ) (chosen : ℕ → Bool) (t : Meets) → None chosen t → total charge chosen t ≡ 0
none_total charge chosen nothing none = refl
none_total charge chosen (access b) none = not_chosen (chosen b) (charge b) (λ e. none b e refl)
none_total charge chosen (all l r) none = sums _ _ 0 0 (none_total charge chosen l (λ a c i. none a c (inl i))) (none_total charge chosen r (λ a c i. none a c (inr i)))
none_total charge chosen (one l r) none = sums _ _ 0 0 (none_total charge chosen l (λ a c i. none a c (inl i))) (none_total charge chosen r (λ a c i. none a c (inr i)))

pub total_same : (charge : ℕ → ℕ) (c d : ℕ → Bool) (t : Meets) → ((x : ℕ) → In x t → c x ≡ d x) → total charge c t ≡ total charge d t
total_same charge c d nothing same = refl
total_same charge c d (access b) same = ap (λ x. if x then charge b else 0) (same b refl)
total_same charge c d (all l r) same = sums _ _ _ _ (total_same charge c d l (λ x i. same x (inl i))) (total_same charge c d r (λ x i. same x (inr i)))
total_same charge c d (one l r) same = sums _ _ _ _ (total_same charge c d l (λ x i. same x (inl i))) (total_same charge c d r (λ x i. same x (inr i)))

-- no set that is together is beyond the load
pick_most : (b : Bool) (n : ℕ) → (if b then n else 0) ≤ n
pick_most true n = le_refl n
pick_most false n = omega arith

below_left : (a b l r : ℕ) → a ≤ l → b ≡ 0 → a + b ≤ max l r
below_left a b l r x y = let m = le-max_left l r in omega (arith, x, y, m)

below_right : (a b l r : ℕ) → a ≡ 0 → b ≤ r → a + b ≤ max l r
below_right a b l r x y = let m = le-max_right l r in omega (arith, x, y, m)

both_below : (a b l r : ℕ) → a ≤ l → b ≤ r → a + b ≤ l + r
both_below a b l r x y = omega (arith, x, y)

pub load_most : (charge : ℕ → ℕ) (chosen : ℕ → Bool) (t : Meets) → Together t chosen → total charge chosen t ≤ load charge t
load_most charge chosen nothing together = le_refl 0
load_most charge chosen (access b) together = pick_most (chosen b) (charge b)
load_most charge chosen (all l r) together =
    both_below _ _ _ _ (load_most charge chosen l (λ a b c d e. together a b c d (inl e))) (load_most charge chosen r (λ a b c d e. together a b c d (inr e)))
load_most charge chosen (one l r) together =
    elim (some_or_none chosen l) [
      | inl s ↦ below_left _ _ _ _ (load_most charge chosen l (λ a b c d e. together a b c d (inr (inl e)))) (none_total charge chosen r (λ b c i. together s.0 b s.1.0 c (inl (inl (s.1.1, i)))))
      | inr none ↦ below_right _ _ _ _ (none_total charge chosen l none) (load_most charge chosen r (λ a b c d e. together a b c d (inr (inr e))))
    ]

-- sets of members of the tree alone
pub record Reaches (charge : ℕ → ℕ) (t : Meets) (n : ℕ) : Type 0 where
  pub chosen : ℕ → Bool
  pub only : (x : ℕ) → IsTrue (chosen x) → In x t
  pub together : Together t chosen
  pub sum : total charge chosen t ≡ n

-- two sets of the parts of a node, together
abbrev joint : (ℕ → Bool) → (ℕ → Bool) → ℕ → Bool
joint c d x = c x || d x

untrue : (b : Bool) → (b ≡ true → ⊥) → b ≡ false
untrue true none = absurd (none refl)
untrue false none = refl

or_false : (x y : Bool) → y ≡ false → (x || y) ≡ x
or_false true y e = refl
or_false false y e = e

false_or : (x y : Bool) → x ≡ false → (x || y) ≡ y
false_or true y e = cc
false_or false y e = refl

module _ (l r : Meets) (disjoint : (a : ℕ) → In a l → In a r → ⊥) (c d : ℕ → Bool) (in_l : (x : ℕ) → IsTrue (c x) → In x l) (in_r : (x : ℕ) → IsTrue (d x) → In x r) where
  joint_l : (x : ℕ) → In x l → joint c d x ≡ c x
  joint_l x i = or_false (c x) (d x) (untrue (d x) (λ e. disjoint x i (in_r x e)))

  joint_r : (x : ℕ) → In x r → joint c d x ≡ d x
  joint_r x i = false_or (c x) (d x) (untrue (c x) (λ e. disjoint x (in_l x e) i))

  joint_total : (charge : ℕ → ℕ) → total charge (joint c d) l + total charge (joint c d) r ≡ total charge c l + total charge d r
  joint_total charge = sums _ _ _ _ (total_same charge (joint c d) c l joint_l) (total_same charge (joint c d) d r joint_r)

  joint_only : (x : ℕ) → IsTrue (joint c d x) → In x l ⊎ In x r
  joint_only x e = elim (or_cases (c x) (d x) e) [ inl f ↦ inl (in_l x f) | inr f ↦ inr (in_r x f) ]

  joint_together : Together l c → Together r d → Together (all l r) (joint c d)
  joint_together tl tr a b e f (inl p) = tl a b (sym (joint_l a (apart_left l a b p)) ∙ e) (sym (joint_l b (apart_right l a b p)) ∙ f) p
  joint_together tl tr a b e f (inr p) = tr a b (sym (joint_r a (apart_left r a b p)) ∙ e) (sym (joint_r b (apart_right r a b p)) ∙ f) p

-- a set of one part of a node
only_left_total : (charge : ℕ → ℕ) (l r : Meets) (disjoint : (a : ℕ) → In a l → In a r → ⊥) (c : ℕ → Bool) → ((x : ℕ) → IsTrue (c x) → In x l) → total charge c r ≡ 0
only_left_total charge l r disjoint c in_l = none_total charge c r (λ a e i. disjoint a (in_l a e) i)

only_right_total : (charge : ℕ → ℕ) (l r : Meets) (disjoint : (a : ℕ) → In a l → In a r → ⊥) (c : ℕ → Bool) → ((x : ℕ) → IsTrue (c x) → In x r) → total charge c l ≡ 0
only_right_total charge l r disjoint c in_r = none_total charge c l (λ a e i. disjoint a i (in_r a e))

left_together : (l r : Meets) (disjoint : (a : ℕ) → In a l → In a r → ⊥) (c : ℕ → Bool) → ((x : ℕ) → IsTrue (c x) → In x l) → Together l c → Together (one l r) c
left_together l r disjoint c in_l t a b e f (inl (inl p)) = disjoint b (in_l b f) p.1
left_together l r disjoint c in_l t a b e f (inl (inr p)) = disjoint a (in_l a e) p.0
left_together l r disjoint c in_l t a b e f (inr (inl p)) = t a b e f p
left_together l r disjoint c in_l t a b e f (inr (inr p)) = disjoint a (in_l a e) (apart_left r a b p)

right_together : (l r : Meets) (disjoint : (a : ℕ) → In a l → In a r → ⊥) (c : ℕ → Bool) → ((x : ℕ) → IsTrue (c x) → In x r) → Together r c → Together (one l r) c
right_together l r disjoint c in_r t a b e f (inl (inl p)) = disjoint a p.0 (in_r a e)
right_together l r disjoint c in_r t a b e f (inl (inr p)) = disjoint b p.1 (in_r b f)
right_together l r disjoint c in_r t a b e f (inr (inl p)) = disjoint a (apart_left l a b p) (in_r a e)
right_together l r disjoint c in_r t a b e f (inr (inr p)) = t a b e f p

if_same : (n : ℕ) (a : ℕ) → (if a == a then n else 0) ≡ n
if_same n a = ap (λ b. if b then n else 0) (eq-eqb a a refl)

pub load_reached : (charge : ℕ → ℕ) (t : Meets) → Distinct t → Reaches charge t (load charge t)
load_reached charge nothing d = record { chosen = λ x. false; only = λ x e. cc; together = λ a b e f p. p; sum = refl }
load_reached charge (access b) d = record { chosen = λ x. x == b; only = λ x e. eqb-true x b e; together = λ a b e f p. p; sum = if_same (charge b) b }
load_reached charge (all l r) d =
    let x = load_reached charge l d.0.0 in
    let y = load_reached charge r d.0.1 in
    record {
      chosen = joint x.chosen y.chosen;
      only = joint_only l r d.1 x.chosen y.chosen x.only y.only;
      together = joint_together l r d.1 x.chosen y.chosen x.only y.only x.together y.together;
      sum = joint_total l r d.1 x.chosen y.chosen x.only y.only charge ∙ sums _ _ _ _ x.sum y.sum;
    }
load_reached charge (one l r) d =
    let x = load_reached charge l d.0.0 in
    let y = load_reached charge r d.0.1 in
    elim (cases_lt (load charge l) (load charge r)) [
      | inr small ↦ record {
        chosen = x.chosen;
        only = λ k e. inl (x.only k e);
        together = left_together l r d.1 x.chosen x.only x.together;
        sum = left_sum _ _ _ _ x.sum (only_left_total charge l r d.1 x.chosen x.only) small;
      }
      | inl large ↦ record {
        chosen = y.chosen;
        only = λ k e. inr (y.only k e);
        together = right_together l r d.1 y.chosen y.only y.together;
        sum = right_sum _ _ _ _ y.sum (only_right_total charge l r d.1 y.chosen y.only) (lt_le large);
      }
    ]
  where
    lt_le : {m n : ℕ} → m < n → m ≤ n
    lt_le s = omega (arith, s)

    left_sum : (a b m n : ℕ) → a ≡ m → b ≡ 0 → n ≤ m → a + b ≡ max m n
    left_sum a b m n e f s = let x : a + b ≡ m = omega (arith, e, f) in x ∙ sym (max-eq_left s)

    right_sum : (a b m n : ℕ) → b ≡ n → a ≡ 0 → m ≤ n → a + b ≡ max m n
    right_sum a b m n e f s = let x : a + b ≡ n = omega (arith, e, f) in x ∙ sym (max-eq_right s)

pub load_is_largest : (charge : ℕ → ℕ) (t : Meets) → Distinct t → IsLargest charge t (load charge t)
load_is_largest charge t d =
    let x = load_reached charge t d in
    record { most = λ chosen together. load_most charge chosen t together; attained = (x.chosen, (x.together, x.sum)) }

-- the load up to an access, by the part in which it stands
pub upto_first : (charge : ℕ → ℕ) (a : ℕ) (l r : Meets) → In a l → upto charge a (all l r) ≡ upto charge a l
upto_first charge a l r i = ap (λ b. if b then upto charge a l else load charge l + upto charge a r) (in_has l a i)

pub upto_second : (charge : ℕ → ℕ) (a : ℕ) (l r : Meets) → (In a l → ⊥) → upto charge a (all l r) ≡ load charge l + upto charge a r
upto_second charge a l r none = ap (λ b. if b then upto charge a l else load charge l + upto charge a r) (lacks l a none)

pub upto_one_first : (charge : ℕ → ℕ) (a : ℕ) (l r : Meets) → In a l → upto charge a (one l r) ≡ upto charge a l
upto_one_first charge a l r i = ap (λ b. if b then upto charge a l else upto charge a r) (in_has l a i)

pub upto_one_second : (charge : ℕ → ℕ) (a : ℕ) (l r : Meets) → (In a l → ⊥) → upto charge a (one l r) ≡ upto charge a r
upto_one_second charge a l r none = ap (λ b. if b then upto charge a l else upto charge a r) (lacks l a none)

-- what stands before an access, by the part in which it stands
module _ (l r : Meets) (disjoint : (a : ℕ) → In a l → In a r → ⊥) (a : ℕ) where
  not_after : (x : ℕ) → In a l → In x r → (x ≡ a) ⊎ ((In x l × In a r) ⊎ (Before l x a ⊎ Before r x a)) → ⊥
  not_after x i j (inl e) = disjoint a i (subst (λ (k : ℕ). In k r) e j)
  not_after x i j (inr (inl p)) = disjoint a i p.1
  not_after x i j (inr (inr (inl p))) = disjoint x (before_left l x a p) j
  not_after x i j (inr (inr (inr p))) = disjoint a i (before_right r x a p)

  within_left : (x : ℕ) → In a l → In x l → (x ≡ a) ⊎ ((In x l × In a r) ⊎ (Before l x a ⊎ Before r x a)) → (x ≡ a) ⊎ Before l x a
  within_left x i j (inl e) = inl e
  within_left x i j (inr (inl p)) = absurd (disjoint a i p.1)
  within_left x i j (inr (inr (inl p))) = inr p
  within_left x i j (inr (inr (inr p))) = absurd (disjoint a i (before_right r x a p))

  within_right : (x : ℕ) → In a r → In x r → (x ≡ a) ⊎ ((In x l × In a r) ⊎ (Before l x a ⊎ Before r x a)) → (x ≡ a) ⊎ Before r x a
  within_right x i j (inl e) = inl e
  within_right x i j (inr (inl p)) = absurd (disjoint x p.0 j)
  within_right x i j (inr (inr (inl p))) = absurd (disjoint a (before_right l x a p) i)
  within_right x i j (inr (inr (inr p))) = inr p

left_zero : (a b u v : ℕ) → a ≤ u → b ≡ 0 → v ≡ u → a + b ≤ v
left_zero a b u v x y z = omega (arith, x, y, z)

right_zero : (a b u v : ℕ) → a ≡ 0 → b ≤ u → v ≡ u → a + b ≤ v
right_zero a b u v x y z = omega (arith, x, y, z)

both_most : (a b u w v : ℕ) → a ≤ u → b ≤ w → v ≡ u + w → a + b ≤ v
both_most a b u w v x y z = omega (arith, x, y, z)

pub upto_most : (charge : ℕ → ℕ) (a : ℕ) (chosen : ℕ → Bool) (t : Meets) → Distinct t → In a t → Completes t a chosen → total charge chosen t ≤ upto charge a t
upto_most charge a chosen nothing d i c = absurd i
upto_most charge a chosen (access b) d i c = pick_most (chosen b) (charge b)
upto_most charge a chosen (all l r) d (inl i) c =
    left_zero _ _ _ _
    (upto_most charge a chosen l d.0.0 i (record { last = c.last; together = λ x y e f p. c.together x y e f (inl p); no_later = λ x e j. within_left l r d.1 a x i j (c.no_later x e (inl j)) }))
    (none_total charge chosen r (λ x e j. not_after l r d.1 a x i j (c.no_later x e (inr j))))
    (upto_first charge a l r i)
upto_most charge a chosen (all l r) d (inr i) c =
    both_most _ _ _ _ _
    (load_most charge chosen l (λ x y e f p. c.together x y e f (inl p)))
    (upto_most charge a chosen r d.0.1 i (record { last = c.last; together = λ x y e f p. c.together x y e f (inr p); no_later = λ x e j. within_right l r d.1 a x i j (c.no_later x e (inr j)) }))
    (upto_second charge a l r (λ j. d.1 a j i))
upto_most charge a chosen (one l r) d (inl i) c =
    left_zero _ _ _ _
    (upto_most charge a chosen l d.0.0 i (record { last = c.last; together = λ x y e f p. c.together x y e f (inr (inl p)); no_later = λ x e j. within_left l r d.1 a x i j (c.no_later x e (inl j)) }))
    (none_total charge chosen r (λ x e j. c.together a x c.last e (inl (inl (i, j)))))
    (upto_one_first charge a l r i)
upto_most charge a chosen (one l r) d (inr i) c =
    right_zero _ _ _ _
    (none_total charge chosen l (λ x e j. c.together x a e c.last (inl (inl (j, i)))))
    (upto_most charge a chosen r d.0.1 i (record { last = c.last; together = λ x y e f p. c.together x y e f (inr (inr p)); no_later = λ x e j. within_right l r d.1 a x i j (c.no_later x e (inr j)) }))
    (upto_one_second charge a l r (λ j. d.1 a j i))

pub record ReachesUpto (charge : ℕ → ℕ) (t : Meets) (a n : ℕ) : Type 0 where
  pub chosen : ℕ → Bool
  pub only : (x : ℕ) → IsTrue (chosen x) → In x t
  pub completes : Completes t a chosen
  pub sum : total charge chosen t ≡ n

later_left : (l r : Meets) (x a : ℕ) → (x ≡ a) ⊎ Before l x a → (x ≡ a) ⊎ Before (all l r) x a
later_left l r x a (inl e) = inl e
later_left l r x a (inr p) = inr (inr (inl p))

later_right : (l r : Meets) (x a : ℕ) → (x ≡ a) ⊎ Before r x a → (x ≡ a) ⊎ Before (all l r) x a
later_right l r x a (inl e) = inl e
later_right l r x a (inr p) = inr (inr (inr p))

-- a set that an access of the left part completes, in the node
left_completes : (l r : Meets) (a : ℕ) (disjoint : (k : ℕ) → In k l → In k r → ⊥) (c : ℕ → Bool) → ((x : ℕ) → IsTrue (c x) → In x l) → Completes l a c → Completes (all l r) a c
left_completes l r a disjoint c only k = record {
  last = k.last;
  together = λ x y e f p. elim p [ inl q ↦ k.together x y e f q | inr q ↦ disjoint x (only x e) (apart_left r x y q) ];
  no_later = λ x e j. later_left l r x a (k.no_later x e (only x e));
}

both_completes : (l r : Meets) (a : ℕ) (disjoint : (k : ℕ) → In k l → In k r → ⊥) (c d : ℕ → Bool) → ((x : ℕ) → IsTrue (c x) → In x l) → ((x : ℕ) → IsTrue (d x) → In x r) → Together l c → In a r → Completes r a d → Completes (all l r) a (joint c d)
both_completes l r a disjoint c d in_l in_r together i k = record {
  last = or_right (c a) (d a) k.last;
  together = joint_together l r disjoint c d in_l in_r together k.together;
  no_later = λ x e j. elim (or_cases (c x) (d x) e) [ inl f ↦ inr (inl (in_l x f, i)) | inr f ↦ later_right l r x a (k.no_later x f (in_r x f)) ];
}

left_one_completes : (l r : Meets) (a : ℕ) (disjoint : (k : ℕ) → In k l → In k r → ⊥) (c : ℕ → Bool) → ((x : ℕ) → IsTrue (c x) → In x l) → Completes l a c → Completes (one l r) a c
left_one_completes l r a disjoint c only k = record {
  last = k.last;
  together = left_together l r disjoint c only k.together;
  no_later = λ x e j. later_left l r x a (k.no_later x e (only x e));
}

right_one_completes : (l r : Meets) (a : ℕ) (disjoint : (k : ℕ) → In k l → In k r → ⊥) (c : ℕ → Bool) → ((x : ℕ) → IsTrue (c x) → In x r) → Completes r a c → Completes (one l r) a c
right_one_completes l r a disjoint c only k = record {
  last = k.last;
  together = right_together l r disjoint c only k.together;
  no_later = λ x e j. later_right l r x a (k.no_later x e (only x e));
}

left_is : (a b u v : ℕ) → a ≡ u → b ≡ 0 → v ≡ u → a + b ≡ v
left_is a b u v x y z = omega (arith, x, y, z)

right_is : (a b u v : ℕ) → a ≡ 0 → b ≡ u → v ≡ u → a + b ≡ v
right_is a b u v x y z = omega (arith, x, y, z)

pub upto_reached : (charge : ℕ → ℕ) (a : ℕ) (t : Meets) → Distinct t → In a t → ReachesUpto charge t a (upto charge a t)
upto_reached charge a nothing d i = absurd i
upto_reached charge a (access b) d i = record {
  chosen = λ x. x == b;
  only = λ x e. eqb-true x b e;
  completes = record { last = eq-eqb a b i; together = λ x y e f p. p; no_later = λ x e j. inl (eqb-true x b e ∙ sym i) };
  sum = if_same (charge b) b;
}
upto_reached charge a (all l r) d (inl i) =
    let x = upto_reached charge a l d.0.0 i in
    record {
      chosen = x.chosen;
      only = λ k e. inl (x.only k e);
      completes = left_completes l r a d.1 x.chosen x.only x.completes;
      sum = left_is _ _ _ _ x.sum (only_left_total charge l r d.1 x.chosen x.only) (upto_first charge a l r i);
    }
upto_reached charge a (all l r) d (inr i) =
    let x = load_reached charge l d.0.0 in
    let y = upto_reached charge a r d.0.1 i in
    record {
      chosen = joint x.chosen y.chosen;
      only = joint_only l r d.1 x.chosen y.chosen x.only y.only;
      completes = both_completes l r a d.1 x.chosen y.chosen x.only y.only x.together i y.completes;
      sum = joint_total l r d.1 x.chosen y.chosen x.only y.only charge ∙ (sums _ _ _ _ x.sum y.sum ∙ sym (upto_second charge a l r (λ j. d.1 a j i)));
    }
upto_reached charge a (one l r) d (inl i) =
    let x = upto_reached charge a l d.0.0 i in
    record {
      chosen = x.chosen;
      only = λ k e. inl (x.only k e);
      completes = left_one_completes l r a d.1 x.chosen x.only x.completes;
      sum = left_is _ _ _ _ x.sum (only_left_total charge l r d.1 x.chosen x.only) (upto_one_first charge a l r i);
    }
upto_reached charge a (one l r) d (inr i) =
    let y = upto_reached charge a r d.0.1 i in
    record {
      chosen = y.chosen;
      only = λ k e. inr (y.only k e);
      completes = right_one_completes l r a d.1 y.chosen y.only y.completes;
      sum = right_is _ _ _ _ (only_right_total charge l r d.1 y.chosen y.only) y.sum (upto_one_second charge a l r (λ j. d.1 a j i));
    }

pub upto_is_largest : (charge : ℕ → ℕ) (t : Meets) (a : ℕ) → Distinct t → In a t → IsLargestUpto charge t a (upto charge a t)
upto_is_largest charge t a d i =
    let x = upto_reached charge a t d i in
    record { most = λ chosen c. upto_most charge a chosen t d i c; attained = (x.chosen, (x.completes, x.sum)) }
