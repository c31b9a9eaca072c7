-- Courses of incidents one behind the other, and their trees.
use Rattle.std.proofs.Common.{◌≡◌, ℕ, suc, ◌+◌, ◌-◌, ◌<◌, ◌≤◌, ◌==◌, Bool, true, false, if◌then◌else◌, List, [], ◌∷◌, ◌++◌, min, max, refl, ap, sym, ◌∙◌, subst, arith, ◌⊎◌, inl, inr}
use Rattle.std.proofs.lemmas.Bool.{eqb-true, eq-eqb, cases_Bool, cases_lt, or_cases}
use Rattle.std.proofs.Math.Nat.{le_refl}
use Rattle.dh_tree.specs.PlainTrees.{Term}
use Rattle.dh_events.specs.declared.events.Site.{Site}
use Rattle.dh_tree.specs.Meets.{Meets, nothing, access, all, one, In, has, load, upto}
use Rattle.dh_tree.proofs.LargestSums.{in_has, upto_first, upto_second, upto_one_first, upto_one_second}
use Rattle.dh_ports.specs.Levels.{Level, slot_level, begun, kept_back, settled_slot_level}
use Rattle.dh_events.specs.Incidents.{PortEvent, touches, assigned, arm_begins, arm_ends, begins, next, ends}
use Rattle.dh_ports.specs.Courses.{access_count, less, course, before_at, Ties, PartsTie}

absurd : {A : Type 0} → ⊥ → A
absurd e = elim e [ ]

clash : (b : Bool) → b ≡ true → b ≡ false → ⊥
clash b e f = cc

has_in : (t : Meets) (a : ℕ) → has a t ≡ true → In a t
has_in nothing a e = cc
has_in (access b) a e = eqb-true a b e
has_in (all l r) a e = elim (or_cases (has a l) (has a r) e) [ inl x ↦ inl (has_in l a x) | inr x ↦ inr (has_in r a x) ]
has_in (one l r) a e = elim (or_cases (has a l) (has a r) e) [ inl x ↦ inl (has_in l a x) | inr x ↦ inr (has_in r a x) ]

-- sums
shift : (n m : ℕ) → suc n + m ≡ n + suc m
shift n m = omega arith

no_more : (n : ℕ) → n ≡ n + 0
no_more n = omega arith

pub count_append : (xs ys : List PortEvent) → access_count (xs ++ ys) ≡ access_count xs + access_count ys
count_append [] ys = from_none (access_count ys)
  where
    from_none : (n : ℕ) → n ≡ 0 + n
    from_none n = omega arith
count_append (touches a w s ∷ xs) ys = ap suc (count_append xs ys) ∙ more (access_count xs) (access_count ys)
  where
    more : (m n : ℕ) → suc (m + n) ≡ suc m + n
    more m n = omega arith
count_append (assigned e ∷ xs) ys = count_append xs ys
count_append (arm_begins ∷ xs) ys = count_append xs ys
count_append (arm_ends ∷ xs) ys = count_append xs ys
count_append (begins ∷ xs) ys = count_append xs ys
count_append (next ∷ xs) ys = count_append xs ys
count_append (ends ∷ xs) ys = count_append xs ys

pub course_append : (c : ℕ → ℕ) (n : ℕ) (l : Level) (xs ys : List PortEvent) → course c n l (xs ++ ys) ≡ course c (n + access_count xs) (course c n l xs) ys
course_append c n l [] ys = ap (λ m. course c m l ys) (no_more n)
course_append c n l (touches a w s ∷ xs) ys = course_append c (suc n) (less (c n) l) xs ys ∙ ap (λ m. course c m (course c (suc n) (less (c n) l) xs) ys) (shift n (access_count xs))
course_append c n l (assigned e ∷ xs) ys = course_append c n l xs ys
course_append c n l (arm_begins ∷ xs) ys = course_append c n l xs ys
course_append c n l (arm_ends ∷ xs) ys = course_append c n l xs ys
course_append c n l (begins ∷ xs) ys = course_append c n (begun l) xs ys
course_append c n l (next ∷ xs) ys = course_append c n (kept_back l) xs ys
course_append c n l (ends ∷ xs) ys = course_append c n (settled_slot_level (kept_back l)) xs ys

unequal : (n k : ℕ) → (n ≡ k → ⊥) → (n == k) ≡ false
unequal n k none = elim (cases_Bool (n == k)) [ inl e ↦ absurd (none (eqb-true n k e)) | inr e ↦ e ]

same_test : (b : Bool) (x y z : ℕ) → y ≡ z → (if b then x else y) ≡ (if b then x else z)
same_test b x y z e = ap (λ v. if b then x else v) e

pub before_first : (c : ℕ → ℕ) (n : ℕ) (l : Level) (xs ys : List PortEvent) (k : ℕ) → n ≤ k → k < n + access_count xs → before_at c n l (xs ++ ys) k ≡ before_at c n l xs k
before_first c n l [] ys k least most = absurd (none n k least most)
  where
    none : (n k : ℕ) → n ≤ k → k < n + 0 → ⊥
    none n k a b = omega (arith, a, b)
before_first c n l (touches a w s ∷ xs) ys k least most = by_test (cases_Bool (n == k)) (λ a b. before_first c (suc n) (less (c n) l) xs ys k a b)
  where
    more : (n k m : ℕ) → n ≤ k → (n ≡ k → ⊥) → k < n + suc m → (suc n ≤ k) × (k < suc n + m)
    more n k m a none b = elim (cases_lt n k) [ inl d ↦ (omega (arith, d), omega (arith, b)) | inr d ↦ absurd (none (omega (arith, a, d))) ]

    other : n ≡ k → (n == k) ≡ false → ⊥
    other s e = let g : (n == k) ≡ true = eq-eqb n k s in cc

    by_test : ((n == k) ≡ true) ⊎ ((n == k) ≡ false) → (suc n ≤ k → k < suc n + access_count xs → before_at c (suc n) (less (c n) l) (xs ++ ys) k ≡ before_at c (suc n) (less (c n) l) xs k)
        → (if n == k then l.now else before_at c (suc n) (less (c n) l) (xs ++ ys) k) ≡ (if n == k then l.now else before_at c (suc n) (less (c n) l) xs k)
    by_test (inl e) rest = ap (λ b. if b then l.now else before_at c (suc n) (less (c n) l) (xs ++ ys) k) e ∙ sym (ap (λ b. if b then l.now else before_at c (suc n) (less (c n) l) xs k) e)
    by_test (inr e) rest = let m = more n k (access_count xs) least (λ s. other s e) most in same_test (n == k) _ _ _ (rest m.0 m.1)
before_first c n l (assigned e ∷ xs) ys k a b = before_first c n l xs ys k a b
before_first c n l (arm_begins ∷ xs) ys k a b = before_first c n l xs ys k a b
before_first c n l (arm_ends ∷ xs) ys k a b = before_first c n l xs ys k a b
before_first c n l (begins ∷ xs) ys k a b = before_first c n (begun l) xs ys k a b
before_first c n l (next ∷ xs) ys k a b = before_first c n (kept_back l) xs ys k a b
before_first c n l (ends ∷ xs) ys k a b = before_first c n (settled_slot_level (kept_back l)) xs ys k a b

pub before_second : (c : ℕ → ℕ) (n : ℕ) (l : Level) (xs ys : List PortEvent) (k : ℕ) → n + access_count xs ≤ k → before_at c n l (xs ++ ys) k ≡ before_at c (n + access_count xs) (course c n l xs) ys k
before_second c n l [] ys k least = ap (λ m. before_at c m l ys k) (no_more n)
before_second c n l (touches a w s ∷ xs) ys k least =
    ap (λ b. if b then l.now else before_at c (suc n) (less (c n) l) (xs ++ ys) k) (unequal n k (λ s. far n k (access_count xs) least s))
    ∙ (before_second c (suc n) (less (c n) l) xs ys k (subst (λ (m : ℕ). m ≤ k) (sym (shift n (access_count xs))) least)
    ∙ ap (λ m. before_at c m (course c (suc n) (less (c n) l) xs) ys k) (shift n (access_count xs)))
  where
    far : (n k m : ℕ) → n + suc m ≤ k → n ≡ k → ⊥
    far n k m a b = omega (arith, a, b)
before_second c n l (assigned e ∷ xs) ys k a = before_second c n l xs ys k a
before_second c n l (arm_begins ∷ xs) ys k a = before_second c n l xs ys k a
before_second c n l (arm_ends ∷ xs) ys k a = before_second c n l xs ys k a
before_second c n l (begins ∷ xs) ys k a = before_second c n (begun l) xs ys k a
before_second c n l (next ∷ xs) ys k a = before_second c n (kept_back l) xs ys k a
before_second c n l (ends ∷ xs) ys k a = before_second c n (settled_slot_level (kept_back l)) xs ys k a

-- an access has its own charge among those up to it
pub own_upto : (c : ℕ → ℕ) (t : Meets) (k : ℕ) → In k t → c k ≤ upto c k t
own_upto c nothing k i = absurd i
own_upto c (access b) k i = subst (λ (x : ℕ). c k ≤ c x) i (le_refl (c k))
own_upto c (all l r) k i = by_test (cases_Bool (has k l)) (λ j. own_upto c l k j) (λ j. own_upto c r k j)
  where
    more : (x y z : ℕ) → x ≤ z → x ≤ y + z
    more x y z e = omega (arith, e)

    by_test : (has k l ≡ true) ⊎ (has k l ≡ false) → (In k l → c k ≤ upto c k l) → (In k r → c k ≤ upto c k r) → c k ≤ upto c k (all l r)
    by_test (inl e) left right = subst (λ (b : Bool). c k ≤ (if b then upto c k l else load c l + upto c k r)) (sym e) (left (has_in l k e))
    by_test (inr e) left right = subst (λ (b : Bool). c k ≤ (if b then upto c k l else load c l + upto c k r)) (sym e) (more (c k) (load c l) _ (right (elim i [ inl j ↦ absurd (clash (has k l) (in_has l k j) e) | inr j ↦ j ])))
own_upto c (one l r) k i = by_test (cases_Bool (has k l)) (λ j. own_upto c l k j) (λ j. own_upto c r k j)
  where
    by_test : (has k l ≡ true) ⊎ (has k l ≡ false) → (In k l → c k ≤ upto c k l) → (In k r → c k ≤ upto c k r) → c k ≤ upto c k (one l r)
    by_test (inl e) left right = subst (λ (b : Bool). c k ≤ (if b then upto c k l else upto c k r)) (sym e) (left (has_in l k e))
    by_test (inr e) left right = subst (λ (b : Bool). c k ≤ (if b then upto c k l else upto c k r)) (sym e) (right (elim i [ inl j ↦ absurd (clash (has k l) (in_has l k j) e) | inr j ↦ j ]))

-- sums with what is left
two : (x a b : ℕ) → (x - a) - b ≡ x - (a + b)
two x a b = omega arith

own_only : (x a : ℕ) → x ≡ x - (a - a)
own_only x a = omega arith

behind : (x a u c : ℕ) → c ≤ u → (x - a) - (u - c) ≡ x - ((a + u) - c)
behind x a u c e = omega (arith, e)

least_of_parts : (m b x y : ℕ) → min (min m (b - x)) (b - y) ≡ min m (b - max x y)
least_of_parts m b x y = grind arith

module _ (c : ℕ → ℕ) (n : ℕ) where
  -- nothing
  pub ties_nothing : Ties c n [] nothing
  ties_nothing = record { first = λ k i. absurd i; last = λ k i. absurd i; after = λ l. ap (λ m. slot_level m l.base l.low l.outer) (none l.now); during = λ l k i. absurd i }
    where
      none : (x : ℕ) → x ≡ x - 0
      none x = omega arith

  -- one behind the other
  pub ties_all : (xs ys : List PortEvent) (t u : Meets) → Ties c n xs t → Ties c (n + access_count xs) ys u → Ties c n (xs ++ ys) (all t u)
  ties_all xs ys t u f g = record {
    first = λ k i. elim i [ inl j ↦ f.first k j | inr j ↦ below n (access_count xs) k (g.first k j) ];
    last = λ k i. subst (λ (m : ℕ). k < n + m) (sym (count_append xs ys)) (elim i [ inl j ↦ longer n (access_count xs) (access_count ys) k (f.last k j) | inr j ↦ regroup n (access_count xs) (access_count ys) k (g.last k j) ]);
    after = λ l. course_append c n l xs ys ∙ (ap (λ m. course c (n + access_count xs) m ys) (f.after l) ∙ (g.after (less (load c t) l) ∙ ap (λ m. slot_level m l.base l.low l.outer) (two l.now (load c t) (load c u))));
    during = λ l k i. elim i [
      | inl j ↦ before_first c n l xs ys k (f.first k j) (f.last k j) ∙ (f.during l k j ∙ sym (ap (λ v. l.now - (v - c k)) (upto_first c k t u j)))
      | inr j ↦ before_second c n l xs ys k (g.first k j) ∙ (ap (λ m. before_at c (n + access_count xs) m ys k) (f.after l)
          ∙ (g.during (less (load c t) l) k j ∙ (behind l.now (load c t) (upto c k u) (c k) (own_upto c u k j) ∙ sym (ap (λ v. l.now - (v - c k)) (upto_second c k t u (λ x. apart n (access_count xs) k (f.last k x) (g.first k j)))))))
    ];
  }
    where
      below : (n m k : ℕ) → n + m ≤ k → n ≤ k
      below n m k e = omega (arith, e)

      longer : (n m p k : ℕ) → k < n + m → k < n + (m + p)
      longer n m p k e = omega (arith, e)

      regroup : (n m p k : ℕ) → k < n + m + p → k < n + (m + p)
      regroup n m p k e = omega (arith, e)

      apart : (n m k : ℕ) → k < n + m → n + m ≤ k → ⊥
      apart n m k e f = omega (arith, e, f)

  -- parts of a node, from what was left at its begin
  pub parts_none : PartsTie c n [] nothing
  parts_none = record {
    first = λ k i. absurd i;
    last = λ k i. absurd i;
    after = λ l rest low. ap (λ m. slot_level m l.base l.low l.outer) rest ∙ ap (λ m. slot_level l.base l.base m l.outer) (none l.low l.base low);
    during = λ l k rest i. absurd i;
  }
    where
      none : (m b : ℕ) → m ≤ b → m ≡ min m (b - 0)
      none m b e = grind (arith, e)

  pub parts_one : (xs ys : List PortEvent) (t u : Meets) → Ties c n xs t → PartsTie c (n + access_count xs) ys u → PartsTie c n (xs ++ next ∷ ys) (one t u)
  parts_one xs ys t u f g = record {
    first = λ k i. elim i [ inl j ↦ f.first k j | inr j ↦ below n (access_count xs) k (g.first k j) ];
    last = λ k i. subst (λ (m : ℕ). k < n + m) (sym (count_append xs (next ∷ ys))) (elim i [ inl j ↦ longer n (access_count xs) (access_count ys) k (f.last k j) | inr j ↦ regroup n (access_count xs) (access_count ys) k (g.last k j) ]);
    after = λ l rest low. course_append c n l xs (next ∷ ys) ∙ (ap (λ m. course c (n + access_count xs) (kept_back m) ys) (f.after l)
        ∙ (g.after (kept_back (less (load c t) l)) refl (lower l.low (l.now - load c t) l.base low)
        ∙ (ap (λ m. slot_level l.base l.base (min (min l.low (m - load c t)) (l.base - load c u)) l.outer) rest ∙ ap (λ m. slot_level l.base l.base m l.outer) (least_of_parts l.low l.base (load c t) (load c u)))));
    during = λ l k rest i. elim i [
      | inl j ↦ before_first c n l xs (next ∷ ys) k (f.first k j) (f.last k j) ∙ (f.during l k j ∙ (ap (λ m. m - (upto c k t - c k)) rest ∙ sym (ap (λ v. l.base - (v - c k)) (upto_one_first c k t u j))))
      | inr j ↦ before_second c n l xs (next ∷ ys) k (g.first k j) ∙ (ap (λ m. before_at c (n + access_count xs) (kept_back m) ys k) (f.after l)
          ∙ (g.during (kept_back (less (load c t) l)) k refl j ∙ sym (ap (λ v. l.base - (v - c k)) (upto_one_second c k t u (λ x. apart n (access_count xs) k (f.last k x) (g.first k j))))))
    ];
  }
    where
      below : (n m k : ℕ) → n + m ≤ k → n ≤ k
      below n m k e = omega (arith, e)

      longer : (n m p k : ℕ) → k < n + m → k < n + (m + p)
      longer n m p k e = omega (arith, e)

      regroup : (n m p k : ℕ) → k < n + m + p → k < n + (m + p)
      regroup n m p k e = omega (arith, e)

      apart : (n m k : ℕ) → k < n + m → n + m ≤ k → ⊥
      apart n m k e f = omega (arith, e, f)

      lower : (m x b : ℕ) → m ≤ b → min m x ≤ b
      lower m x b e = grind (arith, e)

  -- a node: its parts between its begin and its end
  pub ties_parts : (xs : List PortEvent) (t : Meets) → PartsTie c n xs t → Ties c n (begins ∷ (xs ++ ends ∷ [])) t
  ties_parts xs t f = record {
    first = f.first;
    last = λ k i. subst (λ (m : ℕ). k < n + m) (sym (count_append xs (ends ∷ []))) (longer n (access_count xs) k (f.last k i));
    after = λ l. course_append c n (begun l) xs (ends ∷ []) ∙ (ap (λ m. settled_slot_level (kept_back m)) (f.after (begun l) refl (le_refl l.now)) ∙ ap (λ m. slot_level m l.base l.low l.outer) (taken l.now (load c t)));
    during = λ l k i. before_first c n (begun l) xs (ends ∷ []) k (f.first k i) (f.last k i) ∙ f.during (begun l) k refl i;
  }
    where
      longer : (n m k : ℕ) → k < n + m → k < n + (m + 0)
      longer n m k e = omega (arith, e)

      taken : (x a : ℕ) → min (min x (x - a)) x ≡ x - a
      taken x a = grind arith

  -- the last of two parts has no mark behind it
  pub ties_two : (xs ys : List PortEvent) (t u : Meets) → Ties c n xs t → Ties c (n + access_count xs) ys u → Ties c n (begins ∷ (xs ++ (next ∷ (ys ++ ends ∷ [])))) (one t u)
  ties_two xs ys t u f g = record {
    first = λ k i. elim i [ inl j ↦ f.first k j | inr j ↦ below n (access_count xs) k (g.first k j) ];
    last = λ k i. subst (λ (m : ℕ). k < n + m) (sym (count_append xs (next ∷ (ys ++ ends ∷ [])))) (subst (λ (m : ℕ). k < n + (access_count xs + m)) (sym (count_append ys (ends ∷ []))) (elim i [ inl j ↦ longer n (access_count xs) (access_count ys) k (f.last k j) | inr j ↦ regroup n (access_count xs) (access_count ys) k (g.last k j) ]));
    after = λ l. course_append c n (begun l) xs (next ∷ (ys ++ ends ∷ [])) ∙ (ap (λ m. course c (n + access_count xs) (kept_back m) (ys ++ ends ∷ [])) (f.after (begun l))
        ∙ (course_append c (n + access_count xs) (kept_back (less (load c t) (begun l))) ys (ends ∷ []) ∙ (ap (λ m. settled_slot_level (kept_back m)) (g.after (kept_back (less (load c t) (begun l)))) ∙ ap (λ m. slot_level m l.base l.low l.outer) (both l.now (load c t) (load c u)))));
    during = λ l k i. elim i [
      | inl j ↦ before_first c n (begun l) xs (next ∷ (ys ++ ends ∷ [])) k (f.first k j) (f.last k j) ∙ (f.during (begun l) k j ∙ sym (ap (λ v. l.now - (v - c k)) (upto_one_first c k t u j)))
      | inr j ↦ before_second c n (begun l) xs (next ∷ (ys ++ ends ∷ [])) k (g.first k j) ∙ (ap (λ m. before_at c (n + access_count xs) (kept_back m) (ys ++ ends ∷ []) k) (f.after (begun l))
          ∙ (before_first c (n + access_count xs) (kept_back (less (load c t) (begun l))) ys (ends ∷ []) k (g.first k j) (g.last k j)
          ∙ (g.during (kept_back (less (load c t) (begun l))) k j ∙ sym (ap (λ v. l.now - (v - c k)) (upto_one_second c k t u (λ x. apart n (access_count xs) k (f.last k x) (g.first k j)))))))
    ];
  }
    where
      below : (n m k : ℕ) → n + m ≤ k → n ≤ k
      below n m k e = omega (arith, e)

      longer : (n m p k : ℕ) → k < n + m → k < n + (m + (p + 0))
      longer n m p k e = omega (arith, e)

      regroup : (n m p k : ℕ) → k < n + m + p → k < n + (m + (p + 0))
      regroup n m p k e = omega (arith, e)

      apart : (n m k : ℕ) → k < n + m → n + m ≤ k → ⊥
      apart n m k e f = omega (arith, e, f)

      both : (x a b : ℕ) → min (min x (x - a)) (x - b) ≡ x - max a b
      both x a b = grind arith

  -- one access
  pub ties_access : (t : Term) (writes : Bool) (site : Site) → Ties c n (touches t writes site ∷ []) (access n)
  ties_access t writes site = record {
    first = λ k i. least k i;
    last = λ k i. most k i;
    after = λ l. refl;
    during = λ l k i. ap (λ b. if b then l.now else 0) (eq-eqb n k (sym i)) ∙ (own_only l.now (c n) ∙ ap (λ j. l.now - (c n - c j)) (sym i));
  }
    where
      least : (k : ℕ) → k ≡ n → n ≤ k
      least k e = omega (arith, e)

      most : (k : ℕ) → k ≡ n → k < n + 1
      most k e = omega (arith, e)

  -- what is no access and changes nothing
  pub ties_behind : (xs : List PortEvent) (y : PortEvent) (t : Meets) → access_count (y ∷ []) ≡ 0 → ((m : ℕ) (l : Level) → course c m l (y ∷ []) ≡ l) → Ties c n xs t → Ties c n (xs ++ y ∷ []) t
  ties_behind xs y t none same f = record {
    first = f.first;
    last = λ k i. subst (λ (m : ℕ). k < n + m) (sym (count_append xs (y ∷ []))) (longer n (access_count xs) (access_count (y ∷ [])) k (f.last k i));
    after = λ l. course_append c n l xs (y ∷ []) ∙ (same (n + access_count xs) (course c n l xs) ∙ f.after l);
    during = λ l k i. before_first c n l xs (y ∷ []) k (f.first k i) (f.last k i) ∙ f.during l k i;
  }
    where
      longer : (n m p k : ℕ) → k < n + m → k < n + (m + p)
      longer n m p k e = omega (arith, e)

  -- of a part beside nothing none begins and none ends
  pub ties_single : (xs : List PortEvent) (t : Meets) → Ties c n xs t → Ties c n xs (one t nothing)
  ties_single xs t f = record {
    first = λ k i. elim i [ inl j ↦ f.first k j | inr j ↦ absurd j ];
    last = λ k i. elim i [ inl j ↦ f.last k j | inr j ↦ absurd j ];
    after = λ l. f.after l ∙ ap (λ v. less v l) (alone (load c t));
    during = λ l k i. elim i [ inl j ↦ f.during l k j ∙ sym (ap (λ v. l.now - (v - c k)) (upto_one_first c k t nothing j)) | inr j ↦ absurd j ];
  }
    where
      alone : (x : ℕ) → x ≡ max x 0
      alone x = grind arith
