-- What is left of a slot before the steps of an access is what the course of all that is taken of it leaves.
use Rattle.std.proofs.Common.{◌≡◌, ℕ, zero, suc, ◌+◌, ◌-◌, ◌<◌, ◌≤◌, ◌==◌, true, false, if◌then◌else◌, List, [], ◌∷◌, ◌++◌, length, take, refl, ap, sym, ◌∙◌, arith, ◌⊎◌, inl, inr}
use Rattle.std.specs.Prelude.{Some, slice_get}
use Rattle.std.proofs.lemmas.Bool.{eqb-true, eq-eqb, cases_Bool, cases_lt}
use Rattle.dh_ports.specs.declared.levels.Step.{Step}
use Rattle.dh_ports.specs.declared.levels.Step.TheVariants as step
use Rattle.dh_events.specs.Incidents.{PortEvent, touches, assigned, arm_begins, arm_ends, begins, next, ends}
use Rattle.dh_ports.specs.Levels.{Level, slot_level, begun, kept_back, settled_slot_level, taken, advance, left_before, left_before_each}
use Rattle.dh_ports.specs.Courses.{access_count, less, before_at}
use Rattle.dh_ports.specs.Expanded.{level_behind, taken_by, all_taken, IsTaking, AreTaking, expand, steps_before}

absurd : {A : Type 0} → ⊥ → A
absurd e = elim e [ ]

-- the level before each step
pub left_at : (levels : ℕ → Level) (ss : List Step) (i : ℕ) (s : Step) → slice_get ss i ≡ Some s → slice_get (left_before_each levels ss) i ≡ Some (left_before s (λ slot. level_behind slot (levels slot) (take i ss)))
left_at levels [] i s e = cc
left_at levels (x ∷ ss) zero s e = let same : x ≡ s = some_is x s e in ap (λ y. Some (left_before y levels)) same
  where
    some_is : (x y : Step) → Some x ≡ Some y → x ≡ y
    some_is x y e = cc
left_at levels (x ∷ ss) (suc i) s e = left_at (λ slot. advance slot x (levels slot)) ss i s e

behind_append : (slot : ℕ) (l : Level) (xs ys : List Step) → level_behind slot l (xs ++ ys) ≡ level_behind slot (level_behind slot l xs) ys
behind_append slot l [] ys = refl
behind_append slot l (x ∷ xs) ys = behind_append slot (advance slot x l) xs ys

two : (x a b : ℕ) → (x - a) - b ≡ x - (a + b)
two x a b = omega arith

none_less : (x : ℕ) → x ≡ x - 0
none_less x = omega arith

one_taken : (slot : ℕ) (s : Step) (l : Level) → IsTaking s → advance slot s l ≡ less (taken_by slot s) l
one_taken slot (step.Access other takes) l i = by_test (cases_Bool (other == slot))
  where
    by_test : ((other == slot) ≡ true) ⊎ ((other == slot) ≡ false) → taken other takes slot l ≡ less (if other == slot then takes else 0) l
    by_test (inl e) = ap (λ b. if b then slot_level (l.now - takes) l.base l.low l.outer else l) e ∙ sym (ap (λ b. less (if b then takes else 0) l) e)
    by_test (inr e) = ap (λ b. if b then slot_level (l.now - takes) l.base l.low l.outer else l) e ∙ (ap (λ n. slot_level n l.base l.low l.outer) (none_less l.now) ∙ sym (ap (λ b. less (if b then takes else 0) l) e))
one_taken slot step.Other l i = ap (λ n. slot_level n l.base l.low l.outer) (none_less l.now)
one_taken slot step.Begin l i = absurd i
one_taken slot step.Next l i = absurd i
one_taken slot step.End l i = absurd i
one_taken slot step.Back l i = absurd i

pub steps_taken : (slot : ℕ) (ss : List Step) (l : Level) → AreTaking ss → level_behind slot l ss ≡ less (all_taken slot ss) l
steps_taken slot [] l i = ap (λ n. slot_level n l.base l.low l.outer) (none_less l.now)
steps_taken slot (s ∷ ss) l i =
    ap (λ m. level_behind slot m ss) (one_taken slot s l i.0)
    ∙ (steps_taken slot ss (less (taken_by slot s) l) i.1 ∙ ap (λ n. slot_level n l.base l.low l.outer) (two l.now (taken_by slot s) (all_taken slot ss)))

taking_taken : (ss : List Step) (j : ℕ) → AreTaking ss → AreTaking (take j ss)
taking_taken [] zero i = tt
taking_taken [] (suc j) i = tt
taking_taken (s ∷ ss) zero i = tt
taking_taken (s ∷ ss) (suc j) i = (i.0, taking_taken ss j i.1)

taking_both : (xs ys : List Step) → AreTaking xs → AreTaking ys → AreTaking (xs ++ ys)
taking_both [] ys i j = j
taking_both (x ∷ xs) ys i j = (i.0, taking_both xs ys i.1 j)

get_first : (xs ys : List Step) (j : ℕ) (s : Step) → slice_get xs j ≡ Some s → slice_get (xs ++ ys) j ≡ Some s
get_first [] ys j s e = cc
get_first (x ∷ xs) ys zero s e = e
get_first (x ∷ xs) ys (suc j) s e = get_first xs ys j s e

take_first : (xs ys : List Step) (j : ℕ) (s : Step) → slice_get xs j ≡ Some s → take j (xs ++ ys) ≡ take j xs
take_first [] ys j s e = cc
take_first (x ∷ xs) ys zero s e = refl
take_first (x ∷ xs) ys (suc j) s e = ap (λ l. x ∷ l) (take_first xs ys j s e)

-- behind a first list
get_second : (xs ys : List Step) (i m : ℕ) → m ≡ length xs + i → slice_get (xs ++ ys) m ≡ slice_get ys i
get_second [] ys i m e = ap (slice_get ys) (from_none m i e)
  where
    from_none : (m i : ℕ) → m ≡ 0 + i → m ≡ i
    from_none m i e = omega (arith, e)
get_second (x ∷ xs) ys i zero e = absurd (some (length xs) i e)
  where
    some : (n i : ℕ) → 0 ≡ suc n + i → ⊥
    some n i e = omega (arith, e)
get_second (x ∷ xs) ys i (suc m) e = get_second xs ys i m (less_one m (length xs) i e)
  where
    less_one : (m n i : ℕ) → suc m ≡ suc n + i → m ≡ n + i
    less_one m n i e = omega (arith, e)

take_second : (xs ys : List Step) (i m : ℕ) → m ≡ length xs + i → take m (xs ++ ys) ≡ xs ++ take i ys
take_second [] ys i m e = ap (λ n. take n ys) (from_none m i e)
  where
    from_none : (m i : ℕ) → m ≡ 0 + i → m ≡ i
    from_none m i e = omega (arith, e)
take_second (x ∷ xs) ys i zero e = absurd (some (length xs) i e)
  where
    some : (n i : ℕ) → 0 ≡ suc n + i → ⊥
    some n i e = omega (arith, e)
take_second (x ∷ xs) ys i (suc m) e = ap (λ l. x ∷ l) (take_second xs ys i m (less_one m (length xs) i e))
  where
    less_one : (m n i : ℕ) → suc m ≡ suc n + i → m ≡ n + i
    less_one m n i e = omega (arith, e)

unequal : (n k : ℕ) → (n ≡ k → ⊥) → (n == k) ≡ false
unequal n k none = elim (cases_Bool (n == k)) [ inl e ↦ absurd (none (eqb-true n k e)) | inr e ↦ e ]

module _ (f : ℕ → List Step) (taking : (k : ℕ) → AreTaking (f k)) (slot : ℕ) where
  -- what is taken of the slot by each access
  abbrev takes_of : ℕ → ℕ
  takes_of k = all_taken slot (f k)

  -- the step j of access k, and what is left before it where nothing of the slot was taken by the steps before it
  pub record Placed (n : ℕ) (l : Level) (xs : List PortEvent) (k j : ℕ) (s : Step) (i : ℕ) : Type 0 where
    pub stands : slice_get (expand f n xs) i ≡ Some s
    pub left : all_taken slot (take j (f k)) ≡ 0 → (level_behind slot l (take i (expand f n xs))).now ≡ before_at takes_of n l xs k

  pub placed : (n : ℕ) (l : Level) (xs : List PortEvent) (k j : ℕ) (s : Step) (i : ℕ) → n ≤ k → k < n + access_count xs → slice_get (f k) j ≡ Some s → i ≡ steps_before f n xs k + j → Placed n l xs k j s i
  placed n l [] k j s i least most is at = absurd (none n k least most)
    where
      none : (n k : ℕ) → n ≤ k → k < n + 0 → ⊥
      none n k a b = omega (arith, a, b)
  placed n l (touches t w site ∷ xs) k j s i least most is at =
      by_test (cases_Bool (n == k)) (λ m a b e. placed (suc n) (less (takes_of n) l) xs k j s m a b is e)
    where
      more : (n k m : ℕ) → n ≤ k → (n ≡ k → ⊥) → k < n + suc m → (suc n ≤ k) × (k < suc n + m)
      more n k m a none b = elim (cases_lt n k) [ inl d ↦ (omega (arith, d), omega (arith, b)) | inr d ↦ absurd (none (omega (arith, a, d))) ]

      other : n ≡ k → (n == k) ≡ false → ⊥
      other q e = let g : (n == k) ≡ true = eq-eqb n k q in cc

      only : (m : ℕ) → 0 + m ≡ m
      only m = omega arith

      grouped : (a b c : ℕ) → (a + b) + c ≡ a + (b + c)
      grouped a b c = omega arith

      by_test : ((n == k) ≡ true) ⊎ ((n == k) ≡ false)
          → ((m : ℕ) → suc n ≤ k → k < suc n + access_count xs → m ≡ steps_before f (suc n) xs k + j → Placed (suc n) (less (takes_of n) l) xs k j s m)
          → Placed n l (touches t w site ∷ xs) k j s i
      by_test (inl e) rest =
          let same : n ≡ k = eqb-true n k e in
          let here : i ≡ j = at ∙ (ap (λ b. (if b then 0 else length (f n) + steps_before f (suc n) xs k) + j) e ∙ only j) in
          let own : slice_get (f n) j ≡ Some s = ap (λ m. slice_get (f m) j) same ∙ is in
          record {
            stands = ap (slice_get (f n ++ expand f (suc n) xs)) here ∙ get_first (f n) (expand f (suc n) xs) j s own;
            left = λ free.
                ap (λ m. (level_behind slot l (take m (f n ++ expand f (suc n) xs))).now) here
                ∙ (ap (λ ys. (level_behind slot l ys).now) (take_first (f n) (expand f (suc n) xs) j s own)
                ∙ (ap (λ (m : Level). m.now) (steps_taken slot (take j (f n)) l (taking_taken (f n) j (taking n)))
                ∙ (ap (λ v. l.now - v) (ap (λ m. all_taken slot (take j (f m))) same ∙ free)
                ∙ (sym (none_less l.now) ∙ sym (ap (λ b. if b then l.now else before_at takes_of (suc n) (less (takes_of n) l) xs k) e)))));
          }
      by_test (inr e) rest =
          let m = more n k (access_count xs) least (λ q. other q e) most in
          let at_rest : i ≡ length (f n) + (steps_before f (suc n) xs k + j) = at ∙ (ap (λ b. (if b then 0 else length (f n) + steps_before f (suc n) xs k) + j) e ∙ grouped (length (f n)) (steps_before f (suc n) xs k) j) in
          let r = rest (steps_before f (suc n) xs k + j) m.0 m.1 refl in
          record {
            stands = get_second (f n) (expand f (suc n) xs) (steps_before f (suc n) xs k + j) i at_rest ∙ r.stands;
            left = λ free.
                ap (λ ys. (level_behind slot l ys).now) (take_second (f n) (expand f (suc n) xs) (steps_before f (suc n) xs k + j) i at_rest)
                ∙ (ap (λ (q : Level). q.now) (behind_append slot l (f n) (take (steps_before f (suc n) xs k + j) (expand f (suc n) xs)))
                ∙ (ap (λ q. (level_behind slot q (take (steps_before f (suc n) xs k + j) (expand f (suc n) xs))).now) (steps_taken slot (f n) l (taking n))
                ∙ (r.left free ∙ sym (ap (λ b. if b then l.now else before_at takes_of (suc n) (less (takes_of n) l) xs k) e))));
          }
  placed n l (assigned entity ∷ xs) k j s i a b is at = let r = placed n l xs k j s i a b is at in record { stands = r.stands; left = r.left }
  placed n l (arm_begins ∷ xs) k j s i a b is at = let r = placed n l xs k j s i a b is at in record { stands = r.stands; left = r.left }
  placed n l (arm_ends ∷ xs) k j s i a b is at = let r = placed n l xs k j s i a b is at in record { stands = r.stands; left = r.left }
  placed n l (begins ∷ xs) k j s i a b is at = behind_one (steps_before f n xs k + j) (at ∙ next_one _ _) (placed n (begun l) xs k j s (steps_before f n xs k + j) a b is refl)
    where
      next_one : (x y : ℕ) → suc x + y ≡ suc (x + y)
      next_one x y = omega arith

      behind_one : (m : ℕ) → i ≡ suc m → Placed n (advance slot step.Begin l) xs k j s m → Placed n l (begins ∷ xs) k j s i
      behind_one m e r = record {
        stands = ap (slice_get (step.Begin ∷ expand f n xs)) e ∙ r.stands;
        left = λ free. ap (λ v. (level_behind slot l (take v (step.Begin ∷ expand f n xs))).now) e ∙ r.left free;
      }
  placed n l (next ∷ xs) k j s i a b is at = behind_one (steps_before f n xs k + j) (at ∙ next_one _ _) (placed n (kept_back l) xs k j s (steps_before f n xs k + j) a b is refl)
    where
      next_one : (x y : ℕ) → suc x + y ≡ suc (x + y)
      next_one x y = omega arith

      behind_one : (m : ℕ) → i ≡ suc m → Placed n (advance slot step.Next l) xs k j s m → Placed n l (next ∷ xs) k j s i
      behind_one m e r = record {
        stands = ap (slice_get (step.Next ∷ expand f n xs)) e ∙ r.stands;
        left = λ free. ap (λ v. (level_behind slot l (take v (step.Next ∷ expand f n xs))).now) e ∙ r.left free;
      }
  placed n l (ends ∷ xs) k j s i a b is at = behind_one (steps_before f n xs k + j) (at ∙ next_one _ _) (placed n (settled_slot_level (kept_back l)) xs k j s (steps_before f n xs k + j) a b is refl)
    where
      next_one : (x y : ℕ) → suc x + y ≡ suc (x + y)
      next_one x y = omega arith

      behind_one : (m : ℕ) → i ≡ suc m → Placed n (advance slot step.End l) xs k j s m → Placed n l (ends ∷ xs) k j s i
      behind_one m e r = record {
        stands = ap (slice_get (step.End ∷ expand f n xs)) e ∙ r.stands;
        left = λ free. ap (λ v. (level_behind slot l (take v (step.End ∷ expand f n xs))).now) e ∙ r.left free;
      }
