-- The assignments of an arm are taken back, the last of them first.
use Rattle.std.proofs.Common.{◌≡◌, ℕ, zero, suc, ◌-◌, ◌<◌, ◌≤◌, List, [], ◌∷◌, ◌++◌, length, take, drop, get_or, refl, ap, sym, ◌∙◌, subst, arith, append_assoc}
use Rattle.std.specs.Prelude.{Option, replicate, slice_set}
use Rattle.std.specs.List.{AllByRecursion}
use Rattle.std.proofs.lemmas.List.{append-nil}
use Rattle.dh_commands.specs.declared.assignments.Change.{Change}
use Rattle.dh_commands.specs.declared.assignments.Values.{Values}
use Rattle.dh_commands.specs.declared.choices.Left.{Left}
use Rattle.dh_commands.specs.Undone.{EndsArm, HasRoom, given_at, left_at, lefts_of, undone}
use Rattle.dh_expressions.proofs.ListPlaces.{set_long}

pub replicate_more : {A : Type 0} (n : ℕ) (x : A) → replicate n x ++ x ∷ [] ≡ replicate (suc n) x
replicate_more zero x = refl
replicate_more (suc n) x = ap (λ l. x ∷ l) (replicate_more n x)

undone_more : (cs : List Change) (c : Change) (current : List (Option ℕ)) → undone (cs ++ c ∷ []) current ≡ undone cs (slice_set current c.register c.before)
undone_more [] c current = refl
undone_more (b ∷ cs) c current = ap (λ (os : List (Option ℕ)). slice_set os b.register b.before) (undone_more cs c current)

lefts_more : (cs : List Change) (c : Change) (current : List (Option ℕ)) → lefts_of (cs ++ c ∷ []) current ≡ left_at c current ∷ lefts_of cs (slice_set current c.register c.before)
lefts_more [] c current = refl
lefts_more (b ∷ cs) c current =
    ap (λ (ls : List Left). ls ++ left_at b (undone (cs ++ c ∷ []) current) ∷ []) (lefts_more cs c current)
    ∙ ap (λ (os : List (Option ℕ)). left_at c current ∷ (lefts_of cs (slice_set current c.register c.before) ++ left_at b os ∷ [])) (undone_more cs c current)

-- of these assignments those behind a first place, and before a second
abbrev pub between : (floor i : ℕ) → List Change → List Change
between floor i log = drop floor (take i log)

take_more : (xs : List Change) (k : ℕ) (d : Change) → k < length xs → take (suc k) xs ≡ take k xs ++ get_or xs k d ∷ []
take_more [] k d within = absurd (none k within)
  where
    none : (n : ℕ) → n < 0 → ⊥
    none n e = omega (arith, e)
take_more (x ∷ xs) zero d within = refl
take_more (x ∷ xs) (suc k) d within = ap (λ (l : List Change). x ∷ l) (take_more xs k d (less k (length xs) within))
  where
    less : (n l : ℕ) → suc n < suc l → n < l
    less n l h = omega (arith, h)

drop_more : (xs : List Change) (n : ℕ) (c : Change) → n ≤ length xs → drop n (xs ++ c ∷ []) ≡ drop n xs ++ c ∷ []
drop_more xs zero c few = refl
drop_more [] (suc n) c few = absurd (none n few)
  where
    none : (n : ℕ) → suc n ≤ 0 → ⊥
    none n e = omega (arith, e)
drop_more (x ∷ xs) (suc n) c few = drop_more xs n c (less n (length xs) few)
  where
    less : (n l : ℕ) → suc n ≤ suc l → n ≤ l
    less n l h = omega (arith, h)

take_long : (xs : List Change) (k : ℕ) → k ≤ length xs → length (take k xs) ≡ k
take_long xs zero few = refl
take_long [] (suc k) few = absurd (none k few)
  where
    none : (n : ℕ) → suc n ≤ 0 → ⊥
    none n e = omega (arith, e)
take_long (x ∷ xs) (suc k) few = ap suc (take_long xs k (less k (length xs) few))
  where
    less : (n l : ℕ) → suc n ≤ suc l → n ≤ l
    less n l h = omega (arith, h)

between_more : (floor k : ℕ) (log : List Change) (d : Change) → floor ≤ k → k < length log → between floor (suc k) log ≡ between floor k log ++ get_or log k d ∷ []
between_more floor k log d behind within =
    ap (λ (l : List Change). drop floor l) (take_more log k d within)
    ∙ drop_more (take k log) floor (get_or log k d) (subst (λ (n : ℕ). floor ≤ n) (sym (take_long log k (omega (arith, within)))) behind)

-- some of the last assignments are taken back
pub record EndsFrom (old now : Values) (floor i : ℕ) (lefts : List Left) : Type 0 where
  pub log : now.log ≡ old.log
  pub marks : now.marks ≡ old.marks
  pub long : length now.current.items ≡ length old.current.items
  pub back : undone (between floor i old.log.items) now.current.items ≡ undone (drop floor old.log.items) old.current.items
  pub lefts_are : AllByRecursion (HasRoom old.current.items) (drop floor old.log.items)
      → AllByRecursion (HasRoom old.current.items) (between floor i old.log.items) × (lefts ++ lefts_of (between floor i old.log.items) now.current.items ≡ lefts_of (drop floor old.log.items) old.current.items)

take_all : (xs : List Change) → take (length xs) xs ≡ xs
take_all [] = refl
take_all (x ∷ xs) = ap (λ (l : List Change). x ∷ l) (take_all xs)

pub ends_none : (v : Values) (floor : ℕ) → EndsFrom v v floor (length v.log.items) []
ends_none v floor = record {
  log = refl;
  marks = refl;
  long = refl;
  back = ap (λ (l : List Change). undone (drop floor l) v.current.items) (take_all v.log.items);
  lefts_are = λ rooms. (
    subst (λ (l : List Change). AllByRecursion (HasRoom v.current.items) (drop floor l)) (sym (take_all v.log.items)) rooms,
    ap (λ (l : List Change). lefts_of (drop floor l) v.current.items) (take_all v.log.items),
  );
}

all_parts : (P : Change → Type 0) (xs : List Change) (c : Change) → AllByRecursion P (xs ++ c ∷ []) → AllByRecursion P xs × P c
all_parts P [] c a = (tt, a.0)
all_parts P (x ∷ xs) c a = let r = all_parts P xs c a.1 in ((a.0, r.0), r.1)

set_past : (xs : List (Option ℕ)) (i : ℕ) (a : Option ℕ) → length xs ≤ i → slice_set xs i a ≡ xs
set_past [] i a past = refl
set_past (x ∷ xs) zero a past = absurd (none (length xs) past)
  where
    none : (n : ℕ) → suc n ≤ 0 → ⊥
    none n h = omega (arith, h)
set_past (x ∷ xs) (suc i) a past = ap (λ (l : List (Option ℕ)). x ∷ l) (set_past xs i a (less (length xs) i past))
  where
    less : (n m : ℕ) → suc n ≤ suc m → n ≤ m
    less n m h = omega (arith, h)

module _ (old now : Values) (floor k : ℕ) (lefts : List Left) (d : Change) (behind : floor ≤ k) (within : k < length old.log.items) (h : EndsFrom old now floor (suc k) lefts) where
  abbrev c : Change
  c = get_or old.log.items k d

  abbrev after : List (Option ℕ)
  after = slice_set now.current.items c.register c.before

  parts : between floor (suc k) old.log.items ≡ between floor k old.log.items ++ c ∷ []
  parts = between_more floor k old.log.items d behind within

  undone_then : undone (between floor k old.log.items) after ≡ undone (drop floor old.log.items) old.current.items
  undone_then = sym (ap (λ (l : List Change). undone l now.current.items) parts ∙ undone_more (between floor k old.log.items) c now.current.items) ∙ h.back

  lefts_then : lefts_of (between floor (suc k) old.log.items) now.current.items ≡ left_at c now.current.items ∷ lefts_of (between floor k old.log.items) after
  lefts_then = ap (λ (l : List Change). lefts_of l now.current.items) parts ∙ lefts_more (between floor k old.log.items) c now.current.items

  pub ends_more : (new : Values) (more : List Left) → new.log ≡ now.log → new.marks ≡ now.marks → new.current.items ≡ after → more ≡ lefts ++ left_at c now.current.items ∷ [] → EndsFrom old new floor k more
  ends_more new more log marks set added = record {
    log = log ∙ h.log;
    marks = marks ∙ h.marks;
    long = ap (λ (os : List (Option ℕ)). length os) set ∙ (set_long now.current.items c.register c.before ∙ h.long);
    back = ap (λ (os : List (Option ℕ)). undone (between floor k old.log.items) os) set ∙ undone_then;
    lefts_are = λ rooms.
        let l = h.lefts_are rooms in (
          (all_parts (HasRoom old.current.items) (between floor k old.log.items) c (subst (λ (x : List Change). AllByRecursion (HasRoom old.current.items) x) parts l.0)).0,
          ap (λ (ls : List Left). ls ++ lefts_of (between floor k old.log.items) new.current.items) added
              ∙ (ap (λ (os : List (Option ℕ)). (lefts ++ left_at c now.current.items ∷ []) ++ lefts_of (between floor k old.log.items) os) set
              ∙ (append_assoc lefts (left_at c now.current.items ∷ []) (lefts_of (between floor k old.log.items) after)
              ∙ (ap (λ (ls : List Left). lefts ++ ls) (sym lefts_then) ∙ l.1))),
        );
  }

  -- what has no register is not there to be taken back
  pub ends_past : length now.current.items ≤ c.register → EndsFrom old now floor k lefts
  ends_past past = record {
    log = h.log;
    marks = h.marks;
    long = h.long;
    back = ap (λ (os : List (Option ℕ)). undone (between floor k old.log.items) os) (sym (set_past now.current.items c.register c.before past)) ∙ undone_then;
    lefts_are = λ rooms.
        let l = h.lefts_are rooms in
        let room = (all_parts (HasRoom old.current.items) (between floor k old.log.items) c (subst (λ (x : List Change). AllByRecursion (HasRoom old.current.items) x) parts l.0)).1 in
        absurd (never c.register (length now.current.items) (length old.current.items) h.long past room);
  }
    where
      never : (r n m : ℕ) → n ≡ m → n ≤ r → r < m → ⊥
      never r n m e p q = omega (arith, e, p, q)

drop_past : (xs : List Change) (n : ℕ) → length xs ≤ n → drop n xs ≡ []
drop_past [] zero few = refl
drop_past [] (suc n) few = refl
drop_past (x ∷ xs) zero few = absurd (none (length xs) few)
  where
    none : (n : ℕ) → suc n ≤ 0 → ⊥
    none n h = omega (arith, h)
drop_past (x ∷ xs) (suc n) few = drop_past xs n (less (length xs) n few)
  where
    less : (n m : ℕ) → suc n ≤ suc m → n ≤ m
    less n m h = omega (arith, h)

take_within : (xs : List Change) (k : ℕ) → length (take k xs) ≤ k
take_within xs zero = omega arith
take_within [] (suc k) = omega arith
take_within (x ∷ xs) (suc k) = more (length (take k xs)) k (take_within xs k)
  where
    more : (n m : ℕ) → n ≤ m → suc n ≤ suc m
    more n m h = omega (arith, h)

pub ends_all : (old now new : Values) (floor i : ℕ) (lefts : List Left) → EndsFrom old now floor i lefts → i ≤ floor → new.current ≡ now.current → new.marks ≡ now.marks → new.log.items ≡ take floor now.log.items → EndsArm old new floor lefts
ends_all old now new floor i lefts h end current marks log = record {
  current = ap (λ v. v.items) current ∙ (sym (ap (λ (l : List Change). undone l now.current.items) none) ∙ h.back);
  log = log ∙ ap (λ v. take floor v.items) h.log;
  marks = ap (λ v. v.items) (marks ∙ h.marks);
  lefts_are = λ rooms. sym (append-nil lefts) ∙ (sym (ap (λ (l : List Change). lefts ++ lefts_of l now.current.items) none) ∙ (h.lefts_are rooms).1);
}
  where
    few : length (take i old.log.items) ≤ floor
    few = let w = take_within old.log.items i in omega (arith, w, end)

    none : between floor i old.log.items ≡ []
    none = drop_past (take i old.log.items) floor few

-- one turn, which takes back the assignment before the i-th
pub ends_turn : (old now new : Values) (floor i : ℕ) (lefts more : List Left) (d change : Change) → floor < i → i - 1 < length now.log.items → change ≡ get_or now.log.items (i - 1) d → EndsFrom old now floor i lefts
    → new.log ≡ now.log → new.marks ≡ now.marks → new.current.items ≡ slice_set now.current.items change.register change.before → more ≡ lefts ++ left_at change now.current.items ∷ [] → EndsFrom old new floor (i - 1) more
ends_turn old now new floor i lefts more d change behind within is h log marks set added =
    let back : i ≡ suc (i - 1) = omega (arith, behind) in
    let same : change ≡ get_or old.log.items (i - 1) d = is ∙ ap (λ v. get_or v.items (i - 1) d) h.log in
    ends_more old now floor (i - 1) lefts d (omega (arith, behind)) (subst (λ v. i - 1 < length v.items) h.log within) (subst (λ (n : ℕ). EndsFrom old now floor n lefts) back h)
    new more log marks
    (set ∙ ap (λ (c : Change). slice_set now.current.items c.register c.before) same)
    (added ∙ ap (λ (c : Change). lefts ++ left_at c now.current.items ∷ []) same)

pub ends_turn_past : (old now new : Values) (floor i : ℕ) (lefts : List Left) (d change : Change) → floor < i → i - 1 < length now.log.items → change ≡ get_or now.log.items (i - 1) d → EndsFrom old now floor i lefts
    → length now.current.items ≤ change.register → new ≡ now → EndsFrom old new floor (i - 1) lefts
ends_turn_past old now new floor i lefts d change behind within is h past same_values =
    let back : i ≡ suc (i - 1) = omega (arith, behind) in
    let same : change ≡ get_or old.log.items (i - 1) d = is ∙ ap (λ v. get_or v.items (i - 1) d) h.log in
    subst (λ (v : Values). EndsFrom old v floor (i - 1) lefts) (sym same_values)
    (ends_past old now floor (i - 1) lefts d (omega (arith, behind)) (subst (λ v. i - 1 < length v.items) h.log within) (subst (λ (n : ℕ). EndsFrom old now floor n lefts) back h)
    (subst (λ (c : Change). length now.current.items ≤ c.register) same past))

given_any : (current : List (Option ℕ)) (r : ℕ) (d : Option ℕ) → r < length current → get_or current r d ≡ given_at current r
given_any [] r d within = absurd (none r within)
  where
    none : (n : ℕ) → n < 0 → ⊥
    none n e = omega (arith, e)
given_any (o ∷ os) zero d within = refl
given_any (o ∷ os) (suc r) d within = given_any os r d (less r (length os) within)
  where
    less : (n k : ℕ) → suc n < suc k → n < k
    less n k h = omega (arith, h)

pub given_is : (current : List (Option ℕ)) (r : ℕ) (o : Option ℕ) → r < length current → o ≡ get_or current r o → o ≡ given_at current r
given_is current r o within is = is ∙ given_any current r o within
