-- The choices that are made of what both arms left: as one left more is noted, marks and choices still tell of one
-- another, and each register that was left has its choice.
use Rattle.std.proofs.Common.{◌≡◌, ◌⊎◌, inl, inr, ℕ, zero, suc, ◌+◌, ◌-◌, ◌<◌, ◌≤◌, ◌==◌, Bool, true, false, if◌then◌else◌, Some, None, List, [], ◌∷◌, ◌++◌, length, get_or, refl, ap, sym, ◌∙◌, subst, arith}
use Rattle.std.specs.Prelude.{Option, nat_lt, slice_get, slice_index, slice_set}
use Rattle.std.specs.Option.{is_some}
use Rattle.std.proofs.lemmas.Option.{slice_get-get_or}
use Rattle.std.specs.List.{AllByRecursion}
use Rattle.std.proofs.lemmas.Bool.{cases_Bool, eqb-true, eq-eqb}
use Rattle.std.proofs.lemmas.Bool.Decides.{nat_tests}
use Rattle.dh_commands.specs.declared.choices.Choice.{Choice}
use Rattle.dh_commands.specs.declared.choices.Left.{Left}
use Rattle.dh_commands.specs.Undone.{IsChoiceOfArms, first_left, value_left}
use Rattle.dh_commands.specs.Joined.{AreChoices, IsLeft, all_unmarked, chosen_marked, chosen_noted, first_choice, is_unmarked, other_marked, other_noted, other_or, other_put, second_choice, with_other}
use Rattle.dh_expressions.proofs.ListPlaces.{place_of_more, place_within, set_here, set_long, set_other, some_same}

-- The first of what was left, with one more behind.

abbrev pub left_or : Option Left → Option Left → Option Left
left_or None o = o
left_or (Some l) o = Some l

abbrev pub left_if : Left → (register : ℕ) → Option Left
left_if l register = if l.register == register then Some l else None

pub first_more : (xs : List Left) (l : Left) (register : ℕ) → first_left (xs ++ l ∷ []) register ≡ left_or (first_left xs register) (left_if l register)
first_more [] l register = refl
first_more (k ∷ xs) l register = by (k.register == register) (first_more xs l register)
  where
    by : (b : Bool) → first_left (xs ++ l ∷ []) register ≡ left_or (first_left xs register) (left_if l register)
        → (if b then Some k else first_left (xs ++ l ∷ []) register) ≡ left_or (if b then Some k else first_left xs register) (left_if l register)
    by true h = refl
    by false h = h

-- that of a register that was left before stays
first_kept : (xs : List Left) (l k : Left) (register : ℕ) → first_left xs register ≡ Some k → first_left (xs ++ l ∷ []) register ≡ Some k
first_kept xs l k register h = first_more xs l register ∙ ap (λ o. left_or o (left_if l register)) h

first_new : (xs : List Left) (l : Left) (register : ℕ) → first_left xs register ≡ None → l.register ≡ register → first_left (xs ++ l ∷ []) register ≡ Some l
first_new xs l register h is =
    first_more xs l register
    ∙ (ap (λ o. left_or o (left_if l register)) h
    ∙ ap (λ (b : Bool). if b then Some l else None) (eq-eqb l.register register is))

clash : (b : Bool) → b ≡ true → b ≡ false → ⊥
clash true u v = cc
clash false u v = cc

not_same : (n m : ℕ) → (n ≡ m → ⊥) → (n == m) ≡ false
not_same n m h = by (n == m) (λ e. h (eqb-true n m e))
  where
    by : (b : Bool) → (b ≡ true → ⊥) → b ≡ false
    by true g = absurd (g refl)
    by false g = refl

left_or_none : (o : Option Left) → left_or o None ≡ o
left_or_none None = refl
left_or_none (Some l) = refl

first_other : (xs : List Left) (l : Left) (register : ℕ) → (l.register ≡ register → ⊥) → first_left (xs ++ l ∷ []) register ≡ first_left xs register
first_other xs l register h =
    first_more xs l register
    ∙ (ap (λ (b : Bool). left_or (first_left xs register) (if b then Some l else None)) (not_same l.register register h)
    ∙ left_or_none (first_left xs register))

-- what is the first is one of those that were left, so it has what all of them have
pub first_has : (P : Left → Type 0) (xs : List Left) (l : Left) (register : ℕ) → AllByRecursion P xs → first_left xs register ≡ Some l → P l × (l.register ≡ register)
first_has P [] l register a h = absurd (cc)
first_has P (k ∷ xs) l register a h = by (k.register == register) refl h (λ s. first_has P xs l register a.1 s)
  where
    by : (b : Bool) → (k.register == register) ≡ b → (if b then Some k else first_left xs register) ≡ Some l → (first_left xs register ≡ Some l → P l × (l.register ≡ register)) → P l × (l.register ≡ register)
    by true e s further = let same : k ≡ l = some_same k l s in (subst P same a.0, ap (λ (m : Left). m.register) (sym same) ∙ eqb-true k.register register e)
    by false e s further = further s

-- Elements of a list with one more behind.

seam : (xs : List Choice) (x : Choice) → slice_get (xs ++ x ∷ []) (length xs) ≡ Some x
seam [] x = refl
seam (y ∷ xs) x = seam xs x

front : (xs ys : List Choice) (k : ℕ) (x : Choice) → slice_get xs k ≡ Some x → slice_get (xs ++ ys) k ≡ Some x
front [] ys k x h = absurd (cc)
front (y ∷ xs) ys zero x h = h
front (y ∷ xs) ys (suc k) x h = front xs ys k x h

-- Marks.

-- marks tell of each register its choice
pub record AreMarked (marks : List ℕ) (choices : List Choice) : Type 0 where
  pub marked : (k : ℕ) (c : Choice) → slice_get choices k ≡ Some c → slice_index marks c.register ≡ suc k
  pub only : (register k : ℕ) → slice_index marks register ≡ suc k → (c : Choice) × ((slice_get choices k ≡ Some c) × (c.register ≡ register))

pub record JoinsSoFar (chosen other : List Left) (size : ℕ) (marks : List ℕ) (choices : List Choice) : Type 0 where
  pub long : length marks ≡ size
  pub are_marked : AreMarked marks choices
  pub are : (k : ℕ) (c : Choice) → slice_get choices k ≡ Some c → IsChoiceOfArms chosen other c
  pub left : (k : ℕ) (c : Choice) → slice_get choices k ≡ Some c
      → (l : Left) × ((l.path ≡ c.path) × ((first_left chosen c.register ≡ Some l) ⊎ (first_left other c.register ≡ Some l)))
  pub all : (register : ℕ) (l : Left) → (first_left chosen register ≡ Some l) ⊎ (first_left other register ≡ Some l) → slice_index marks register ≡ 0 → ⊥

zero_or_more : (n : ℕ) → (n ≡ 0) ⊎ ((k : ℕ) × (n ≡ suc k))
zero_or_more zero = inl refl
zero_or_more (suc k) = inr (k, refl)

never_both : (n k : ℕ) → n ≡ suc k → n ≡ 0 → ⊥
never_both n k a b = omega (arith, a, b)

-- a mark that is there stands within the marks
within_marks : (marks : List ℕ) (register k : ℕ) → slice_index marks register ≡ suc k → register < length marks
within_marks [] register k h = absurd (never_both 0 k h refl)
within_marks (m ∷ marks) zero k h = some (length marks)
  where
    some : (n : ℕ) → 0 < suc n
    some n = omega arith
within_marks (m ∷ marks) (suc register) k h = more register (length marks) (within_marks marks register k h)
  where
    more : (r n : ℕ) → r < n → suc r < suc n
    more r n l = omega (arith, l)

index_set : (marks : List ℕ) (register value : ℕ) → register < length marks → slice_index (slice_set marks register value) register ≡ value
index_set [] register value l = absurd (none register l)
  where
    none : (n : ℕ) → n < 0 → ⊥
    none n h = omega (arith, h)
index_set (m ∷ marks) zero value l = refl
index_set (m ∷ marks) (suc register) value l = index_set marks register value (less register (length marks) l)
  where
    less : (n k : ℕ) → suc n < suc k → n < k
    less n k h = omega (arith, h)

index_other : (marks : List ℕ) (register other value : ℕ) → (other ≡ register → ⊥) → slice_index (slice_set marks register value) other ≡ slice_index marks other
index_other [] register other value h = refl
index_other (m ∷ marks) zero zero value h = absurd (h refl)
index_other (m ∷ marks) zero (suc other) value h = refl
index_other (m ∷ marks) (suc register) zero value h = refl
index_other (m ∷ marks) (suc register) (suc other) value h = index_other marks register other value (λ e. h (ap suc e))

same_or_not : (n m : ℕ) → (n ≡ m) ⊎ (n ≡ m → ⊥)
same_or_not n m = by (cases_Bool (n == m))
  where
    by : ((n == m) ≡ true) ⊎ ((n == m) ≡ false) → (n ≡ m) ⊎ (n ≡ m → ⊥)
    by (inl a) = inl (eqb-true n m a)
    by (inr b) = inr (λ e. clash (n == m) (eq-eqb n m e) b)

unmarked_is : (marks : List ℕ) (register : ℕ) → register < length marks → slice_index marks register ≡ 0 → is_unmarked marks register ≡ true
unmarked_is marks register l h = grind (arith, nat_tests, l, h)

marked_is : (marks : List ℕ) (register k : ℕ) → slice_index marks register ≡ suc k → is_unmarked marks register ≡ false
marked_is marks register k h = grind (arith, nat_tests, h)

-- A register that is noted anew.

-- marks and choices with one more
marked_more : (marks : List ℕ) (choices : List Choice) (new : Choice) → AreMarked marks choices → new.register < length marks → slice_index marks new.register ≡ 0
    → AreMarked (slice_set marks new.register (length choices + 1)) (choices ++ new ∷ [])
marked_more marks choices new h room free = record {
  marked = λ k c at. told k c (place_of_more choices new c k at);
  only = λ register k is. found register k is (same_or_not register new.register);
}
  where
    told : (k : ℕ) (c : Choice) → (slice_get choices k ≡ Some c) ⊎ ((k ≡ length choices) × (c ≡ new)) → slice_index (slice_set marks new.register (length choices + 1)) c.register ≡ suc k
    told k c (inl at) =
        index_other marks new.register c.register (length choices + 1) (λ same. never_both (slice_index marks c.register) k (h.marked k c at) (ap (λ r. slice_index marks r) same ∙ free)) ∙ h.marked k c at
    told k c (inr last) =
        ap (λ (d : Choice). slice_index (slice_set marks new.register (length choices + 1)) d.register) last.1
        ∙ (index_set marks new.register (length choices + 1) room ∙ (let e = last.0 in omega (arith, e)))

    found : (register k : ℕ) → slice_index (slice_set marks new.register (length choices + 1)) register ≡ suc k → (register ≡ new.register) ⊎ (register ≡ new.register → ⊥)
        → (c : Choice) × ((slice_get (choices ++ new ∷ []) k ≡ Some c) × (c.register ≡ register))
    found register k is (inl same) =
        let value : length choices + 1 ≡ suc k = sym (index_set marks new.register (length choices + 1) room) ∙ (ap (λ r. slice_index (slice_set marks new.register (length choices + 1)) r) (sym same) ∙ is) in
        let place : k ≡ length choices = omega (arith, value) in
        (new, (ap (λ n. slice_get (choices ++ new ∷ []) n) place ∙ seam choices new, sym same))
    found register k is (inr differ) =
        let old = h.only register k (sym (index_other marks new.register register (length choices + 1) differ) ∙ is) in
        (old.0, (front choices (new ∷ []) k old.0 old.1.0, old.1.1))

module _ (chosen other : List Left) (size : ℕ) (marks : List ℕ) (choices : List Choice) (h : JoinsSoFar chosen other size marks choices) where
  none_chosen : (register : ℕ) → slice_index marks register ≡ 0 → first_left chosen register ≡ None
  none_chosen register free = by (first_left chosen register) refl
    where
      by : (o : Option Left) → first_left chosen register ≡ o → o ≡ None
      by None e = refl
      by (Some l) e = absurd (h.all register l (inl e) free)

  none_other : (register : ℕ) → slice_index marks register ≡ 0 → first_left other register ≡ None
  none_other register free = by (first_left other register) refl
    where
      by : (o : Option Left) → first_left other register ≡ o → o ≡ None
      by None e = refl
      by (Some l) e = absurd (h.all register l (inr e) free)

-- a choice of the arms then, by what they left of its register
moved_choice : (chosen other chosen' other' : List Left) (c : Choice) → first_left chosen' c.register ≡ first_left chosen c.register → first_left other' c.register ≡ first_left other c.register
    → IsChoiceOfArms chosen other c → IsChoiceOfArms chosen' other' c
moved_choice chosen other chosen' other' c a b h = record { chosen_is = h.chosen_is ∙ ap value_left (sym a); other_is = h.other_is ∙ ap value_left (sym b) }

moved_left : (chosen other chosen' other' : List Left) (register : ℕ) (l : Left) → first_left chosen' register ≡ first_left chosen register → first_left other' register ≡ first_left other register
    → (first_left chosen register ≡ Some l) ⊎ (first_left other register ≡ Some l) → (first_left chosen' register ≡ Some l) ⊎ (first_left other' register ≡ Some l)
moved_left chosen other chosen' other' register l a b (inl e) = inl (a ∙ e)
moved_left chosen other chosen' other' register l a b (inr e) = inr (b ∙ e)

-- a register that had no choice has one now
pub noted_new : (chosen other chosen' other' : List Left) (size : ℕ) (marks : List ℕ) (choices : List Choice) (new : Choice) → JoinsSoFar chosen other size marks choices
    → ((r : ℕ) → (r ≡ new.register → ⊥) → first_left chosen' r ≡ first_left chosen r) → ((r : ℕ) → (r ≡ new.register → ⊥) → first_left other' r ≡ first_left other r)
    → IsChoiceOfArms chosen' other' new → (l : Left) × ((l.path ≡ new.path) × ((first_left chosen' new.register ≡ Some l) ⊎ (first_left other' new.register ≡ Some l)))
    → new.register < length marks → slice_index marks new.register ≡ 0
    → JoinsSoFar chosen' other' size (slice_set marks new.register (length choices + 1)) (choices ++ new ∷ [])
noted_new chosen other chosen' other' size marks choices new h one two is left room free = record {
  long = set_long marks new.register (length choices + 1) ∙ h.long;
  are_marked = marked_more marks choices new h.are_marked room free;
  are = λ k c at. are_now k c (place_of_more choices new c k at);
  left = λ k c at. left_now k c (place_of_more choices new c k at);
  all = λ register l found zero_now. all_now register l found zero_now (same_or_not register new.register);
}
  where
    differ : (k : ℕ) (c : Choice) → slice_get choices k ≡ Some c → c.register ≡ new.register → ⊥
    differ k c at same = never_both (slice_index marks c.register) k (h.are_marked.marked k c at) (ap (λ r. slice_index marks r) same ∙ free)

    are_now : (k : ℕ) (c : Choice) → (slice_get choices k ≡ Some c) ⊎ ((k ≡ length choices) × (c ≡ new)) → IsChoiceOfArms chosen' other' c
    are_now k c (inl at) = moved_choice chosen other chosen' other' c (one c.register (differ k c at)) (two c.register (differ k c at)) (h.are k c at)
    are_now k c (inr last) = subst (λ (d : Choice). IsChoiceOfArms chosen' other' d) (sym last.1) is

    left_now : (k : ℕ) (c : Choice) → (slice_get choices k ≡ Some c) ⊎ ((k ≡ length choices) × (c ≡ new))
        → (l : Left) × ((l.path ≡ c.path) × ((first_left chosen' c.register ≡ Some l) ⊎ (first_left other' c.register ≡ Some l)))
    left_now k c (inl at) =
        let old = h.left k c at in
        (old.0, (old.1.0, moved_left chosen other chosen' other' c.register old.0 (one c.register (differ k c at)) (two c.register (differ k c at)) old.1.1))
    left_now k c (inr last) = subst (λ (d : Choice). (l : Left) × ((l.path ≡ d.path) × ((first_left chosen' d.register ≡ Some l) ⊎ (first_left other' d.register ≡ Some l)))) (sym last.1) left

    back : (register : ℕ) (l : Left) → (register ≡ new.register → ⊥) → (first_left chosen' register ≡ Some l) ⊎ (first_left other' register ≡ Some l)
        → (first_left chosen register ≡ Some l) ⊎ (first_left other register ≡ Some l)
    back register l other_register (inl e) = inl (sym (one register other_register) ∙ e)
    back register l other_register (inr e) = inr (sym (two register other_register) ∙ e)

    some_now : (n : ℕ) → n + 1 ≡ 0 → ⊥
    some_now n e = omega (arith, e)

    all_now : (register : ℕ) (l : Left) → (first_left chosen' register ≡ Some l) ⊎ (first_left other' register ≡ Some l)
        → slice_index (slice_set marks new.register (length choices + 1)) register ≡ 0 → (register ≡ new.register) ⊎ (register ≡ new.register → ⊥) → ⊥
    all_now register l found zero_now (inl same) =
        some_now (length choices) (sym (index_set marks new.register (length choices + 1) room) ∙ (ap (λ r. slice_index (slice_set marks new.register (length choices + 1)) r) (sym same) ∙ zero_now))
    all_now register l found zero_now (inr other_register) =
        h.all register l (back register l other_register found) (sym (index_other marks new.register register (length choices + 1) other_register) ∙ zero_now)

-- A register that has its choice already.

pub joins_same : (chosen other chosen' other' : List Left) (size : ℕ) (marks : List ℕ) (choices : List Choice) → JoinsSoFar chosen other size marks choices
    → ((r : ℕ) → first_left chosen' r ≡ first_left chosen r) → ((r : ℕ) → first_left other' r ≡ first_left other r) → JoinsSoFar chosen' other' size marks choices
joins_same chosen other chosen' other' size marks choices h one two = record {
  long = h.long;
  are_marked = h.are_marked;
  are = λ k c at. moved_choice chosen other chosen' other' c (one c.register) (two c.register) (h.are k c at);
  left = λ k c at. let old = h.left k c at in (old.0, (old.1.0, moved_left chosen other chosen' other' c.register old.0 (one c.register) (two c.register) old.1.1));
  all = λ register l found free. h.all register l (moved_left chosen' other' chosen other register l (sym (one register)) (sym (two register)) found) free;
}

first_same : (xs : List Left) (l k : Left) → first_left xs l.register ≡ Some k → (r : ℕ) → first_left (xs ++ l ∷ []) r ≡ first_left xs r
first_same xs l k h r = by (same_or_not l.register r)
  where
    by : (l.register ≡ r) ⊎ (l.register ≡ r → ⊥) → first_left (xs ++ l ∷ []) r ≡ first_left xs r
    by (inl same) = let found : first_left xs r ≡ Some k = ap (λ n. first_left xs n) (sym same) ∙ h in first_kept xs l k r found ∙ sym found
    by (inr differ) = first_other xs l r differ

-- One more that the first arm left.

abbrev ChosenNow : (chosen : List Left) (l : Left) (size : ℕ) (marks : List ℕ) (choices : List Choice) → Bool → Type 0
ChosenNow chosen l size marks choices b = JoinsSoFar (chosen ++ l ∷ []) [] size (if b then slice_set marks l.register (length choices + 1) else marks) (if b then choices ++ first_choice l ∷ [] else choices)

pub chosen_more : (chosen : List Left) (l : Left) (size : ℕ) (marks : List ℕ) (choices : List Choice) → l.register < length marks → JoinsSoFar chosen [] size marks choices
    → JoinsSoFar (chosen ++ l ∷ []) [] size (chosen_marked marks choices l) (chosen_noted marks choices l)
chosen_more chosen l size marks choices room h = by (zero_or_more (slice_index marks l.register))
  where
    fresh : slice_index marks l.register ≡ 0 → JoinsSoFar (chosen ++ l ∷ []) [] size (slice_set marks l.register (length choices + 1)) (choices ++ first_choice l ∷ [])
    fresh free =
        let first = first_new chosen l l.register (none_chosen chosen [] size marks choices h l.register free) refl in
        noted_new chosen [] (chosen ++ l ∷ []) [] size marks choices (first_choice l) h
        (λ r differ. first_other chosen l r (λ e. differ (sym e))) (λ r differ. refl)
        (record { chosen_is = sym (ap value_left first); other_is = refl }) (l, (refl, inl first)) room free

    held : (k : ℕ) → slice_index marks l.register ≡ suc k → JoinsSoFar (chosen ++ l ∷ []) [] size marks choices
    held k mark =
        let c = h.are_marked.only l.register k mark in
        let old = h.left k c.0 c.1.0 in
        joins_same chosen [] (chosen ++ l ∷ []) [] size marks choices h (first_same chosen l old.0 (ap (λ r. first_left chosen r) (sym c.1.1) ∙ of_first old.0 c.0.register old.1.1)) (λ r. refl)
      where
        of_first : (m : Left) (r : ℕ) → (first_left chosen r ≡ Some m) ⊎ (first_left [] r ≡ Some m) → first_left chosen r ≡ Some m
        of_first m r (inl e) = e
        of_first m r (inr e) = absurd (cc)

    by : (slice_index marks l.register ≡ 0) ⊎ ((k : ℕ) × (slice_index marks l.register ≡ suc k))
        → JoinsSoFar (chosen ++ l ∷ []) [] size (chosen_marked marks choices l) (chosen_noted marks choices l)
    by (inl free) = subst (λ (b : Bool). ChosenNow chosen l size marks choices b) (sym (unmarked_is marks l.register room free)) (fresh free)
    by (inr (k, mark)) = subst (λ (b : Bool). ChosenNow chosen l size marks choices b) (sym (marked_is marks l.register k mark)) (held k mark)

-- One more that the second arm left.

pub none_joined : (size : ℕ) (marks : List ℕ) → length marks ≡ size → ((r : ℕ) → slice_index marks r ≡ 0) → JoinsSoFar [] [] size marks []
none_joined size marks long free = record {
  long = long;
  are_marked = record { marked = λ k c at. absurd (cc); only = λ register k mark. absurd (never_both (slice_index marks register) k mark (free register)) };
  are = λ k c at. absurd (cc);
  left = λ k c at. absurd (cc);
  all = λ register l found none. never l found;
}
  where
    never : (l : Left) → (None ≡ Some l) ⊎ (None ≡ Some l) → ⊥
    never l (inl e) = cc
    never l (inr e) = cc

-- a choice changed at its place
module _ (chosen other : List Left) (size : ℕ) (marks : List ℕ) (choices : List Choice) (l : Left) (k : ℕ) (c : Choice) (h : JoinsSoFar chosen other size marks choices)
    (mark : slice_index marks l.register ≡ suc k) (at_k : slice_get choices k ≡ Some c) (same : c.register ≡ l.register) (free : first_left other l.register ≡ None) where
  abbrev new : Choice
  new = record { register = c.register; path = c.path; chosen = c.chosen; other = l.value }

  abbrev now : List Choice
  now = slice_set choices k new

  here : slice_get now k ≡ Some new
  here = set_here choices k new (place_within choices k c at_k)

  elsewhere : (j : ℕ) (d : Choice) → (j ≡ k → ⊥) → slice_get now j ≡ Some d → slice_get choices j ≡ Some d
  elsewhere j d differ at = sym (set_other choices k j new differ) ∙ at

  is_here : (j : ℕ) (d : Choice) → j ≡ k → slice_get now j ≡ Some d → new ≡ d
  is_here j d e at = some_same new d (sym here ∙ (ap (λ n. slice_get now n) (sym e) ∙ at))

  other_register : (j : ℕ) (d : Choice) → (j ≡ k → ⊥) → slice_get choices j ≡ Some d → l.register ≡ d.register → ⊥
  other_register j d differ at e =
      let one = h.are_marked.marked j d at in
      let marks_same : slice_index marks l.register ≡ slice_index marks d.register = ap (λ r. slice_index marks r) e in
      differ (omega (arith, one, mark, marks_same))

  last_is : first_left (other ++ l ∷ []) c.register ≡ Some l
  last_is = ap (λ r. first_left (other ++ l ∷ []) r) same ∙ first_new other l l.register free refl

  more : (r : ℕ) (m : Left) → first_left other r ≡ Some m → first_left (other ++ l ∷ []) r ≡ Some m
  more r m e = first_kept other l m r e

  left_more : (r : ℕ) (m : Left) → (first_left chosen r ≡ Some m) ⊎ (first_left other r ≡ Some m) → (first_left chosen r ≡ Some m) ⊎ (first_left (other ++ l ∷ []) r ≡ Some m)
  left_more r m (inl e) = inl e
  left_more r m (inr e) = inr (more r m e)

  now_marked : AreMarked marks now
  now_marked = record { marked = λ j d at. marked j d at (same_or_not j k); only = λ register j is. only register j is (same_or_not j k) }
    where
      marked : (j : ℕ) (d : Choice) → slice_get now j ≡ Some d → (j ≡ k) ⊎ (j ≡ k → ⊥) → slice_index marks d.register ≡ suc j
      marked j d at (inl e) = ap (λ (x : Choice). slice_index marks x.register) (sym (is_here j d e at)) ∙ (h.are_marked.marked k c at_k ∙ ap suc (sym e))
      marked j d at (inr differ) = h.are_marked.marked j d (elsewhere j d differ at)

      only : (register j : ℕ) → slice_index marks register ≡ suc j → (j ≡ k) ⊎ (j ≡ k → ⊥) → (d : Choice) × ((slice_get now j ≡ Some d) × (d.register ≡ register))
      only register j is (inl e) =
          let old = h.are_marked.only register j is in
          let found : c ≡ old.0 = some_same c old.0 (sym at_k ∙ (ap (λ n. slice_get choices n) (sym e) ∙ old.1.0)) in
          (new, (ap (λ n. slice_get now n) e ∙ here, ap (λ (x : Choice). x.register) found ∙ old.1.1))
      only register j is (inr differ) = let old = h.are_marked.only register j is in (old.0, (set_other choices k j new differ ∙ old.1.0, old.1.1))

  pub noted_over : JoinsSoFar chosen (other ++ l ∷ []) size marks now
  noted_over = record {
    long = h.long;
    are_marked = now_marked;
    are = λ j d at. are j d at (same_or_not j k);
    left = λ j d at. left j d at (same_or_not j k);
    all = λ register m found none. all register m found none (same_or_not l.register register);
  }
    where
      are : (j : ℕ) (d : Choice) → slice_get now j ≡ Some d → (j ≡ k) ⊎ (j ≡ k → ⊥) → IsChoiceOfArms chosen (other ++ l ∷ []) d
      are j d at (inl e) =
          subst (λ (x : Choice). IsChoiceOfArms chosen (other ++ l ∷ []) x) (is_here j d e at)
          (record { chosen_is = (h.are k c at_k).chosen_is; other_is = sym (ap value_left last_is) })
      are j d at (inr differ) =
          let old = elsewhere j d differ at in
          moved_choice chosen other chosen (other ++ l ∷ []) d refl (first_other other l d.register (other_register j d differ old)) (h.are j d old)

      left : (j : ℕ) (d : Choice) → slice_get now j ≡ Some d → (j ≡ k) ⊎ (j ≡ k → ⊥)
          → (m : Left) × ((m.path ≡ d.path) × ((first_left chosen d.register ≡ Some m) ⊎ (first_left (other ++ l ∷ []) d.register ≡ Some m)))
      left j d at (inl e) =
          let old = h.left k c at_k in
          subst (λ (x : Choice). (m : Left) × ((m.path ≡ x.path) × ((first_left chosen x.register ≡ Some m) ⊎ (first_left (other ++ l ∷ []) x.register ≡ Some m)))) (is_here j d e at)
          (old.0, (old.1.0, left_more c.register old.0 old.1.1))
      left j d at (inr differ) = let old = h.left j d (elsewhere j d differ at) in (old.0, (old.1.0, left_more d.register old.0 old.1.1))

      all : (register : ℕ) (m : Left) → (first_left chosen register ≡ Some m) ⊎ (first_left (other ++ l ∷ []) register ≡ Some m) → slice_index marks register ≡ 0
          → (l.register ≡ register) ⊎ (l.register ≡ register → ⊥) → ⊥
      all register m found none (inl e) = never_both (slice_index marks l.register) k mark (ap (λ r. slice_index marks r) e ∙ none)
      all register m (inl e) none (inr differ) = h.all register m (inl e) none
      all register m (inr e) none (inr differ) = h.all register m (inr (sym (first_other other l register differ) ∙ e)) none

set_same : (xs : List Choice) (k : ℕ) (x : Choice) → slice_get xs k ≡ Some x → slice_set xs k x ≡ xs
set_same [] k x h = refl
set_same (y ∷ xs) zero x h = ap (λ (z : Choice). z ∷ xs) (sym (some_same y x h))
set_same (y ∷ xs) (suc k) x h = ap (λ (l : List Choice). y ∷ l) (set_same xs k x h)

abbrev OtherNow : (chosen other : List Left) (l : Left) (size : ℕ) (marks : List ℕ) (choices : List Choice) → Bool → Type 0
OtherNow chosen other l size marks choices b =
    JoinsSoFar chosen (other ++ l ∷ []) size (if b then slice_set marks l.register (length choices + 1) else marks) (if b then choices ++ second_choice l ∷ [] else other_marked marks choices l)

pub other_more : (current : List (Option ℕ)) (chosen other : List Left) (l : Left) (size : ℕ) (marks : List ℕ) (choices : List Choice) → l.register < length marks → AllByRecursion (IsLeft current) other
    → JoinsSoFar chosen other size marks choices → JoinsSoFar chosen (other ++ l ∷ []) size (chosen_marked marks choices l) (other_noted marks choices l)
other_more current chosen other l size marks choices room given h = by (zero_or_more (slice_index marks l.register))
  where
    fresh : slice_index marks l.register ≡ 0 → JoinsSoFar chosen (other ++ l ∷ []) size (slice_set marks l.register (length choices + 1)) (choices ++ second_choice l ∷ [])
    fresh free =
        let first = first_new other l l.register (none_other chosen other size marks choices h l.register free) refl in
        noted_new chosen other chosen (other ++ l ∷ []) size marks choices (second_choice l) h
        (λ r differ. refl) (λ r differ. first_other other l r (λ e. differ (sym e)))
        (record { chosen_is = sym (ap value_left (none_chosen chosen other size marks choices h l.register free)); other_is = sym (ap value_left first) }) (l, (refl, inr first)) room free

    -- its value behind the second arm is noted, or was
    over : (k : ℕ) (c : Choice) → slice_index marks l.register ≡ suc k → slice_get choices k ≡ Some c → c.register ≡ l.register
        → (o : Option Left) → first_left other l.register ≡ o → JoinsSoFar chosen (other ++ l ∷ []) size marks (slice_set choices k (with_other l.value c))
    over k c mark at same None free =
        subst (λ (v : Option ℕ). JoinsSoFar chosen (other ++ l ∷ []) size marks (slice_set choices k (record { register = c.register; path = c.path; chosen = c.chosen; other = v })))
        (sym (ap (λ v. other_or v l.value) nothing)) (noted_over chosen other size marks choices l k c h mark at same free)
      where
        nothing : c.other ≡ None
        nothing = (h.are k c at).other_is ∙ ap value_left (ap (λ r. first_left other r) same ∙ free)
    over k c mark at same (Some m) found =
        subst (λ (cs : List Choice). JoinsSoFar chosen (other ++ l ∷ []) size marks cs)
        (sym (ap (λ (v : Option ℕ). slice_set choices k (record { register = c.register; path = c.path; chosen = c.chosen; other = v })) kept ∙ set_same choices k c at))
        (joins_same chosen other chosen (other ++ l ∷ []) size marks choices h (λ r. refl) (first_same other l m found))
      where
        valued : IsLeft current m
        valued = (first_has (IsLeft current) other m l.register given found).0

        value_is : c.other ≡ Some valued.value
        value_is = (h.are k c at).other_is ∙ (ap value_left (ap (λ r. first_left other r) same ∙ found) ∙ valued.value_is)

        kept : other_or c.other l.value ≡ c.other
        kept = ap (λ v. other_or v l.value) value_is ∙ sym value_is

    held : (k : ℕ) → slice_index marks l.register ≡ suc k → JoinsSoFar chosen (other ++ l ∷ []) size marks (other_marked marks choices l)
    held k mark =
        let c = h.are_marked.only l.register k mark in
        let place : slice_index marks l.register - 1 ≡ k = omega (arith, mark) in
        let test : nat_lt l.register (length marks) ≡ true = grind (arith, nat_tests, room) in
        subst (λ (cs : List Choice). JoinsSoFar chosen (other ++ l ∷ []) size marks cs)
        (sym (ap (λ (b : Bool). if b then other_put choices (slice_index marks l.register - 1) l.value (slice_get choices (slice_index marks l.register - 1)) else choices) test
        ∙ (ap (λ n. other_put choices n l.value (slice_get choices n)) place
        ∙ ap (λ o. other_put choices k l.value o) c.1.0)))
        (over k c.0 mark c.1.0 c.1.1 (first_left other l.register) refl)

    by : (slice_index marks l.register ≡ 0) ⊎ ((k : ℕ) × (slice_index marks l.register ≡ suc k))
        → JoinsSoFar chosen (other ++ l ∷ []) size (chosen_marked marks choices l) (other_noted marks choices l)
    by (inl free) = subst (λ (b : Bool). OtherNow chosen other l size marks choices b) (sym (unmarked_is marks l.register room free)) (fresh free)
    by (inr (k, mark)) = subst (λ (b : Bool). OtherNow chosen other l size marks choices b) (sym (marked_is marks l.register k mark)) (held k mark)

-- Behind both arms.

pub joined_all : (chosen other : List Left) (size : ℕ) (marks : List ℕ) (choices : List Choice) → JoinsSoFar chosen other size marks choices → AreChoices chosen other choices
joined_all chosen other size marks choices h = record {
  are = h.are;
  left = h.left;
  one = λ k m c d at also same. let x = h.are_marked.marked k c at in let y = h.are_marked.marked m d also in let z : slice_index marks c.register ≡ slice_index marks d.register = ap (λ r. slice_index marks r) same in omega (arith, x, y, z);
  all = λ register l found. by register (zero_or_more (slice_index marks register)) (h.all register l found);
}
  where
    by : (register : ℕ) → (slice_index marks register ≡ 0) ⊎ ((k : ℕ) × (slice_index marks register ≡ suc k)) → (slice_index marks register ≡ 0 → ⊥)
        → (k : ℕ) × ((c : Choice) × ((slice_get choices k ≡ Some c) × (c.register ≡ register)))
    by register (inl free) never = absurd (never free)
    by register (inr (k, mark)) never = let c = h.are_marked.only register k mark in (k, (c.0, (c.1.0, c.1.1)))

set_zero : (marks : List ℕ) (r : ℕ) → slice_index (slice_set marks r 0) r ≡ 0
set_zero [] r = refl
set_zero (m ∷ marks) zero = refl
set_zero (m ∷ marks) (suc r) = set_zero marks r

cleared_at : (marks : List ℕ) (q r : ℕ) → (slice_index marks r ≡ 0) ⊎ (r ≡ q) → slice_index (slice_set marks q 0) r ≡ 0
cleared_at marks q r h = by h (same_or_not r q)
  where
    by : (slice_index marks r ≡ 0) ⊎ (r ≡ q) → (r ≡ q) ⊎ (r ≡ q → ⊥) → slice_index (slice_set marks q 0) r ≡ 0
    by any (inl e) = ap (λ n. slice_index (slice_set marks q 0) n) e ∙ set_zero marks q
    by (inl free) (inr differ) = index_other marks q r 0 differ ∙ free
    by (inr e) (inr differ) = absurd (differ e)

-- a register that is not marked, or is one of a choice, is marked no more
unmarked_at : (cs : List Choice) (marks : List ℕ) (r : ℕ) → (slice_index marks r ≡ 0) ⊎ ((k : ℕ) × ((c : Choice) × ((slice_get cs k ≡ Some c) × (c.register ≡ r)))) → slice_index (all_unmarked cs marks) r ≡ 0
unmarked_at [] marks r (inl free) = free
unmarked_at [] marks r (inr (k, (c, (at, is)))) = absurd (cc)
unmarked_at (d ∷ cs) marks r (inl free) = unmarked_at cs (slice_set marks d.register 0) r (inl (cleared_at marks d.register r (inl free)))
unmarked_at (d ∷ cs) marks r (inr (zero, (c, (at, is)))) =
    unmarked_at cs (slice_set marks d.register 0) r (inl (cleared_at marks d.register r (inr (sym (ap (λ (x : Choice). x.register) (some_same d c at) ∙ is)))))
unmarked_at (d ∷ cs) marks r (inr (suc k, (c, (at, is)))) = unmarked_at cs (slice_set marks d.register 0) r (inr (k, (c, (at, is))))

unmarked_long : (cs : List Choice) (marks : List ℕ) → length (all_unmarked cs marks) ≡ length marks
unmarked_long [] marks = refl
unmarked_long (c ∷ cs) marks = unmarked_long cs (slice_set marks c.register 0) ∙ set_long marks c.register 0

zeros_same : (xs ys : List ℕ) → length xs ≡ length ys → ((r : ℕ) → slice_index xs r ≡ 0) → ((r : ℕ) → slice_index ys r ≡ 0) → xs ≡ ys
zeros_same [] [] same a b = refl
zeros_same [] (y ∷ ys) same a b = absurd (cc)
zeros_same (x ∷ xs) [] same a b = absurd (cc)
zeros_same (x ∷ xs) (y ∷ ys) same a b =
    let head : x ≡ y = a 0 ∙ sym (b 0) in
    let tail : xs ≡ ys = zeros_same xs ys (less (length xs) (length ys) same) (λ r. a (suc r)) (λ r. b (suc r)) in
    cc
  where
    less : (n m : ℕ) → suc n ≡ suc m → n ≡ m
    less n m e = omega (arith, e)

-- the marks are those before any was noted
pub marks_back : (chosen other : List Left) (size : ℕ) (first marks : List ℕ) (choices : List Choice) → JoinsSoFar chosen other size marks choices → length first ≡ size → ((r : ℕ) → slice_index first r ≡ 0)
    → all_unmarked choices marks ≡ first
marks_back chosen other size first marks choices h long free =
    zeros_same (all_unmarked choices marks) first (unmarked_long choices marks ∙ (h.long ∙ sym long)) (λ r. unmarked_at choices marks r (by r (zero_or_more (slice_index marks r)))) free
  where
    by : (r : ℕ) → (slice_index marks r ≡ 0) ⊎ ((k : ℕ) × (slice_index marks r ≡ suc k)) → (slice_index marks r ≡ 0) ⊎ ((k : ℕ) × ((c : Choice) × ((slice_get choices k ≡ Some c) × (c.register ≡ r))))
    by r (inl none) = inl none
    by r (inr (k, mark)) = let c = h.are_marked.only r k mark in inr (k, (c.0, (c.1.0, c.1.1)))

-- A choice that has its second value keeps it.

index_any : (marks : List ℕ) (r d : ℕ) → r < length marks → get_or marks r d ≡ slice_index marks r
index_any [] r d within = absurd (none r within)
  where
    none : (n : ℕ) → n < 0 → ⊥
    none n e = omega (arith, e)
index_any (m ∷ marks) zero d within = refl
index_any (m ∷ marks) (suc r) d within = index_any marks r d (less r (length marks) within)
  where
    less : (n k : ℕ) → suc n < suc k → n < k
    less n k h = omega (arith, h)

pub mark_is : (marks : List ℕ) (r m : ℕ) → r < length marks → m ≡ get_or marks r m → m ≡ slice_index marks r
mark_is marks r m within is = is ∙ index_any marks r m within

marked_not : (marks : List ℕ) (r : ℕ) → (slice_index marks r ≡ 0 → ⊥) → is_unmarked marks r ≡ false
marked_not marks r h = by (zero_or_more (slice_index marks r))
  where
    by : (slice_index marks r ≡ 0) ⊎ ((k : ℕ) × (slice_index marks r ≡ suc k)) → is_unmarked marks r ≡ false
    by (inl free) = absurd (h free)
    by (inr (k, mark)) = marked_is marks r k mark

put_stays : (choices : List Choice) (n : ℕ) (value : Option ℕ) (o : Option Choice) → slice_get choices n ≡ o → ((c : Choice) → o ≡ Some c → other_or c.other value ≡ c.other) → choices ≡ other_put choices n value o
put_stays choices n value None at kept = refl
put_stays choices n value (Some c) at kept =
    sym (ap (λ (v : Option ℕ). slice_set choices n (record { register = c.register; path = c.path; chosen = c.chosen; other = v })) (kept c refl) ∙ set_same choices n c at)

pub other_stays : (marks : List ℕ) (choices : List Choice) (l : Left) (n : ℕ) → l.register < length marks → (slice_index marks l.register ≡ 0 → ⊥) → n ≡ slice_index marks l.register - 1
    → ((c : Choice) → slice_get choices n ≡ Some c → other_or c.other l.value ≡ c.other) → choices ≡ other_noted marks choices l
other_stays marks choices l n within mark place kept =
    let test : nat_lt l.register (length marks) ≡ true = grind (arith, nat_tests, within) in
    put_stays choices n l.value (slice_get choices n) refl kept
    ∙ (ap (λ k. other_put choices k l.value (slice_get choices k)) place
    ∙ (sym (ap (λ (b : Bool). if b then other_put choices (slice_index marks l.register - 1) l.value (slice_get choices (slice_index marks l.register - 1)) else choices) test)
    ∙ sym (ap (λ (b : Bool). if b then choices ++ second_choice l ∷ [] else other_marked marks choices l) (marked_not marks l.register mark))))

some_stays : (o value : Option ℕ) → is_some o ≡ true → other_or o value ≡ o
some_stays None value h = absurd (cc)
some_stays (Some v) value h = refl

pub has_other : (choices : List Choice) (n : ℕ) (x c : Choice) (value : Option ℕ) → n < length choices → x ≡ get_or choices n x → is_some x.other ≡ true → slice_get choices n ≡ Some c → other_or c.other value ≡ c.other
has_other choices n x c value within is some_other at =
    let same : x ≡ c = is ∙ some_same (get_or choices n x) c (sym (slice_get-get_or choices n x within) ∙ at) in
    some_stays c.other value (sym (ap (λ (y : Choice). is_some y.other) same) ∙ some_other)

pub no_choice : (choices : List Choice) (n : ℕ) (c : Choice) (value : Option ℕ) → length choices ≤ n → slice_get choices n ≡ Some c → other_or c.other value ≡ c.other
no_choice choices n c value past at = absurd (never n (length choices) (place_within choices n c at) past)
  where
    never : (a b : ℕ) → a < b → b ≤ a → ⊥
    never a b p q = omega (arith, p, q)
