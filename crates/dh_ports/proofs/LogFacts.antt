-- Logs as functions of the slot: a mark more, undoing from the end, lowering from the front.
use Rattle.std.proofs.Common.{◌≡◌, ℕ, zero, suc, ◌+◌, ◌-◌, ◌≤◌, ◌<◌, ◌==◌, Bool, true, false, List, [], ◌∷◌, ◌++◌, length, take, drop, get_or, append-nil, slice_index, slice_set, min, if◌then◌else◌, length-append, refl, ap, sym, ◌∙◌, subst, arith, ◌⊎◌, inl, inr}
use Rattle.std.proofs.lemmas.Bool.{eqb-true, cases_Bool}
use Rattle.std.proofs.lemmas.Option.{slice_get-get_or}
use Rattle.std.proofs.lemmas.List.{drop_all, length-set}
use Rattle.dh_ports.specs.declared.marks.SlotMark.{SlotMark}
use Rattle.dh_events.proofs.Turns.{at_place, index_set}
use Rattle.std.specs.Prelude.{Some, slice_get}
use Rattle.dh_ports.specs.Logs.{at_begin, least, AreSlotMarks, NotesLow, NotesLows, marks_now}

abbrev pub mark : ℕ → ℕ → SlotMark
mark slot left = record { slot = slot; left = left }

pub begin_more : (log : List SlotMark) (k v m x : ℕ) → at_begin (log ++ mark k v ∷ []) m x ≡ at_begin log m (if k == m then v else x)
begin_more [] k v m x = refl
begin_more (b ∷ log) k v m x = ap (λ n. if b.slot == m then b.left else n) (begin_more log k v m x)

pub take_more : {X : Type 0} (xs : List X) (k : ℕ) (d : X) → k < length xs → take (suc k) xs ≡ take k xs ++ get_or xs k d ∷ []
take_more [] k d within = elim (none k within) [ ]
  where
    none : (n : ℕ) → n < 0 → ⊥
    none n e = omega (arith, e)
take_more (x ∷ xs) zero d within = refl
take_more (x ∷ xs) (suc k) d within = ap (λ l. x ∷ l) (take_more xs k d (omega (arith, within)))

-- one mark of an undoing
pub undo_turn : (left : List ℕ) (log : List SlotMark) (i m w : ℕ) (d : SlotMark) → 0 < i → i ≤ length log → (get_or log (i - 1) d).slot < length left
    → at_begin (take i log) m (slice_index left m) ≡ w
    → at_begin (take (i - 1) log) m (slice_index (slice_set left (get_or log (i - 1) d).slot (get_or log (i - 1) d).left) m) ≡ w
undo_turn left log i m w d some within inside is =
    let last = get_or log (i - 1) d in
    let back : suc (i - 1) ≡ i = omega (arith, some) in
    let more : take i log ≡ take (i - 1) log ++ last ∷ [] = ap (λ n. take n log) (sym back) ∙ take_more log (i - 1) d (omega (arith, some, within)) in
    ap (λ x. at_begin (take (i - 1) log) m x) (index_set left last.slot last.left m inside)
    ∙ (sym (begin_more (take (i - 1) log) last.slot last.left m (slice_index left m)) ∙ (ap (λ l. at_begin l m (slice_index left m)) (sym more) ∙ is))

pub least_min : (lows : List SlotMark) (m a x : ℕ) → least lows m (min a x) ≡ min a (least lows m x)
least_min [] m a x = refl
least_min (b ∷ lows) m a x = by_test (b.slot == m) _ _ (least_min lows m a x)
  where
    swap : (u n k : ℕ) → n ≡ min a k → min u n ≡ min a (min u k)
    swap u n k e = grind (arith, e)

    by_test : (t : Bool) (n k : ℕ) → n ≡ min a k → (if t then min b.left n else n) ≡ min a (if t then min b.left k else k)
    by_test true n k e = swap b.left _ _ e
    by_test false n k e = e

pub least_low : (lows : List SlotMark) (m x : ℕ) → least lows m x ≤ x
least_low [] m x = omega arith
least_low (b ∷ lows) m x = by_test (b.slot == m) _ (least_low lows m x)
  where
    smaller : (u n k : ℕ) → n ≤ k → min u n ≤ k
    smaller u n k e = grind (arith, e)

    by_test : (t : Bool) (n : ℕ) → n ≤ x → (if t then min b.left n else n) ≤ x
    by_test true n e = smaller b.left _ _ e
    by_test false n e = e

-- one low that is below what is left
pub lower_turn : (left : List ℕ) (k v m : ℕ) (rest : List SlotMark) → k < length left → v < slice_index left k
    → least rest m (slice_index (slice_set left k v) m) ≡ least (mark k v ∷ rest) m (slice_index left m)
lower_turn left k v m rest inside less = ap (λ x. least rest m x) (index_set left k v m inside) ∙ by_test (cases_Bool (k == m))
  where
    smaller : (x : ℕ) → v < x → v ≡ min v x
    smaller x e = grind (arith, e)

    small : (k == m) ≡ true → v < slice_index left m
    small e = subst (λ (j : ℕ). v < slice_index left j) (eqb-true k m e) less

    by_test : ((k == m) ≡ true) ⊎ ((k == m) ≡ false) → least rest m (if k == m then v else slice_index left m) ≡ (if k == m then min v (least rest m (slice_index left m)) else least rest m (slice_index left m))
    by_test (inl e) = ap (λ t. least rest m (if t then v else slice_index left m)) e ∙ (ap (λ x. least rest m x) (smaller _ (small e)) ∙ (least_min rest m v (slice_index left m) ∙ sym (ap (λ t. if t then min v (least rest m (slice_index left m)) else least rest m (slice_index left m)) e)))
    by_test (inr e) = ap (λ t. least rest m (if t then v else slice_index left m)) e ∙ sym (ap (λ t. if t then min v (least rest m (slice_index left m)) else least rest m (slice_index left m)) e)

-- one low that is not
pub keep_turn : (left : List ℕ) (k v m : ℕ) (rest : List SlotMark) → slice_index left k ≤ v
    → least rest m (slice_index left m) ≡ least (mark k v ∷ rest) m (slice_index left m)
keep_turn left k v m rest more = by_test (cases_Bool (k == m))
  where
    larger : (x n : ℕ) → x ≤ v → n ≤ x → n ≡ min v n
    larger x n e f = grind (arith, e, f)

    large : (k == m) ≡ true → slice_index left m ≤ v
    large e = subst (λ (j : ℕ). slice_index left j ≤ v) (eqb-true k m e) more

    by_test : ((k == m) ≡ true) ⊎ ((k == m) ≡ false) → least rest m (slice_index left m) ≡ (if k == m then min v (least rest m (slice_index left m)) else least rest m (slice_index left m))
    by_test (inl e) = larger _ _ (large e) (least_low rest m (slice_index left m)) ∙ sym (ap (λ t. if t then min v (least rest m (slice_index left m)) else least rest m (slice_index left m)) e)
    by_test (inr e) = sym (ap (λ t. if t then min v (least rest m (slice_index left m)) else least rest m (slice_index left m)) e)

-- a change of what is left, with a mark of what was left
pub logged_turn : (left : List ℕ) (log : List SlotMark) (k v m : ℕ) → k < length left
    → at_begin (log ++ mark k (slice_index left k) ∷ []) m (slice_index (slice_set left k v) m) ≡ at_begin log m (slice_index left m)
logged_turn left log k v m inside =
    begin_more log k (slice_index left k) m (slice_index (slice_set left k v) m)
    ∙ ap (λ x. at_begin log m x) (ap (λ x. if k == m then slice_index left k else x) (index_set left k v m inside) ∙ by_test (cases_Bool (k == m)))
  where
    by_test : ((k == m) ≡ true) ⊎ ((k == m) ≡ false) → (if k == m then slice_index left k else (if k == m then v else slice_index left m)) ≡ slice_index left m
    by_test (inl e) = ap (λ t. if t then slice_index left k else (if t then v else slice_index left m)) e ∙ ap (λ j. slice_index left j) (eqb-true k m e)
    by_test (inr e) = ap (λ t. if t then slice_index left k else (if t then v else slice_index left m)) e

pub marks_more : (n : ℕ) (log : List SlotMark) (k v : ℕ) → AreSlotMarks n log → k < n → AreSlotMarks n (log ++ mark k v ∷ [])
marks_more n [] k v are inside zero b is = let e : mark k v ≡ b = cc in subst (λ (x : SlotMark). x.slot < n) e inside
marks_more n [] k v are inside (suc i) b is = cc
marks_more n (x ∷ log) k v are inside zero b is = are zero b is
marks_more n (x ∷ log) k v are inside (suc i) b is = marks_more n log k v (λ j c at. are (suc j) c at) inside i b is

pub no_marks : (n : ℕ) → AreSlotMarks n []
no_marks n i b is = cc

-- how far a lowering is: what is left, the log, and the lows still to come
pub record IsLowering (left0 : List ℕ) (log0 lows0 : List SlotMark) (left : List ℕ) (log lows : List SlotMark) : Type 0 where
  pub long : length left ≡ length left0
  pub lowered : (m : ℕ) → least lows m (slice_index left m) ≡ least lows0 m (slice_index left0 m)
  pub logged : (m : ℕ) → at_begin log m (slice_index left m) ≡ at_begin log0 m (slice_index left0 m)
  pub marks : AreSlotMarks (length left0) log0 → AreSlotMarks (length left0) log
  pub few : length log + length lows ≤ length log0 + length lows0

few_kept : (a r n : ℕ) → a + suc r ≤ n → a + r ≤ n
few_kept a r n h = omega (arith, h)

few_turn : (log : List SlotMark) (m : SlotMark) (r n : ℕ) → length log + suc r ≤ n → length (log ++ m ∷ []) + r ≤ n
few_turn log m r n h = let e : length (log ++ m ∷ []) ≡ length log + 1 = length-append log (m ∷ []) in omega (arith, h, e)

-- one low more, for a part of the loop's list
module _ (left0 : List ℕ) (log0 lows0 : List SlotMark) (left : List ℕ) (log lows : List SlotMark) (low : SlotMark) (rest : List SlotMark) (at : lows ≡ low ∷ rest) (before : IsLowering left0 log0 lows0 left log lows) where
  so : IsLowering left0 log0 lows0 left log (low ∷ rest)
  so = subst (λ (l : List SlotMark). IsLowering left0 log0 lows0 left log l) at before

  pub lowering_kept : (left1 : List ℕ) (log1 : List SlotMark) → left1 ≡ left → log1 ≡ log → slice_index left low.slot ≤ low.left → IsLowering left0 log0 lows0 left1 log1 rest
  lowering_kept left1 log1 e f more = subst (λ (l : List ℕ). IsLowering left0 log0 lows0 l log1 rest) (sym e) (subst (λ (l : List SlotMark). IsLowering left0 log0 lows0 left l rest) (sym f) (record {
    long = so.long;
    lowered = λ m. keep_turn left low.slot low.left m rest more ∙ so.lowered m;
    logged = so.logged;
    marks = so.marks;
    few = few_kept (length log) (length rest) (length log0 + length lows0) so.few;
  }))

  pub lowering_turn : (left1 : List ℕ) (log1 : List SlotMark) → left1 ≡ slice_set left low.slot low.left → log1 ≡ log ++ mark low.slot (slice_index left low.slot) ∷ [] → low.slot < length left0 → low.left < slice_index left low.slot → IsLowering left0 log0 lows0 left1 log1 rest
  lowering_turn left1 log1 e f inside less =
      let within = subst (λ (n : ℕ). low.slot < n) (sym so.long) inside in
      subst (λ (l : List ℕ). IsLowering left0 log0 lows0 l log1 rest) (sym e) (subst (λ (l : List SlotMark). IsLowering left0 log0 lows0 (slice_set left low.slot low.left) l rest) (sym f) (record {
        long = length-set left low.slot low.left ∙ so.long;
        lowered = λ m. lower_turn left low.slot low.left m rest within less ∙ so.lowered m;
        logged = λ m. logged_turn left log low.slot low.left m within ∙ so.logged m;
        marks = λ are. marks_more (length left0) log low.slot _ (so.marks are) inside;
        few = few_turn log (mark low.slot (slice_index left low.slot)) (length rest) (length log0 + length lows0) so.few;
      }))

pub undoing_turn : (n : ℕ) (left : List ℕ) (log : List SlotMark) (i m w : ℕ) (d : SlotMark) → AreSlotMarks n log → length left ≡ n → 0 < i → i ≤ length log
    → at_begin (take i log) m (slice_index left m) ≡ w
    → at_begin (take (i - 1) log) m (slice_index (slice_set left (get_or log (i - 1) d).slot (get_or log (i - 1) d).left) m) ≡ w
undoing_turn n left log i m w d are long some within is =
    let last : i - 1 < length log = omega (arith, some, within) in
    let inside = are (i - 1) (get_or log (i - 1) d) (slice_get-get_or log (i - 1) d last) in
    undo_turn left log i m w d some within (subst (λ (k : ℕ). (get_or log (i - 1) d).slot < k) (sym long) inside) is

pub any_default : {X : Type 0} (xs : List X) (i : ℕ) (d e : X) → i < length xs → get_or xs i d ≡ get_or xs i e
any_default [] i d e within = elim (none i within) [ ]
  where
    none : (n : ℕ) → n < 0 → ⊥
    none n f = omega (arith, f)
any_default (x ∷ xs) zero d e within = refl
any_default (x ∷ xs) (suc i) d e within = any_default xs i d e (omega (arith, within))

-- one port less of a slot, with a mark of what was left
module _ (left : List ℕ) (log log1 : List SlotMark) (k x v : ℕ) (inside : k < length left) (is : x ≡ get_or left k x) (more : log1 ≡ log ++ mark k x ∷ []) where
  pub spent_begun : (m : ℕ) → at_begin log1 m (slice_index (slice_set left k v) m) ≡ at_begin log m (slice_index left m)
  spent_begun m =
      ap (λ l. at_begin l m (slice_index (slice_set left k v) m)) (more ∙ ap (λ n. log ++ mark k n ∷ []) (is ∙ any_default left k x 0 inside))
      ∙ logged_turn left log k v m inside

  pub spent_marks : AreSlotMarks (length left) log → AreSlotMarks (length (slice_set left k v)) log1
  spent_marks are = subst (λ (n : ℕ). AreSlotMarks n log1) (sym (length-set left k v)) (subst (λ (l : List SlotMark). AreSlotMarks (length left) l) (sym more) (marks_more (length left) log k x are inside))

-- the lows after a part
least_append : (a b : List SlotMark) (m x : ℕ) → least (a ++ b) m x ≡ least a m (least b m x)
least_append [] b m x = refl
least_append (k ∷ a) b m x = ap (λ n. if k.slot == m then min k.left n else n) (least_append a b m x)

abbrev Noted : List ℕ → List SlotMark → ℕ → ℕ → Type 0
Noted left log m x = (least (marks_now left log) m x ≡ min (slice_index left m) x) ⊎ ((least (marks_now left log) m x ≡ x) × ((y : ℕ) → at_begin log m y ≡ y))

noted : (left : List ℕ) (log : List SlotMark) (m x : ℕ) → Noted left log m x
noted left [] m x = inr (refl, λ y. refl)
noted left (k ∷ log) m x = by_test (cases_Bool (k.slot == m)) (noted left log m x)
  where
    twice : (e r x : ℕ) → r ≡ min e x → min e r ≡ min e x
    twice e r x p = grind (arith, p)

    here : (k.slot == m) ≡ true → (r : ℕ) → least (marks_now left (k ∷ log)) m x ≡ min (slice_index left m) (least (marks_now left log) m x)
    here e r = ap (λ t. if t then min (slice_index left k.slot) (least (marks_now left log) m x) else least (marks_now left log) m x) e ∙ ap (λ j. min (slice_index left j) (least (marks_now left log) m x)) (eqb-true k.slot m e)

    by_test : ((k.slot == m) ≡ true) ⊎ ((k.slot == m) ≡ false) → Noted left log m x → Noted left (k ∷ log) m x
    by_test (inl e) (inl p) = inl (here e 0 ∙ twice _ _ _ p)
    by_test (inl e) (inr p) = inl (here e 0 ∙ ap (λ n. min (slice_index left m) n) p.0)
    by_test (inr e) (inl p) = inl (ap (λ t. if t then min (slice_index left k.slot) (least (marks_now left log) m x) else least (marks_now left log) m x) e ∙ p)
    by_test (inr e) (inr p) = inr (ap (λ t. if t then min (slice_index left k.slot) (least (marks_now left log) m x) else least (marks_now left log) m x) e ∙ p.0, λ y. ap (λ t. if t then k.left else at_begin log m y) e ∙ p.1 y)

least_swap : (lows : List SlotMark) (m a x : ℕ) → least lows m (min a x) ≡ min (least lows m x) a
least_swap lows m a x = least_min lows m a x ∙ swap a _
  where
    swap : (u v : ℕ) → min u v ≡ min v u
    swap u v = grind arith

pub lows_after : (lows log : List SlotMark) (left : List ℕ) (m b : ℕ) → at_begin log m (slice_index left m) ≡ b → least (lows ++ marks_now left log) m b ≡ min (least lows m b) (slice_index left m)
lows_after lows log left m b begun = least_append lows (marks_now left log) m b ∙ by_note (noted left log m b)
  where
    itself : (e x : ℕ) → e ≡ x → x ≡ min e x
    itself e x p = grind (arith, p)

    by_note : Noted left log m b → least lows m (least (marks_now left log) m b) ≡ min (least lows m b) (slice_index left m)
    by_note (inl p) = ap (λ n. least lows m n) p ∙ least_swap lows m (slice_index left m) b
    by_note (inr p) = ap (λ n. least lows m n) (p.0 ∙ itself (slice_index left m) b (sym (p.1 (slice_index left m)) ∙ begun)) ∙ least_swap lows m (slice_index left m) b

-- Lows in place of lows of the same slots.

pub mark_there : (marks : List SlotMark) (place : ℕ) (b : SlotMark) → slice_get marks place ≡ Some b → place < length marks
mark_there [] place b e = cc
mark_there (c ∷ marks) zero b e = some (length marks)
  where
    some : (n : ℕ) → 0 < suc n
    some n = omega arith
mark_there (c ∷ marks) (suc place) b e = next place (length marks) (mark_there marks place b e)
  where
    next : (k n : ℕ) → k < n → suc k < suc n
    next k n h = omega (arith, h)

same_mark : (a b : SlotMark) → Some a ≡ Some b → a ≡ b
same_mark a b e = cc

lower_known : (lows : List SlotMark) (i k v w m x : ℕ) → slice_get lows i ≡ Some (mark k w) → least (slice_set lows i (mark k (min w v))) m x ≡ least (lows ++ mark k v ∷ []) m x
lower_known [] i k v w m x e = cc
lower_known (b ∷ lows) zero k v w m x e =
    by_test (k == m)
    ∙ (sym (ap (λ n. if k == m then min w n else n) (least_append lows (mark k v ∷ []) m x))
    ∙ sym (ap (λ c. least ((c ∷ lows) ++ mark k v ∷ []) m x) (same_mark b (mark k w) e)))
  where
    grouped : (a c n : ℕ) → min (min a c) n ≡ min a (min c n)
    grouped a c n = grind arith

    by_test : (t : Bool) → (if t then min (min w v) (least lows m x) else least lows m x) ≡ (if t then min w (least lows m (if t then min v x else x)) else least lows m (if t then min v x else x))
    by_test true = grouped w v (least lows m x) ∙ ap (λ n. min w n) (sym (least_min lows m v x))
    by_test false = refl
lower_known (b ∷ lows) (suc i) k v w m x e = ap (λ n. if b.slot == m then min b.left n else n) (lower_known lows i k v w m x e)

set_marks : (n : ℕ) (lows : List SlotMark) (i : ℕ) (b : SlotMark) → b.slot < n → AreSlotMarks n lows → AreSlotMarks n (slice_set lows i b)
set_marks n [] i b inside are j c e = are j c e
set_marks n (x ∷ lows) zero b inside are zero c e = subst (λ (y : SlotMark). y.slot < n) (same_mark b c e) inside
set_marks n (x ∷ lows) zero b inside are (suc j) c e = are (suc j) c e
set_marks n (x ∷ lows) (suc i) b inside are zero c e = are zero c e
set_marks n (x ∷ lows) (suc i) b inside are (suc j) c e = set_marks n lows i b inside (λ l d f. are (suc l) d f) j c e

-- a low is added, or put in the place of one of its slot
pub low_added : (old new : List SlotMark) (low : SlotMark) → new ≡ old ++ low ∷ [] → NotesLow old new low
low_added old new low e = record {
  noted = λ m x. ap (λ l. least l m x) e;
  marks = λ n inside are. subst (λ (l : List SlotMark). AreSlotMarks n l) (sym e) (marks_more n old low.slot low.left are inside);
}

pub low_put : (old new : List SlotMark) (place before left : ℕ) (low : SlotMark) → slice_get old place ≡ Some (mark low.slot before) → left ≡ min before low.left → new ≡ slice_set old place (mark low.slot left) → NotesLow old new low
low_put old new place before left low at is e = record {
  noted = λ m x. ap (λ l. least l m x) so ∙ lower_known old place low.slot low.left before m x at;
  marks = λ n inside are. subst (λ (l : List SlotMark). AreSlotMarks n l) (sym so) (set_marks n old place (mark low.slot (min before low.left)) inside are);
}
  where
    so : new ≡ slice_set old place (mark low.slot (min before low.left))
    so = e ∙ ap (λ n. slice_set old place (mark low.slot n)) is

-- one mark of the log more
module _ (left : List ℕ) (log : List SlotMark) (i : ℕ) (d : SlotMark) (start old new : List SlotMark) (inside : i < length log) (note : NotesLow old new (mark (get_or log i d).slot (slice_index left (get_or log i d).slot))) where
  pub lows_turn : ((m x : ℕ) → least (old ++ marks_now left (drop i log)) m x ≡ least (start ++ marks_now left log) m x) → (m x : ℕ) → least (new ++ marks_now left (drop (i + 1) log)) m x ≡ least (start ++ marks_now left log) m x
  lows_turn so m x =
      least_append new (marks_now left (drop (i + 1) log)) m x
      ∙ (note.noted m (least (marks_now left (drop (i + 1) log)) m x)
      ∙ (least_append old (mark (get_or log i d).slot (slice_index left (get_or log i d).slot) ∷ []) m (least (marks_now left (drop (i + 1) log)) m x)
      ∙ (sym (least_append old (mark (get_or log i d).slot (slice_index left (get_or log i d).slot) ∷ marks_now left (drop (i + 1) log)) m x)
      ∙ (ap (λ l. least (old ++ marks_now left l) m x) (sym (at_place log i d inside))
      ∙ so m x))))

  pub lows_marks : ((n : ℕ) → AreSlotMarks n log → AreSlotMarks n start → AreSlotMarks n old) → (n : ℕ) → AreSlotMarks n log → AreSlotMarks n start → AreSlotMarks n new
  lows_marks so n are first = note.marks n (are i (get_or log i d) (slice_get-get_or log i d inside)) (so n are first)

pub lows_done : (left : List ℕ) (log : List SlotMark) (i : ℕ) (start old : List SlotMark) → length log ≤ i → ((m x : ℕ) → least (old ++ marks_now left (drop i log)) m x ≡ least (start ++ marks_now left log) m x) → ((n : ℕ) → AreSlotMarks n log → AreSlotMarks n start → AreSlotMarks n old) → NotesLows left log start old
lows_done left log i start old past so marks = record {
  noted = λ m x.
      ap (λ l. least l m x) (sym (append-nil old)) ∙ (ap (λ l. least (old ++ marks_now left l) m x) (sym (drop_all i log past)) ∙ so m x);
  marks = marks;
}
