-- Banks with one access more.
use Rattle.std.proofs.Common.{◌≡◌, ℕ, zero, suc, ◌+◌, ◌<◌, ◌≤◌, ◌==◌, ◌&&◌, ◌||◌, not, nat_lt, Bool, true, false, if◌then◌else◌, List, [], ◌∷◌, ◌++◌, length, get_or, ◌⊎◌, inl, inr, Some, None, Ok, refl, ap, sym, ◌∙◌, subst, arith, append_assoc, append-nil}
use Rattle.std.specs.Prelude.{nat_eq, slice_get, slice_set}
use Rattle.std.specs.Set.{distinct_count}
use Rattle.std.proofs.lemmas.Bool.{eqb-true, eq-eqb, cases_Bool}
use Rattle.std.proofs.lemmas.Bool.Decides.{nat_tests}
use Rattle.std.proofs.lemmas.List.{get_or-set_same, get_or-set_other, length-set}
use Rattle.std.proofs.lemmas.List.Folds.{list_any-append}
use Rattle.std.proofs.lemmas.Option.{slice_get_cases, slice_get-get_or, slice_get_past}
use Rattle.dh_base.specs.declared.places.Place.{Place}
use Rattle.dh_base.specs.declared.outcomes.Outcome.{Outcome}
use Rattle.dh_base.specs.declared.outcomes.Outcome.TheVariants.{Stuck}
use Rattle.dh_tree.specs.declared.tables.MemEntry.{MemEntry}
use Rattle.dh_tree.specs.Elements.{Spot, ports_at, banks_of}
use Rattle.dh_code.specs.Banks.{HasBank}
use Rattle.dh_meaning.specs.Effects.{Event, reads, writes, faults, is_at, spends_beyond, rows_read, writes_made, spent, stop_after}
use Rattle.dh_code.specs.declared.spending.Bank.{Bank}
use Rattle.dh_code.specs.Banks.{first_bank, all_banks}
use Rattle.dh_code.specs.Spent.{rows_now, left_now, has_row, ReadsRow, WritesRow, HasSpent, HaveSpent, AreUsedBy}
use Rattle.dh_code.proofs.RowsRead.{extra, read_has, read_length, read_writes, write_rows, write_writes}

-- what follows events without a stop
pub stop_more : (table : List MemEntry) (before es rest : List Event) → stop_after table before es ≡ None → stop_after table before (es ++ rest) ≡ stop_after table (before ++ es) rest
stop_more table before [] rest h = ap (λ l. stop_after table l rest) (sym (append-nil before))
stop_more table before (reads n p x s ∷ es) rest h =
    by (spends_beyond table (before ++ reads n p x s ∷ []) s) (stop_more table (before ++ reads n p x s ∷ []) es rest) h
  where
    by : (t : Bool) → (stop_after table (before ++ reads n p x s ∷ []) es ≡ None → stop_after table (before ++ reads n p x s ∷ []) (es ++ rest) ≡ stop_after table ((before ++ reads n p x s ∷ []) ++ es) rest)
        → (if t then Some (Stuck s.memory s.bank p) else stop_after table (before ++ reads n p x s ∷ []) es) ≡ None
        → (if t then Some (Stuck s.memory s.bank p) else stop_after table (before ++ reads n p x s ∷ []) (es ++ rest)) ≡ stop_after table (before ++ reads n p x s ∷ es) rest
    by true further h = absurd cc
    by false further h = further h ∙ ap (λ l. stop_after table l rest) (append_assoc before (reads n p x s ∷ []) es)
stop_more table before (writes n p x s v ∷ es) rest h =
    by (spends_beyond table (before ++ writes n p x s v ∷ []) s) (stop_more table (before ++ writes n p x s v ∷ []) es rest) h
  where
    by : (t : Bool) → (stop_after table (before ++ writes n p x s v ∷ []) es ≡ None → stop_after table (before ++ writes n p x s v ∷ []) (es ++ rest) ≡ stop_after table ((before ++ writes n p x s v ∷ []) ++ es) rest)
        → (if t then Some (Stuck s.memory s.bank p) else stop_after table (before ++ writes n p x s v ∷ []) es) ≡ None
        → (if t then Some (Stuck s.memory s.bank p) else stop_after table (before ++ writes n p x s v ∷ []) (es ++ rest)) ≡ stop_after table (before ++ writes n p x s v ∷ es) rest
    by true further h = absurd cc
    by false further h = further h ∙ ap (λ l. stop_after table l rest) (append_assoc before (writes n p x s v ∷ []) es)
stop_more table before (faults n p x kind ∷ es) rest h = absurd cc

-- a stop stays, whatever follows
pub stop_stays : (table : List MemEntry) (before es rest : List Event) (o : Outcome) → stop_after table before es ≡ Some o → stop_after table before (es ++ rest) ≡ Some o
stop_stays table before [] rest o h = absurd cc
stop_stays table before (reads n p x s ∷ es) rest o h =
    by (spends_beyond table (before ++ reads n p x s ∷ []) s) (stop_stays table (before ++ reads n p x s ∷ []) es rest o) h
  where
    by : (t : Bool) → (stop_after table (before ++ reads n p x s ∷ []) es ≡ Some o → stop_after table (before ++ reads n p x s ∷ []) (es ++ rest) ≡ Some o)
        → (if t then Some (Stuck s.memory s.bank p) else stop_after table (before ++ reads n p x s ∷ []) es) ≡ Some o
        → (if t then Some (Stuck s.memory s.bank p) else stop_after table (before ++ reads n p x s ∷ []) (es ++ rest)) ≡ Some o
    by true further h = h
    by false further h = further h
stop_stays table before (writes n p x s v ∷ es) rest o h =
    by (spends_beyond table (before ++ writes n p x s v ∷ []) s) (stop_stays table (before ++ writes n p x s v ∷ []) es rest o) h
  where
    by : (t : Bool) → (stop_after table (before ++ writes n p x s v ∷ []) es ≡ Some o → stop_after table (before ++ writes n p x s v ∷ []) (es ++ rest) ≡ Some o)
        → (if t then Some (Stuck s.memory s.bank p) else stop_after table (before ++ writes n p x s v ∷ []) es) ≡ Some o
        → (if t then Some (Stuck s.memory s.bank p) else stop_after table (before ++ writes n p x s v ∷ []) (es ++ rest)) ≡ Some o
    by true further h = h
    by false further h = further h
stop_stays table before (faults n p x kind ∷ es) rest o h = h

pub get_other : {A : Type 0} (xs : List A) (k m : ℕ) (v : A) → (k == m) ≡ false → slice_get (slice_set xs k v) m ≡ slice_get xs m
get_other {A} xs k m v other = by (slice_get_cases xs m).1
  where
    ne : m ≡ k → ⊥
    ne i = let g : (k == m) ≡ true = eq-eqb k m (sym i) in cc

    by : ((x : A) × (m < length xs) × (slice_get xs m ≡ Some x) × (get_or xs m x ≡ x)) ⊎ ((length xs ≤ m) × (slice_get xs m ≡ None)) → slice_get (slice_set xs k v) m ≡ slice_get xs m
    by (inl e) =
        slice_get-get_or (slice_set xs k v) m e.0 (subst (λ (n : ℕ). m < n) (sym (length-set xs k v)) e.1)
        ∙ (ap Some (get_or-set_other xs k m v e.0 (λ i. elim (ne i) [ ])) ∙ (ap Some e.3 ∙ sym e.2))
    by (inr e) = slice_get_past (slice_set xs k v) m (subst (λ (n : ℕ). n ≤ m) (sym (length-set xs k v)) e.0) ∙ sym e.1

pub get_same : {A : Type 0} (xs : List A) (k : ℕ) (v : A) → k < length xs → slice_get (slice_set xs k v) k ≡ Some v
get_same xs k v within = slice_get-get_or (slice_set xs k v) k v (subst (λ (n : ℕ). k < n) (sym (length-set xs k v)) within) ∙ ap Some (get_or-set_same xs k v v within)

some_same : {A : Type 0} (a b : A) → Some a ≡ Some b → a ≡ b
some_same a b e = cc

at_itself : (s : Spot) → is_at s s.memory s.bank ≡ true
at_itself s = ap (λ (b : Bool). b && (s.bank == s.bank)) (eq-eqb s.memory s.memory refl) ∙ eq-eqb s.bank s.bank refl

not_beyond : (p l n : ℕ) → l + n ≡ p → nat_lt p n ≡ false
not_beyond p l n e = grind (arith, nat_tests)

beyond : (p n n' : ℕ) → n ≡ p → n' ≡ suc n → nat_lt p n' ≡ true
beyond p n n' e f = grind (arith, nat_tests)

has_added : (rows : List ℕ) (row r : ℕ) → has_row (if has_row rows row then rows else rows ++ row ∷ []) r ≡ ((row == r) || has_row rows r)
has_added rows row r = by (has_row rows row) refl (cases_Bool (row == r))
  where
    last : (x y : Bool) → (x || (y || false)) ≡ (y || x)
    last true true = refl
    last true false = refl
    last false true = refl
    last false false = refl

    by : (b : Bool) → has_row rows row ≡ b → ((row == r) ≡ true) ⊎ ((row == r) ≡ false) → has_row (if b then rows else rows ++ row ∷ []) r ≡ ((row == r) || has_row rows r)
    by true h (inl e) = ap (λ n. has_row rows n) (sym (eqb-true row r e)) ∙ (h ∙ ap (λ b. b || has_row rows r) (sym e))
    by true h (inr e) = ap (λ b. b || has_row rows r) (sym e)
    by false h e = list_any-append (λ k. k == r) rows (row ∷ []) ∙ last (has_row rows r) (row == r)

module _ (table : List MemEntry) (es : List Event) (s : Spot) (now : ℕ) (old new : Bank) (h : HasSpent table es s.memory s.bank now old) (step : new.step ≡ now) where
  abbrev ports : ℕ
  ports = ports_at table s.memory

  rows_new : rows_now new now ≡ new.rows.items
  rows_new = ap (λ (b : Bool). if b then new.rows.items else []) (eq-eqb new.step now step)

  left_new : left_now new ports now ≡ new.left
  left_new = ap (λ (b : Bool). if b then new.left else ports) (eq-eqb new.step now step)

  module _ (place : Place) where
    abbrev after_read : List Event
    after_read = es ++ reads 0 place [] s ∷ []

    -- as many distinct rows as before, or one more
    more_rows : distinct_count nat_eq (rows_read after_read s.memory s.bank) ≡ extra (not (has_row (rows_now old now) s.row)) + distinct_count nat_eq (rows_read es s.memory s.bank)
    more_rows =
        read_length s.memory s.bank es place s
        ∙ (ap (λ (a : Bool). extra (a && not (has_row (rows_read es s.memory s.bank) s.row)) + distinct_count nat_eq (rows_read es s.memory s.bank)) (at_itself s)
        ∙ ap (λ (a : Bool). extra (not a) + distinct_count nat_eq (rows_read es s.memory s.bank)) (sym (h.rows s.row)))

    more_spent : spent after_read s.memory s.bank ≡ extra (not (has_row (rows_now old now) s.row)) + spent es s.memory s.bank
    more_spent = sums _ _ _ _ _ more_rows (read_writes s.memory s.bank es place s)
      where
        sums : (l l' x w w' : ℕ) → l' ≡ x + l → w' ≡ w → l' + w' ≡ x + (l + w)
        sums l l' x w w' e f = omega (arith, e, f)

    pub read_spent : ReadsRow (rows_now old now) (left_now old ports now) s.row (Ok true) new.rows.items new.left → HasSpent table after_read s.memory s.bank now new
    read_spent r = record {
      rows = λ k. ap (λ l. has_row l k) (rows_new ∙ r.0) ∙ (has_added (rows_now old now) s.row k ∙ (ap (λ b. (s.row == k) || b) (h.rows k) ∙ sym (read_has s.memory s.bank es place s k ∙ ap (λ (a : Bool). (a && (s.row == k)) || has_row (rows_read es s.memory s.bank) k) (at_itself s))));
      left = counted (has_row (rows_now old now) s.row) (left_now old ports now) (left_now new ports now) new.left (spent es s.memory s.bank) (spent after_read s.memory s.bank) ports left_new r.1 more_spent h.left;
    }
      where
        counted : (b : Bool) (l l' k n n' p : ℕ) → l' ≡ k → l ≡ (if b then k else suc k) → n' ≡ extra (not b) + n → l + n ≡ p → l' + n' ≡ p
        counted true l l' k n n' p e f g i = omega (arith, e, f, g, i)
        counted false l l' k n n' p e f g i = omega (arith, e, f, g, i)

    pub read_beyond : ReadsRow (rows_now old now) (left_now old ports now) s.row (Ok false) new.rows.items new.left → spends_beyond table after_read s ≡ true
    read_beyond r = beyond ports (spent es s.memory s.bank) (spent after_read s.memory s.bank) (none (left_now old ports now) _ _ r.1 h.left) (more_spent ∙ ap (λ (b : Bool). extra (not b) + spent es s.memory s.bank) r.0 ∙ one (spent es s.memory s.bank))
      where
        none : (l n p : ℕ) → l ≡ 0 → l + n ≡ p → n ≡ p
        none l n p e f = omega (arith, e, f)

        one : (n : ℕ) → 1 + n ≡ suc n
        one n = omega arith

  module _ (place : Place) (value : ℕ) where
    abbrev after_write : List Event
    after_write = es ++ writes 0 place [] s value ∷ []

    more_writes : spent after_write s.memory s.bank ≡ suc (spent es s.memory s.bank)
    more_writes =
        sums _ _ _ _ (ap (λ rows. distinct_count nat_eq rows) (write_rows s.memory s.bank es place s value))
        (write_writes s.memory s.bank es place s value ∙ ap (λ (a : Bool). extra a + writes_made es s.memory s.bank) (at_itself s))
      where
        sums : (l l' w w' : ℕ) → l' ≡ l → w' ≡ 1 + w → l' + w' ≡ suc (l + w)
        sums l l' w w' e f = omega (arith, e, f)

    pub write_spent : WritesRow (rows_now old now) (left_now old ports now) true new.rows.items new.left → HasSpent table after_write s.memory s.bank now new
    write_spent r = record {
      rows = λ k. ap (λ l. has_row l k) (rows_new ∙ r.0) ∙ (h.rows k ∙ ap (λ rows. has_row rows k) (sym (write_rows s.memory s.bank es place s value)));
      left = counted (left_now old ports now) (left_now new ports now) new.left (spent es s.memory s.bank) (spent after_write s.memory s.bank) ports left_new r.1 more_writes h.left;
    }
      where
        counted : (l l' k n n' p : ℕ) → l' ≡ k → l ≡ suc k → n' ≡ suc n → l + n ≡ p → l' + n' ≡ p
        counted l l' k n n' p e f g i = omega (arith, e, f, g, i)

    pub write_beyond : WritesRow (rows_now old now) (left_now old ports now) false new.rows.items new.left → spends_beyond table after_write s ≡ true
    write_beyond r = beyond ports (spent es s.memory s.bank) (spent after_write s.memory s.bank) (none (left_now old ports now) _ _ r h.left) more_writes
      where
        none : (l n p : ℕ) → l ≡ 0 → l + n ≡ p → n ≡ p
        none l n p e f = omega (arith, e, f)

-- other banks
other_read : (table : List MemEntry) (es : List Event) (place : Place) (s : Spot) (now m n : ℕ) (b : Bank) → is_at s m n ≡ false → HasSpent table es m n now b → HasSpent table (es ++ reads 0 place [] s ∷ []) m n now b
other_read table es place s now m n b other h = record {
  rows = λ k. h.rows k ∙ sym (read_has m n es place s k ∙ ap (λ (a : Bool). (a && (s.row == k)) || has_row (rows_read es m n) k) other);
  left = ap (λ n. left_now b (ports_at table m) now + n) (sums _ _ _ _
      (read_length m n es place s ∙ ap (λ (a : Bool). extra (a && not (has_row (rows_read es m n) s.row)) + distinct_count nat_eq (rows_read es m n)) other)
      (read_writes m n es place s)) ∙ h.left;
}
  where
    sums : (l l' w w' : ℕ) → l' ≡ 0 + l → w' ≡ w → l' + w' ≡ l + w
    sums l l' w w' e f = omega (arith, e, f)

other_write : (table : List MemEntry) (es : List Event) (place : Place) (s : Spot) (value now m n : ℕ) (b : Bank) → is_at s m n ≡ false → HasSpent table es m n now b → HasSpent table (es ++ writes 0 place [] s value ∷ []) m n now b
other_write table es place s value now m n b other h = record {
  rows = λ k. h.rows k ∙ ap (λ rows. has_row rows k) (sym (write_rows m n es place s value));
  left = ap (λ n. left_now b (ports_at table m) now + n) (sums _ _ _ _
      (ap (λ rows. distinct_count nat_eq rows) (write_rows m n es place s value))
      (write_writes m n es place s value ∙ ap (λ (a : Bool). extra a + writes_made es m n) other)) ∙ h.left;
}
  where
    sums : (l l' w w' : ℕ) → l' ≡ l → w' ≡ 0 + w → l' + w' ≡ l + w
    sums l l' w w' e f = omega (arith, e, f)

-- banks of two numbers are one bank
abbrev number_of : List MemEntry → ℕ → ℕ → ℕ
number_of table m n = first_bank table m + n

same_bank : (table : List MemEntry) (m n m' n' : ℕ) → HasBank table m n → HasBank table m' n' → number_of table m n ≡ number_of table m' n' → (m ≡ m') × (n ≡ n')
same_bank [] m n m' n' h k e = absurd (never m h.0)
  where
    never : (m : ℕ) → m < 0 → ⊥
    never m e = omega (arith, e)
same_bank (x ∷ table) zero n zero n' h k e = (refl, omega (arith, e))
same_bank (x ∷ table) zero n (suc m') n' h k e = absurd (apart _ _ _ _ h.1 e)
  where
    apart : (n b f n' : ℕ) → n < b → 0 + n ≡ (b + f) + n' → ⊥
    apart n b f n' l e = omega (arith, l, e)
same_bank (x ∷ table) (suc m) n zero n' h k e = absurd (apart _ _ _ _ k.1 (sym e))
  where
    apart : (n b f n' : ℕ) → n < b → 0 + n ≡ (b + f) + n' → ⊥
    apart n b f n' l e = omega (arith, l, e)
same_bank (x ∷ table) (suc m) n (suc m') n' h k e =
    let r = same_bank table m n m' n' (less m (length table) h.0, h.1) (less m' (length table) k.0, k.1) (behind (banks_of x.shape.dims) _ _ n n' e) in
    (ap suc r.0, r.1)
  where
    less : (m l : ℕ) → suc m < suc l → m < l
    less m l e = omega (arith, e)

    behind : (b f f' n n' : ℕ) → (b + f) + n ≡ (b + f') + n' → f + n ≡ f' + n'
    behind b f f' n n' e = omega (arith, e)

apart : (s : Spot) (m n : ℕ) → ((s.memory ≡ m) × (s.bank ≡ n) → ⊥) → is_at s m n ≡ false
apart s m n no_bank = by (cases_Bool (s.memory == m)) (cases_Bool (s.bank == n))
  where
    by : ((s.memory == m) ≡ true) ⊎ ((s.memory == m) ≡ false) → ((s.bank == n) ≡ true) ⊎ ((s.bank == n) ≡ false) → is_at s m n ≡ false
    by (inl a) (inl b) = absurd (no_bank (eqb-true s.memory m a, eqb-true s.bank n b))
    by (inl a) (inr b) = ap (λ (t : Bool). t && (s.bank == n)) a ∙ b
    by (inr a) b = ap (λ (t : Bool). t && (s.bank == n)) a

pub number_within : (table : List MemEntry) (m n : ℕ) → HasBank table m n → number_of table m n < all_banks table
number_within [] m n h = absurd (never m h.0)
  where
    never : (m : ℕ) → m < 0 → ⊥
    never m e = omega (arith, e)
number_within (x ∷ table) zero n h = first _ _ _ h.1
  where
    first : (n b a : ℕ) → n < b → 0 + n < b + a
    first n b a e = omega (arith, e)
number_within (x ∷ table) (suc m) n h = later _ _ n _ (number_within table m n (less m (length table) h.0, h.1))
  where
    less : (m l : ℕ) → suc m < suc l → m < l
    less m l e = omega (arith, e)

    later : (b f n a : ℕ) → f + n < a → (b + f) + n < b + a
    later b f n a e = omega (arith, e)

pub used_set : (now : ℕ) (banks : List Bank) (k : ℕ) (b : Bank) → b.step ≤ now → AreUsedBy now banks → AreUsedBy now (slice_set banks k b)
used_set now [] k b e h = tt
used_set now (x ∷ banks) zero b e h = (e, h.1)
used_set now (x ∷ banks) (suc k) b e h = (h.0, used_set now banks k b e h.1)

-- what holds of each bank, where one of them is changed
module _ (table : List MemEntry) (es es' : List Event) (now : ℕ) (s : Spot) (banks : List Bank) (new : Bank) (there : HasBank table s.memory s.bank) (long : length banks ≡ all_banks table)
    (others : (m n : ℕ) (b : Bank) → is_at s m n ≡ false → HasSpent table es m n now b → HasSpent table es' m n now b) where
  abbrev k : ℕ
  k = number_of table s.memory s.bank

  pub within : k < length banks
  within = subst (λ (n : ℕ). k < n) (sym long) (number_within table s.memory s.bank there)

  pub set_banks : HaveSpent table es now banks → HasSpent table es' s.memory s.bank now new
      → (m n : ℕ) (b : Bank) → HasBank table m n → slice_get (slice_set banks k new) (number_of table m n) ≡ Some b → HasSpent table es' m n now b
  set_banks h more m n b has at = by (cases_Bool (k == number_of table m n))
    where
      by : ((k == number_of table m n) ≡ true) ⊎ ((k == number_of table m n) ≡ false) → HasSpent table es' m n now b
      by (inl e) =
          let same = eqb-true k (number_of table m n) e in
          let is : new ≡ b = some_same new b (sym (get_same banks k new within) ∙ (ap (λ j. slice_get (slice_set banks k new) j) same ∙ at)) in
          let number = same_bank table s.memory s.bank m n there has same in
          subst (λ (x : Bank). HasSpent table es' m n now x) is (subst (λ (j : ℕ). HasSpent table es' j n now new) number.0 (subst (λ (j : ℕ). HasSpent table es' s.memory j now new) number.1 more))
      by (inr e) =
          others m n b (apart s m n (λ same. differ same))
          (h.each m n b has (sym (get_other banks k (number_of table m n) new e) ∙ at))
        where
          differ : (s.memory ≡ m) × (s.bank ≡ n) → ⊥
          differ same = let g : (k == number_of table m n) ≡ true = eq-eqb k (number_of table m n) (ap (λ j. number_of table j s.bank) same.0 ∙ ap (λ j. number_of table m j) same.1) in absurd cc

module _ (table : List MemEntry) (es : List Event) (now : ℕ) (s : Spot) (banks : List Bank) (d new : Bank) (there : HasBank table s.memory s.bank) (long : length banks ≡ all_banks table) (h : HaveSpent table es now banks) (step : new.step ≡ now) where
  abbrev place_of : ℕ
  place_of = number_of table s.memory s.bank

  abbrev old : Bank
  old = get_or banks place_of d

  spent_old : HasSpent table es s.memory s.bank now old
  spent_old = h.each s.memory s.bank old there (slice_get-get_or banks place_of d (subst (λ (n : ℕ). place_of < n) (sym long) (number_within table s.memory s.bank there)))

  last_step : new.step ≤ now
  last_step = omega (arith, step)

  module _ (place : Place) where
    pub banks_read : ReadsRow (rows_now old now) (left_now old (ports_at table s.memory) now) s.row (Ok true) new.rows.items new.left → HaveSpent table (es ++ reads 0 place [] s ∷ []) now (slice_set banks place_of new)
    banks_read r =
        let more = read_spent table es s now old new spent_old step place r in
        record {
          each = set_banks table es (es ++ reads 0 place [] s ∷ []) now s banks new there long (λ m n b other k. other_read table es place s now m n b other k) h more;
          clear = stop_more table [] es (reads 0 place [] s ∷ []) h.clear ∙ ap (λ (b : Bool). if b then Some (Stuck s.memory s.bank place) else None) (not_beyond (ports_at table s.memory) (left_now new (ports_at table s.memory) now) _ more.left);
          used = used_set now banks place_of new last_step h.used;
        }

    pub banks_stuck : ReadsRow (rows_now old now) (left_now old (ports_at table s.memory) now) s.row (Ok false) new.rows.items new.left → stop_after table [] (es ++ reads 0 place [] s ∷ []) ≡ Some (Stuck s.memory s.bank place)
    banks_stuck r = stop_more table [] es (reads 0 place [] s ∷ []) h.clear ∙ ap (λ (b : Bool). if b then Some (Stuck s.memory s.bank place) else None) (read_beyond table es s now old new spent_old step place r)

    pub banks_written : (value : ℕ) → WritesRow (rows_now old now) (left_now old (ports_at table s.memory) now) true new.rows.items new.left → HaveSpent table (es ++ writes 0 place [] s value ∷ []) now (slice_set banks place_of new)
    banks_written value r =
        let more = write_spent table es s now old new spent_old step place value r in
        record {
          each = set_banks table es (es ++ writes 0 place [] s value ∷ []) now s banks new there long (λ m n b other k. other_write table es place s value now m n b other k) h more;
          clear = stop_more table [] es (writes 0 place [] s value ∷ []) h.clear ∙ ap (λ (b : Bool). if b then Some (Stuck s.memory s.bank place) else None) (not_beyond (ports_at table s.memory) (left_now new (ports_at table s.memory) now) _ more.left);
          used = used_set now banks place_of new last_step h.used;
        }

    pub banks_full : (value : ℕ) → WritesRow (rows_now old now) (left_now old (ports_at table s.memory) now) false new.rows.items new.left → stop_after table [] (es ++ writes 0 place [] s value ∷ []) ≡ Some (Stuck s.memory s.bank place)
    banks_full value r = stop_more table [] es (writes 0 place [] s value ∷ []) h.clear ∙ ap (λ (b : Bool). if b then Some (Stuck s.memory s.bank place) else None) (write_beyond table es s now old new spent_old step place value r)
