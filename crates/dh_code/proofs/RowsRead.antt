-- The distinct rows read, and the writes made, with one event more at the end.
use Rattle.std.proofs.Common.{◌≡◌, ℕ, suc, ◌+◌, ◌==◌, ◌&&◌, ◌||◌, not, Bool, true, false, if◌then◌else◌, List, [], ◌∷◌, ◌++◌, length, ◌⊎◌, inl, inr, refl, ap, sym, ◌∙◌, arith}
use Rattle.std.proofs.lemmas.Bool.{eqb-true, eq-eqb, cases_Bool}
use Rattle.dh_base.specs.declared.places.Place.{Place}
use Rattle.dh_tree.specs.Elements.{Spot}
use Rattle.dh_meaning.specs.Effects.{Event, reads, writes, faults, is_at, rows_read, writes_made}
use Rattle.std.specs.Prelude.{nat_eq}
use Rattle.std.specs.Set.{distinct_count, is_member, unique_keys}
use Rattle.std.proofs.lemmas.List.Folds.{list_any-append}
use Rattle.dh_code.specs.Spent.{has_row}

abbrev pub extra : Bool → ℕ
extra true = 1
extra false = 0

same_number : (a b : ℕ) → (a == b) ≡ (b == a)
same_number a b = by (cases_Bool (a == b)) (cases_Bool (b == a))
  where
    by : ((a == b) ≡ true) ⊎ ((a == b) ≡ false) → ((b == a) ≡ true) ⊎ ((b == a) ≡ false) → (a == b) ≡ (b == a)
    by (inl x) y = x ∙ sym (eq-eqb b a (sym (eqb-true a b x)))
    by (inr x) (inl y) = eq-eqb a b (sym (eqb-true b a y)) ∙ sym y
    by (inr x) (inr y) = x ∙ sym y

-- a row among others, whichever way it is compared
member_is : (rows : List ℕ) (row : ℕ) → is_member nat_eq rows row ≡ has_row rows row
member_is [] row = refl
member_is (r ∷ rows) row = ap (λ b. b || is_member nat_eq rows row) (same_number row r) ∙ ap (λ b. (r == row) || b) (member_is rows row)

nothing : (n : ℕ) → n ≡ 0 + n
nothing n = omega arith

abbrev counted : Bool → ℕ → ℕ
counted m n = if m then n else suc n

length_counted : (m : Bool) (x : ℕ) (xs : List ℕ) → length (if m then xs else x ∷ xs) ≡ counted m (length xs)
length_counted true x xs = refl
length_counted false x xs = refl

one_count : (mem mem' e h : Bool) (l d : ℕ) → mem' ≡ (mem || e) → l ≡ extra (not h) + d → (e ≡ true → mem ≡ h) → counted mem' l ≡ extra (not (e || h)) + counted mem d
one_count true mem' true h l d a b f = ap (λ m. counted m l) a ∙ (b ∙ ap (λ k. extra (not k) + d) (sym (f refl)))
one_count false mem' true h l d a b f = ap (λ m. counted m l) a ∙ (b ∙ (ap (λ k. extra (not k) + d) (sym (f refl)) ∙ more d))
  where
    more : (n : ℕ) → 1 + n ≡ 0 + suc n
    more n = omega arith
one_count true mem' false h l d a b f = ap (λ m. counted m l) a ∙ b
one_count false mem' false h l d a b f = ap (λ m. counted m l) a ∙ (ap suc b ∙ more (extra (not h)) d)
  where
    more : (n m : ℕ) → suc (n + m) ≡ n + suc m
    more n m = omega arith

or_none : (a b : Bool) → (a || (b || false)) ≡ (a || b)
or_none true b = refl
or_none false true = refl
or_none false false = refl

-- one row more: one distinct row more where it was not there
pub distinct_more : (rows : List ℕ) (row : ℕ) → distinct_count nat_eq (rows ++ row ∷ []) ≡ extra (not (has_row rows row)) + distinct_count nat_eq rows
distinct_more [] row = refl
distinct_more (r ∷ rows) row =
    length_counted (is_member nat_eq (rows ++ row ∷ []) r) r (unique_keys nat_eq (rows ++ row ∷ []))
    ∙ (one_count (is_member nat_eq rows r) (is_member nat_eq (rows ++ row ∷ []) r) (r == row) (has_row rows row) (distinct_count nat_eq (rows ++ row ∷ [])) (distinct_count nat_eq rows)
    (list_any-append (λ k. nat_eq r k) rows (row ∷ []) ∙ or_none (is_member nat_eq rows r) (r == row))
    (distinct_more rows row) (λ same. member_is rows r ∙ ap (λ n. has_row rows n) (eqb-true r row same))
    ∙ ap (λ n. extra (not ((r == row) || has_row rows row)) + n) (sym (length_counted (is_member nat_eq rows r) r (unique_keys nat_eq rows))))

abbrev one_row : Bool → ℕ → List ℕ
one_row b row = if b then row ∷ [] else []

with_more : (b : Bool) (row : ℕ) (xs ys zs : List ℕ) → xs ≡ ys ++ zs → (if b then row ∷ xs else xs) ≡ (if b then row ∷ ys else ys) ++ zs
with_more true row xs ys zs e = ap (λ l. row ∷ l) e
with_more false row xs ys zs e = e

no_row_more : (rows : List ℕ) → rows ≡ rows ++ []
no_row_more [] = refl
no_row_more (r ∷ rows) = ap (λ l. r ∷ l) (no_row_more rows)

last_row : (x y : Bool) → (x || (y || false)) ≡ (y || x)
last_row true true = refl
last_row true false = refl
last_row false true = refl
last_row false false = refl

no_last : (x : Bool) → (x || false) ≡ x
no_last true = refl
no_last false = refl

-- an event more
module _ (m b : ℕ) where
  read_rows : (es : List Event) (p : Place) (s : Spot) → rows_read (es ++ reads 0 p [] s ∷ []) m b ≡ rows_read es m b ++ one_row (is_at s m b) s.row
  read_rows [] p s = refl
  read_rows (reads n q x t ∷ es) p s = with_more (is_at t m b) t.row (rows_read (es ++ reads 0 p [] s ∷ []) m b) (rows_read es m b) (one_row (is_at s m b) s.row) (read_rows es p s)
  read_rows (writes n q x t value ∷ es) p s = read_rows es p s
  read_rows (faults n q x kind ∷ es) p s = read_rows es p s

  pub read_has : (es : List Event) (p : Place) (s : Spot) (r : ℕ)
      → has_row (rows_read (es ++ reads 0 p [] s ∷ []) m b) r ≡ ((is_at s m b && (s.row == r)) || has_row (rows_read es m b) r)
  read_has es p s r = ap (λ l. has_row l r) (read_rows es p s) ∙ by (is_at s m b)
    where
      by : (c : Bool) → has_row (rows_read es m b ++ one_row c s.row) r ≡ ((c && (s.row == r)) || has_row (rows_read es m b) r)
      by true = list_any-append (λ k. k == r) (rows_read es m b) (s.row ∷ []) ∙ last_row (has_row (rows_read es m b) r) (s.row == r)
      by false = ap (λ l. has_row l r) (sym (no_row_more (rows_read es m b)))

  pub read_length : (es : List Event) (p : Place) (s : Spot)
      → distinct_count nat_eq (rows_read (es ++ reads 0 p [] s ∷ []) m b) ≡ extra (is_at s m b && not (has_row (rows_read es m b) s.row)) + distinct_count nat_eq (rows_read es m b)
  read_length es p s = ap (λ l. distinct_count nat_eq l) (read_rows es p s) ∙ by (is_at s m b)
    where
      by : (c : Bool) → distinct_count nat_eq (rows_read es m b ++ one_row c s.row) ≡ extra (c && not (has_row (rows_read es m b) s.row)) + distinct_count nat_eq (rows_read es m b)
      by true = distinct_more (rows_read es m b) s.row
      by false = ap (λ l. distinct_count nat_eq l) (sym (no_row_more (rows_read es m b))) ∙ nothing (distinct_count nat_eq (rows_read es m b))

  pub read_writes : (es : List Event) (p : Place) (s : Spot) → writes_made (es ++ reads 0 p [] s ∷ []) m b ≡ writes_made es m b
  read_writes [] p s = refl
  read_writes (reads n q x t ∷ es) p s = read_writes es p s
  read_writes (writes n q x t value ∷ es) p s = ap (λ n. if is_at t m b then suc n else n) (read_writes es p s)
  read_writes (faults n q x kind ∷ es) p s = read_writes es p s

  -- a write more
  pub write_rows : (es : List Event) (p : Place) (s : Spot) (v : ℕ) → rows_read (es ++ writes 0 p [] s v ∷ []) m b ≡ rows_read es m b
  write_rows [] p s v = refl
  write_rows (reads n q x t ∷ es) p s v = ap (λ rows. if is_at t m b then t.row ∷ rows else rows) (write_rows es p s v)
  write_rows (writes n q x t value ∷ es) p s v = write_rows es p s v
  write_rows (faults n q x kind ∷ es) p s v = write_rows es p s v

  pub write_writes : (es : List Event) (p : Place) (s : Spot) (v : ℕ) → writes_made (es ++ writes 0 p [] s v ∷ []) m b ≡ extra (is_at s m b) + writes_made es m b
  write_writes [] p s v = by (is_at s m b)
    where
      by : (c : Bool) → (if c then suc 0 else 0) ≡ extra c + 0
      by true = refl
      by false = refl
  write_writes (reads n q x t ∷ es) p s v = write_writes es p s v
  write_writes (writes n q x t value ∷ es) p s v = ap (λ n. if is_at t m b then suc n else n) (write_writes es p s v) ∙ by (is_at t m b) (extra (is_at s m b)) (writes_made es m b)
    where
      by : (c : Bool) (i n : ℕ) → (if c then suc (i + n) else (i + n)) ≡ i + (if c then suc n else n)
      by true i n = omega arith
      by false i n = refl
  write_writes (faults n q x kind ∷ es) p s v = write_writes es p s v
