-- How much a step spends, from what is known of the events of one bank. Each row that is read is read by an
-- access that shares none, with a key that reaches the bank, and reads of one access with one key are of
-- one row; each write has a key of its own. So rows and writes are no more than the pairs of an access that
-- was made and a key of it that reaches the bank, and these are as many as the accesses charge.
use Rattle.std.proofs.Common.{◌≡◌, ℕ, zero, suc, ◌+◌, ◌<◌, ◌≤◌, ◌&&◌, ◌⊎◌, inl, inr, nat_eq, Bool, true, false, if◌then◌else◌, List, [], ◌∷◌, ◌++◌, length, map, Option, Some, None, refl, sym, ◌∙◌, ap, subst, arith}
use Rattle.std.specs.Cmp.Lexicographic.{pointwise}
use Rattle.std.specs.Set.{distinct_count, unique_keys, is_member}
use Rattle.std.proofs.lemmas.Cmp.{nat_list_eq_equiv, nat_eq_equiv}
use Rattle.std.proofs.lemmas.Bool.{cases_lt}
use Rattle.std.proofs.lemmas.Bool.Decides.{nat_tests}
use Rattle.std.proofs.lemmas.List.{length-append, length-map}
use Rattle.dh_carried.proofs.Pigeons.{Has, NoTwice, no_longer, has_left, has_right, has_either, once_both, has_mapped, member_has, unique_has, has_unique, unique_once}

-- an access that was made in a bank: its number, its key, its row, and whether it writes
pub record Made : Type 0 where
  pub number : ℕ
  pub key : List ℕ
  pub row : ℕ
  pub writes : Bool

-- it is one of these
abbrev pub Among : Made → List Made → Type 0
Among m [] = ⊥
Among m (o ∷ ms) = (m ≡ o) ⊎ Among m ms

-- the rows that were read, and how many writes there were
abbrev pub rows_of : List Made → List ℕ
rows_of [] = []
rows_of (m ∷ ms) = if m.writes then rows_of ms else m.row ∷ rows_of ms

abbrev pub writes_of : List Made → ℕ
writes_of [] = 0
writes_of (m ∷ ms) = if m.writes then suc (writes_of ms) else writes_of ms

-- no two of them write with one number and key
abbrev pub WriteApart : Made → List Made → Type 0
WriteApart m [] = Unit {0}
WriteApart m (o ∷ ms) = (m.writes ≡ true → o.writes ≡ true → m.number ≡ o.number → m.key ≡ o.key → ⊥) × WriteApart m ms

abbrev pub WritesApart : List Made → Type 0
WritesApart [] = Unit {0}
WritesApart (m ∷ ms) = WriteApart m ms × WritesApart ms

-- whether an access of this number was made
abbrev pub was_made : List Made → ℕ → Bool
was_made [] n = false
was_made (m ∷ ms) n = if nat_eq m.number n then true else was_made ms n

-- What is known of the accesses that were made in a bank: `shared` tells which access a read shares, `keys` with
-- which keys an access reaches the bank, one for each path.
pub record IsMadeBy (count : ℕ) (shared : ℕ → Option ℕ) (keys : ℕ → List (List ℕ)) (ms : List Made) : Type 0 where
  pub below : (m : Made) → Among m ms → m.number < count
  pub reaches : (m : Made) → Among m ms → is_member (pointwise nat_eq) (keys m.number) m.key ≡ true
  -- a write shares nothing, and an access that is shared has read the same row
  pub own : (m : Made) → Among m ms → m.writes ≡ true → shared m.number ≡ None
  pub shares : (m : Made) (earlier : ℕ) → Among m ms → shared m.number ≡ Some earlier → (o : Made) × (Among o ms × ((o.number ≡ earlier) × ((o.row ≡ m.row) × ((o.writes ≡ false) × (earlier < m.number)))))
  pub one_row : (m o : Made) → Among m ms → Among o ms → m.writes ≡ false → o.writes ≡ false → m.number ≡ o.number → m.key ≡ o.key → m.row ≡ o.row
  pub apart : WritesApart ms
  pub kinds : (m o : Made) → Among m ms → Among o ms → m.number ≡ o.number → m.writes ≡ o.writes

-- what an access charges on the bank
abbrev pub charge_from : Option ℕ → List (List ℕ) → ℕ
charge_from None keys = distinct_count (pointwise nat_eq) keys
charge_from (Some earlier) keys = 0

abbrev pub charged_by : (shared : ℕ → Option ℕ) → (keys : ℕ → List (List ℕ)) → ℕ → ℕ
charged_by shared keys n = charge_from (shared n) (keys n)

-- the sum over the numbers below a count of what the chosen ones charge
abbrev pub sum_below : (charge : ℕ → ℕ) → (chosen : ℕ → Bool) → (count : ℕ) → ℕ
sum_below charge chosen zero = 0
sum_below charge chosen (suc n) = sum_below charge chosen n + (if chosen n then charge n else 0)

-- Numbers and keys as one list: a number in front of its key.
abbrev pair_of : Made → List ℕ
pair_of m = m.number ∷ m.key

both_true : (a b : Bool) → (a && b) ≡ true → (a ≡ true) × (b ≡ true)
both_true true b e = (refl, e)
both_true false b e = cc

same_number : (a b : ℕ) → nat_eq a b ≡ true → a ≡ b
same_number a b e = grind (arith, nat_tests)

pub same_list : (a b : List ℕ) → pointwise nat_eq a b ≡ true → a ≡ b
same_list [] [] e = refl
same_list [] (y ∷ ys) e = cc
same_list (x ∷ xs) [] e = cc
same_list (x ∷ xs) (y ∷ ys) e =
    let p = both_true (nat_eq x y) (pointwise nat_eq xs ys) e in
    let h = same_number x y p.0 in
    let t = same_list xs ys p.1 in
    cc

pub whole_list : (a : List ℕ) → pointwise nat_eq a a ≡ true
whole_list a = nat_list_eq_equiv.refl a

first_same : (a b : ℕ) (k l : List ℕ) → a ∷ k ≡ b ∷ l → a ≡ b
first_same a b k l e = cc

rest_same : (a b : ℕ) (k l : List ℕ) → a ∷ k ≡ b ∷ l → k ≡ l
rest_same a b k l e = cc

-- the pairs of an access that was made and shares none, with each of its keys once
abbrev pairs_from : Option ℕ → ℕ → List (List ℕ) → List (List ℕ)
pairs_from None n keys = map (λ k. n ∷ k) (unique_keys (pointwise nat_eq) keys)
pairs_from (Some earlier) n keys = []

module _ (shared : ℕ → Option ℕ) (keys : ℕ → List (List ℕ)) (ms : List Made) where
  abbrev pairs_at : ℕ → List (List ℕ)
  pairs_at n = if was_made ms n then pairs_from (shared n) n (keys n) else []

  abbrev pairs_below : ℕ → List (List ℕ)
  pairs_below zero = []
  pairs_below (suc n) = pairs_below n ++ pairs_at n

  pub pairs_counted : (n : ℕ) → length (pairs_below n) ≡ sum_below (charged_by shared keys) (was_made ms) n
  pairs_counted zero = refl
  pairs_counted (suc n) = length-append (pairs_below n) (pairs_at n) ∙ (ap (λ k. k + length (pairs_at n)) (pairs_counted n) ∙ ap (λ k. sum_below (charged_by shared keys) (was_made ms) n + k) (at (was_made ms n) (shared n)))
    where
      at : (b : Bool) (o : Option ℕ) → length (if b then pairs_from o n (keys n) else []) ≡ (if b then charge_from o (keys n) else 0)
      at true None = length-map _ _
      at true (Some earlier) = refl
      at false o = refl

  pub made_was : (m : Made) (os : List Made) → Among m os → was_made os m.number ≡ true
  made_was m [] h = elim h [ ]
  made_was m (o ∷ os) (inl e) = ap (λ b. if b then true else was_made os m.number) (subst (λ (x : Made). nat_eq x.number m.number ≡ true) e (nat_eq_equiv.refl m.number))
  made_was m (o ∷ os) (inr h) = by (nat_eq o.number m.number) (made_was m os h)
    where
      by : (b : Bool) → was_made os m.number ≡ true → (if b then true else was_made os m.number) ≡ true
      by true e = refl
      by false e = e

  below_or : (k n : ℕ) → k < suc n → (k < n) ⊎ (k ≡ n)
  below_or k n l = elim (cases_lt k n) [ inl small ↦ inl small | inr large ↦ inr (omega (arith, l, large)) ]

  pub has_below : (m : Made) (n : ℕ) → m.number < n → Has (pair_of m) (pairs_at m.number) → Has (pair_of m) (pairs_below n)
  has_below m zero l h = let none : ⊥ = omega (arith, l) in elim none [ ]
  has_below m (suc n) l h = elim (below_or m.number n l) [ inl small ↦ has_left _ _ _ (has_below m n small h) | inr same ↦ has_right _ (pairs_below n) _ (subst (λ (k : ℕ). Has (pair_of m) (pairs_at k)) same h) ]

  -- the pairs of the writes
  abbrev write_pairs : List Made → List (List ℕ)
  write_pairs [] = []
  write_pairs (m ∷ os) = if m.writes then pair_of m ∷ write_pairs os else write_pairs os

  pub writes_counted : (os : List Made) → length (write_pairs os) ≡ writes_of os
  writes_counted [] = refl
  writes_counted (m ∷ os) = by m.writes (writes_counted os)
    where
      by : (b : Bool) → length (write_pairs os) ≡ writes_of os → length (if b then pair_of m ∷ write_pairs os else write_pairs os) ≡ (if b then suc (writes_of os) else writes_of os)
      by true e = ap suc e
      by false e = e

  -- such a pair is one of a write
  pub record IsWritten (os : List Made) (q : List ℕ) : Type 0 where
    pub of : Made
    pub among : Among of os
    pub writes : of.writes ≡ true
    pub pair : q ≡ pair_of of

  further : (m : Made) (os : List Made) (q : List ℕ) → IsWritten os q → IsWritten (m ∷ os) q
  further m os q w = record { of = w.of; among = inr w.among; writes = w.writes; pair = w.pair }

  pub written_pair : (os : List Made) (q : List ℕ) → Has q (write_pairs os) → IsWritten os q
  written_pair [] q h = elim h [ ]
  written_pair (m ∷ os) q h = by m.writes refl (written_pair os q) h
    where
      by : (b : Bool) → m.writes ≡ b → (Has q (write_pairs os) → IsWritten os q) → Has q (if b then pair_of m ∷ write_pairs os else write_pairs os) → IsWritten (m ∷ os) q
      by true w more (inl e) = record { of = m; among = inl refl; writes = w; pair = e }
      by true w more (inr h) = further m os q (more h)
      by false w more h = further m os q (more h)

  apart_from : (m o : Made) (os : List Made) → WriteApart m os → Among o os → m.writes ≡ true → o.writes ≡ true → m.number ≡ o.number → m.key ≡ o.key → ⊥
  apart_from m o [] a h w v n k = elim h [ ]
  apart_from m o (x ∷ os) a (inl e) w v n k = a.0 w (subst (λ (z : Made). z.writes ≡ true) e v) (n ∙ ap (λ z. z.number) e) (k ∙ ap (λ z. z.key) e)
  apart_from m o (x ∷ os) a (inr h) w v n k = apart_from m o os a.1 h w v n k

  pub writes_once : (os : List Made) → WritesApart os → NoTwice (write_pairs os)
  writes_once [] a = tt
  writes_once (m ∷ os) a = by m.writes refl (writes_once os a.1)
    where
      fresh : m.writes ≡ true → Has (pair_of m) (write_pairs os) → ⊥
      fresh w h = let p = written_pair os (pair_of m) h in apart_from m p.of os a.0 p.among w p.writes (first_same _ _ _ _ p.pair) (rest_same _ _ _ _ p.pair)

      by : (b : Bool) → m.writes ≡ b → NoTwice (write_pairs os) → NoTwice (if b then pair_of m ∷ write_pairs os else write_pairs os)
      by true w once = (fresh w, once)
      by false w once = once

  -- a read of this row that shares none
  pub record HasReader (row : ℕ) : Type 0 where
    pub of : Made
    pub among : Among of ms
    pub reads : of.writes ≡ false
    pub is_of : of.row ≡ row
    pub alone : shared of.number ≡ None

  module _ (count : ℕ) (is : IsMadeBy count shared keys ms) where
    -- by induction on the number: what a read shares has a smaller one
    reader_upto : (n : ℕ) (m : Made) → m.number < n → Among m ms → m.writes ≡ false → HasReader m.row
    reader_upto zero m l a w = let none : ⊥ = omega (arith, l) in elim none [ ]
    reader_upto (suc n) m l a w = by (shared m.number) refl (reader_upto n)
      where
        by : (s : Option ℕ) → shared m.number ≡ s → ((o : Made) → o.number < n → Among o ms → o.writes ≡ false → HasReader o.row) → HasReader m.row
        by None e more = record { of = m; among = a; reads = w; is_of = refl; alone = e }
        by (Some earlier) e more =
            let (o, (among, (number, (row, (reads, before))))) = is.shares m earlier a e in
            let r = more o (omega (arith, l, before, number)) among reads in
            record { of = r.of; among = r.among; reads = r.reads; is_of = r.is_of ∙ row; alone = r.alone }

    row_read : (os : List Made) → ((m : Made) → Among m os → Among m ms) → (row : ℕ) → Has row (rows_of os) → HasReader row
    row_read [] inside row h = elim h [ ]
    row_read (m ∷ os) inside row h = by m.writes refl (row_read os (λ o a. inside o (inr a)) row) h
      where
        by : (b : Bool) → m.writes ≡ b → (Has row (rows_of os) → HasReader row) → Has row (if b then rows_of os else m.row ∷ rows_of os) → HasReader row
        by true w more h = more h
        by false w more (inl e) =
            subst (λ (r : ℕ). HasReader r) (sym e) (reader_upto (suc m.number) m (omega arith) (inside m (inl refl)) w)
        by false w more (inr h) = more h

    -- one pair for each of these rows
    pub record Readers (rows : List ℕ) : Type 0 where
      pub pairs : List (List ℕ)
      pub long : length pairs ≡ length rows
      pub each : (q : List ℕ) → Has q pairs → (row : ℕ) × (Has row rows × ((r : HasReader row) × (q ≡ pair_of r.of)))
      pub once : NoTwice pairs

    no_readers : Readers []
    no_readers = record { pairs = []; long = refl; each = λ q h. elim h [ ]; once = tt }

    same_row : (row other : ℕ) (r : HasReader row) (o : HasReader other) → pair_of r.of ≡ pair_of o.of → row ≡ other
    same_row row other r o e =
        sym r.is_of ∙ (is.one_row r.of o.of r.among o.among r.reads o.reads (first_same _ _ _ _ e) (rest_same _ _ _ _ e) ∙ o.is_of)

    more_readers : (row : ℕ) (rows : List ℕ) → (Has row rows → ⊥) → HasReader row → Readers rows → Readers (row ∷ rows)
    more_readers row rows fresh r rs = record { pairs = pair_of r.of ∷ rs.pairs; long = ap suc rs.long; each = each; once = (new, rs.once) }
      where
        new : Has (pair_of r.of) rs.pairs → ⊥
        new h = let (other, (at, (o, e))) = rs.each (pair_of r.of) h in fresh (subst (λ (k : ℕ). Has k rows) (sym (same_row row other r o e)) at)

        each : (q : List ℕ) → (q ≡ pair_of r.of) ⊎ Has q rs.pairs → (k : ℕ) × (((k ≡ row) ⊎ Has k rows) × ((o : HasReader k) × (q ≡ pair_of o.of)))
        each q (inl e) = (row, (inl refl, (r, e)))
        each q (inr h) = let (k, (at, (o, e))) = rs.each q h in (k, (inr at, (o, e)))

    readers : (rows : List ℕ) → NoTwice rows → ((row : ℕ) → Has row rows → HasReader row) → Readers rows
    readers [] once has = no_readers
    readers (row ∷ rows) once has = more_readers row rows once.0 (has row (inl refl)) (readers rows once.1 (λ k h. has k (inr h)))

    -- an access that shares none has its pair among those that are counted
    counted : (m : Made) → Among m ms → shared m.number ≡ None → Has (pair_of m) (pairs_below count)
    counted m a alone = has_below m count (is.below m a) (by (was_made ms m.number) (made_was m ms a) (shared m.number) alone)
      where
        by : (b : Bool) → b ≡ true → (o : Option ℕ) → o ≡ None → Has (pair_of m) (if b then pairs_from o m.number (keys m.number) else [])
        by true e None f =
            has_mapped (λ k. m.number ∷ k) m.key _ (has_unique (pointwise nat_eq) same_list whole_list m.key (keys m.number) (member_has (pointwise nat_eq) same_list whole_list m.key (keys m.number) (is.reaches m a)))
        by true e (Some x) f = cc
        by false e o f = cc

    abbrev once_rows : List ℕ
    once_rows = unique_keys nat_eq (rows_of ms)

    -- rows and writes are no more than what the accesses that were made charge
    pub spent_charged : distinct_count nat_eq (rows_of ms) + writes_of ms ≤ sum_below (charged_by shared keys) (was_made ms) count
    spent_charged =
        let rs = readers once_rows (unique_once nat_eq same_number nat_eq_equiv.refl (rows_of ms))
        (λ k h. row_read ms (λ o a. a) k (unique_has nat_eq same_number nat_eq_equiv.refl k (rows_of ms) h)) in
        let all = once_both rs.pairs (write_pairs ms) rs.once (writes_once ms is.apart) (apart rs) in
        let l = no_longer (rs.pairs ++ write_pairs ms) (pairs_below count) all (inside rs) in
        let n = length-append rs.pairs (write_pairs ms) in
        let r = rs.long in
        let w = writes_counted ms in
        let c = pairs_counted count in
        omega (arith, l, n, r, w, c)
      where
        apart : (rs : Readers once_rows) (q : List ℕ) → Has q rs.pairs → Has q (write_pairs ms) → ⊥
        apart rs q h g =
            let (k, (at, (r, e))) = rs.each q h in
            let w = written_pair ms q g in
            let same = is.kinds r.of w.of r.among w.among (first_same _ _ _ _ (sym e ∙ w.pair)) in
            let f = r.reads in
            let t = w.writes in
            cc

        inside : (rs : Readers once_rows) (q : List ℕ) → Has q (rs.pairs ++ write_pairs ms) → Has q (pairs_below count)
        inside rs q h = elim (has_either q rs.pairs (write_pairs ms) h) [ inl a ↦ of_read a | inr b ↦ of_write b ]
          where
            of_read : Has q rs.pairs → Has q (pairs_below count)
            of_read a = let (k, (at, (r, e))) = rs.each q a in subst (λ (z : List ℕ). Has z (pairs_below count)) (sym e) (counted r.of r.among r.alone)

            of_write : Has q (write_pairs ms) → Has q (pairs_below count)
            of_write b = let w = written_pair ms q b in subst (λ (z : List ℕ). Has z (pairs_below count)) (sym w.pair) (counted w.of w.among (is.own w.of w.among w.writes))
