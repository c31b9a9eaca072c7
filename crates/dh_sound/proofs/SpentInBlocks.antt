-- What a bank spends in a block is at most what the accesses that were made there charge: the events, read as accesses
-- that were made, meet what counting asks of them.
use Rattle.std.proofs.Common.{◌≡◌, inl, inr, ℕ, zero, suc, ◌+◌, ◌<◌, ◌≤◌, ◌&&◌, ◌||◌, nat_eq, not, Bool, true, false, if◌then◌else◌, List, [], ◌∷◌, ◌++◌, slice_get, Option, Some, None, refl, sym, ◌∙◌, ap, subst, arith}
use Rattle.std.specs.Cmp.Lexicographic.{pointwise}
use Rattle.std.specs.Set.{distinct_count}
use Rattle.std.proofs.lemmas.Bool.Decides.{nat_tests}
use Rattle.std.proofs.lemmas.Cmp.{nat_eq_equiv}
use Rattle.std.proofs.lemmas.Option.{slice_get_within}
use Rattle.dh_base.specs.declared.places.Place.{Place}
use Rattle.dh_tree.specs.Elements.{Spot}
use Rattle.dh_tree.specs.PlainTrees.{Program}
use Rattle.dh_meaning.specs.AccessNumbers.{accesses_of}
use Rattle.dh_meaning.specs.Bindings.{Binding}
use Rattle.dh_meaning.specs.Effects.{Event, reads, writes, faults, is_at, spent}
use Rattle.dh_meaning.specs.Paths.{Path}
use Rattle.dh_meaning.specs.Sites.{nothing_around}
use Rattle.dh_meets.specs.Charges.{depends, entity_depends, element_depends, picked, charge}
use Rattle.dh_meets.specs.Sharing.{shared, shares_with, equal_reads}
use Rattle.dh_meets.specs.SourceEvents.{SourceAccess, SourceEvent, accesses, assigned, accesses_in, trace}
use Rattle.dh_meaning.specs.OnePhase.{in_one_phase}
use Rattle.dh_sound.proofs.KnownReads.{shared_found}
use Rattle.dh_sound.specs.ToldEvents.{key_from, key_at, IsOfAccess, AreTold}
use Rattle.dh_sound.proofs.Counting.{Made, Among, IsMadeBy, WritesApart, WriteApart, charged_by, charge_from, same_list, sum_below, was_made, spent_charged, whole_list}
use Rattle.dh_sound.proofs.EventCounts.{events_counted}
use Rattle.dh_sound.proofs.MadeEvents.{read_there, write_there, made_there, spent_there, IsMadeThere, by_read, by_write, made_by_event, event_made}
use Rattle.dh_sound.proofs.PathsOfEvents.{AreOnce, IsOnce}
use Rattle.dh_carried.proofs.Pigeons.{Has, has_member}
use Rattle.dh_sound.specs.Trails.{count}
use Rattle.dh_meaning.specs.Ways.{all_bindings_of}

-- a write depends on every loop, so that its key is its path
picked_all : (bs : List Binding) (a : SourceAccess) → a.writes ≡ true → (level : ℕ) (path : Path) → picked (depends bs a) level path ≡ path
picked_all bs a w level [] = refl
picked_all bs a w level (copy ∷ path) = by a.writes w (entity_depends bs level a.entity || element_depends bs level a.element) (picked_all bs a w (suc level) path)
  where
    by : (x : Bool) → x ≡ true → (y : Bool) → picked (depends bs a) (suc level) path ≡ path → (if x || y then copy ∷ picked (depends bs a) (suc level) path else picked (depends bs a) (suc level) path) ≡ copy ∷ path
    by true e y h = ap (λ l. copy ∷ l) h
    by false e y h = cc

read_is : (n k : ℕ) (place later : Place) (path other : Path) (s t : Spot) → reads n place path s ≡ reads k later other t → n ≡ k
read_is n k place later path other s t e = cc

left_true : (x y : Bool) → (x && y) ≡ true → x ≡ true
left_true true y e = refl
left_true false y e = cc

right_true : (x y : Bool) → (x && y) ≡ true → y ≡ true
right_true true y e = e
right_true false y e = cc

-- an access of a number, where the trace is cut
cut_at : (es : List SourceEvent) (n : ℕ) (a : SourceAccess) → slice_get (accesses_in es) n ≡ Some a → (before : List SourceEvent) × ((after : List SourceEvent) × ((es ≡ before ++ accesses a ∷ after) × (n ≡ count before)))
cut_at [] n a e = let l = slice_get_within [] n a e in let none : ⊥ = omega (arith, l) in elim none [ ]
cut_at (assigned x ∷ es) n a e = let (before, (after, (cut, is))) = cut_at es n a e in (assigned x ∷ before, (after, (ap (λ l. assigned x ∷ l) cut, is)))
cut_at (accesses x ∷ es) zero a e = ([], (es, (ap (λ o. accesses o ∷ es) (found x a e), refl)))
  where
    found : (y z : SourceAccess) → Some y ≡ Some z → y ≡ z
    found y z h = cc
cut_at (accesses x ∷ es) (suc n) a e = let (before, (after, (cut, is))) = cut_at es n a e in (accesses x ∷ before, (after, (ap (λ l. accesses x ∷ l) cut, ap suc is)))

writes_share_none : (p : Program) (j : ℕ) (a : SourceAccess) (between : List SourceEvent) (k : ℕ) (b : SourceAccess) → b.writes ≡ true → shares_with p j a between k b ≡ true → ⊥
writes_share_none p j a between k b w e = let r = left_true (equal_reads a b) _ (left_true (equal_reads a b && in_one_phase p j k) _ e) in let n = right_true (not a.writes) (not b.writes) (left_true (not a.writes && not b.writes) _ r) in negated b.writes w n
  where
    negated : (x : Bool) → x ≡ true → not x ≡ true → ⊥
    negated true e f = cc
    negated false e f = cc

-- the keys with which accesses of a number were made
abbrev pub keys_with : ℕ → List Made → List (List ℕ)
keys_with n [] = []
keys_with n (m ∷ ms) = if nat_eq m.number n then m.key ∷ keys_with n ms else keys_with n ms

own_key : (m : Made) (ms : List Made) → Among m ms → Has m.key (keys_with m.number ms)
own_key m [] h = elim h [ ]
own_key m (o ∷ ms) (inl e) =
    subst (λ (x : Made). Has x.key (if nat_eq o.number x.number then o.key ∷ keys_with x.number ms else keys_with x.number ms)) (sym e) (here (nat_eq o.number o.number) (nat_eq_equiv.refl o.number))
  where
    here : (t : Bool) → t ≡ true → Has o.key (if t then o.key ∷ keys_with o.number ms else keys_with o.number ms)
    here true f = inl refl
    here false f = cc
own_key m (o ∷ ms) (inr h) = by (nat_eq o.number m.number) (own_key m ms h)
  where
    by : (t : Bool) → Has m.key (keys_with m.number ms) → Has m.key (if t then o.key ∷ keys_with m.number ms else keys_with m.number ms)
    by true g = inr g
    by false g = g

-- an access that was made with a key
pub record MadeWith (n : ℕ) (k : List ℕ) (ms : List Made) : Type 0 where
  pub of : Made
  pub among : Among of ms
  pub number : of.number ≡ n
  pub key : k ≡ of.key

pub made_with : (n : ℕ) (ms : List Made) (k : List ℕ) → Has k (keys_with n ms) → MadeWith n k ms
made_with n [] k h = elim h [ ]
made_with n (o ∷ ms) k h = by (nat_eq o.number n) refl h (made_with n ms k)
  where
    same : nat_eq o.number n ≡ true → o.number ≡ n
    same e = grind (arith, nat_tests)

    further : MadeWith n k ms → MadeWith n k (o ∷ ms)
    further w = record { of = w.of; among = inr w.among; number = w.number; key = w.key }

    by : (t : Bool) → nat_eq o.number n ≡ t → Has k (if t then o.key ∷ keys_with n ms else keys_with n ms) → (Has k (keys_with n ms) → MadeWith n k ms) → MadeWith n k (o ∷ ms)
    by true e (inl f) rest = record { of = o; among = inl refl; number = same e; key = f }
    by true e (inr g) rest = further (rest g)
    by false e g rest = further (rest g)

module _ (p : Program) (entity memory bank : ℕ) (es : List Event) (told : AreTold p es) where
  abbrev made : List Event → List Made
  made fs = made_there (key_at p) memory bank fs

  same_access : (n : ℕ) (x y : Bool) → IsOfAccess p n x → IsOfAccess p n y → x ≡ y
  same_access n x y a c = sym a.writes_it ∙ (ap (λ o. writes_in o) (sym a.listed ∙ c.listed) ∙ c.writes_it)
    where
      writes_in : Option SourceAccess → Bool
      writes_in None = false
      writes_in (Some o) = o.writes

  below_count : (n : ℕ) (x : Bool) → IsOfAccess p n x → n < accesses_of p.body
  below_count n x a = let l = slice_get_within (accesses_in (trace p)) n a.of a.listed in let c = events_counted nothing_around p.body in omega (arith, l, c)

  -- a write shares nothing
  alone : (n : ℕ) → IsOfAccess p n true → shared p n ≡ None
  alone n a = by (shared p n) refl
    where
      no_share : (before after : List SourceEvent) → trace p ≡ before ++ accesses a.of ∷ after → n ≡ count before → (earlier : ℕ) → shared p n ≡ Some earlier → ⊥
      no_share before after cut is earlier e =
          let f = shared_found p before after a.of earlier cut (subst (λ (k : ℕ). shared p k ≡ Some earlier) is e) in
          writes_share_none p earlier f.of f.between (count before) a.of a.writes_it f.so

      by : (o : Option ℕ) → shared p n ≡ o → o ≡ None
      by None e = refl
      by (Some earlier) e = let (before, (after, (cut, is))) = cut_at (trace p) n a.of a.listed in elim (no_share before after cut is earlier e) [ ]

  -- the event of an access that was made
  data OfEvent (m : Made) (fs : List Event) : Type 0 where
    as_read : (n : ℕ) (place : Place) (path : Path) (s : Spot) → Has (reads n place path s) fs → is_at s memory bank ≡ true → m ≡ read_there (key_at p) memory bank n path s → OfEvent m fs
    as_write : (n : ℕ) (place : Place) (path : Path) (s : Spot) (value : ℕ) → Has (writes n place path s value) fs → is_at s memory bank ≡ true → m ≡ write_there (key_at p) memory bank n path s → OfEvent m fs

  of_event : (m : Made) (fs : List Event) → Among m (made fs) → OfEvent m fs
  of_event m fs a = let (ev, (has, is)) = made_by_event (key_at p) memory bank fs m a in by ev has is
    where
      by : (ev : Event) → Has ev fs → IsMadeThere (key_at p) memory bank m ev → OfEvent m fs
      by ev has (by_read n place path s e at i) = as_read n place path s (subst (λ (x : Event). Has x fs) e has) at i
      by ev has (by_write n place path s value e at i) = as_write n place path s value (subst (λ (x : Event). Has x fs) e has) at i

  made_below : (m : Made) → OfEvent m es → m.number < accesses_of p.body
  made_below m (as_read n place path s h at i) = subst (λ (o : Made). o.number < accesses_of p.body) (sym i) (below_count n false (told.read_of n place path s h))
  made_below m (as_write n place path s value h at i) = subst (λ (o : Made). o.number < accesses_of p.body) (sym i) (below_count n true (told.write_of n place path s value h))

  made_own : (m : Made) → OfEvent m es → m.writes ≡ true → shared p m.number ≡ None
  made_own m (as_read n place path s h at i) w = let f = ap (λ o. o.writes) i in cc
  made_own m (as_write n place path s value h at i) w = subst (λ (o : Made). shared p o.number ≡ None) (sym i) (alone n (told.write_of n place path s value h))

  abbrev Shared : (m : Made) → (earlier : ℕ) → Type 0
  Shared m earlier = (o : Made) × (Among o (made es) × ((o.number ≡ earlier) × ((o.row ≡ m.row) × ((o.writes ≡ false) × (earlier < m.number)))))

  made_shares : (m : Made) (earlier : ℕ) → OfEvent m es → shared p m.number ≡ Some earlier → Shared m earlier
  made_shares m earlier (as_read n place path s h at i) e =
      let is = told.read_shares n place path s earlier h (ap (λ o. shared p o.number) (sym i) ∙ e) in
      subst (λ (o : Made). Shared o earlier) (sym i)
      (read_there (key_at p) memory bank earlier path s, (event_made (key_at p) memory bank es earlier is.place path s is.made at, (refl, (refl, (refl, is.before)))))
  made_shares m earlier (as_write n place path s value h at i) e =
      let none = alone n (told.write_of n place path s value h) in
      let some = ap (λ o. shared p o.number) (sym i) ∙ e in
      cc

  made_row : (m o : Made) → OfEvent m es → OfEvent o es → m.writes ≡ false → o.writes ≡ false → m.number ≡ o.number → m.key ≡ o.key → m.row ≡ o.row
  made_row m o (as_write n place path s value h at i) c w x same key = let f = ap (λ q. q.writes) i in cc
  made_row m o (as_read n place path s h at i) (as_write k later other t value g there j) w x same key = let f = ap (λ q. q.writes) j in cc
  made_row m o (as_read n place path s h at i) (as_read k later other t g there j) w x same key =
      let number : k ≡ n = sym (ap (λ q. q.number) j) ∙ (sym same ∙ ap (λ q. q.number) i) in
      let keys : key_at p n path ≡ key_at p n other = sym (ap (λ q. q.key) i) ∙ (key ∙ (ap (λ q. q.key) j ∙ ap (λ q. key_at p q other) number)) in
      let spots = told.one_element n place later path other s t h (subst (λ (q : ℕ). Has (reads q later other t) es) number g) keys in
      ap (λ q. q.row) i ∙ (ap (λ q. q.row) spots ∙ sym (ap (λ q. q.row) j))

  made_kind : (m : Made) → OfEvent m es → IsOfAccess p m.number m.writes
  made_kind m (as_read n place path s h at i) = subst (λ (o : Made). IsOfAccess p o.number o.writes) (sym i) (told.read_of n place path s h)
  made_kind m (as_write n place path s value h at i) = subst (λ (o : Made). IsOfAccess p o.number o.writes) (sym i) (told.write_of n place path s value h)

  -- Writes.
  key_is_path : (n : ℕ) (path : Path) → IsOfAccess p n true → key_at p n path ≡ path
  key_is_path n path a = ap (λ o. key_from p o path) a.listed ∙ picked_all (all_bindings_of p) a.of a.writes_it 0 path

  apart_all : (m : Made) (ms : List Made) → ((o : Made) → Among o ms → m.writes ≡ true → o.writes ≡ true → m.number ≡ o.number → m.key ≡ o.key → ⊥) → WriteApart m ms
  apart_all m [] h = tt
  apart_all m (o ∷ ms) h = (h o (inl refl), apart_all m ms (λ x a. h x (inr a)))

  one_write : (n : ℕ) (place : Place) (path : Path) (s : Spot) (value : ℕ) (fs : List Event) → IsOfAccess p n true → ((ev : Event) → Has ev fs → Has ev es) → IsOnce (writes n place path s value) fs
      → (o : Made) → OfEvent o fs → o.writes ≡ true → n ≡ o.number → key_at p n path ≡ o.key → ⊥
  one_write n place path s value fs a inside once o (as_read k later other t h at i) w same key = let f = ap (λ q. q.writes) i in cc
  one_write n place path s value fs a inside once o (as_write k later other t stored h at i) w same key =
      let number : n ≡ k = same ∙ ap (λ q. q.number) i in
      let there = told.write_of k later other t stored (inside (writes k later other t stored) h) in
      let paths : path ≡ other = sym (key_is_path n path a) ∙ (key ∙ (ap (λ q. q.key) i ∙ key_is_path k other there)) in
      once (writes k later other t stored) h (sym paths) (sym number)

  pub writes_apart : (fs : List Event) → ((ev : Event) → Has ev fs → Has ev es) → AreOnce fs → WritesApart (made fs)
  writes_apart [] inside once = tt
  writes_apart (reads n place path s ∷ fs) inside once = by (is_at s memory bank) (writes_apart fs (λ ev h. inside ev (inr h)) once.1)
    where
      idle : (w : false ≡ true) → ⊥
      idle w = cc

      by : (x : Bool) → WritesApart (made fs) → WritesApart (if x then read_there (key_at p) memory bank n path s ∷ made fs else made fs)
      by true more = (apart_all (read_there (key_at p) memory bank n path s) (made fs) (λ o a w x e k. idle w), more)
      by false more = more
  writes_apart (writes n place path s value ∷ fs) inside once = by (is_at s memory bank) (writes_apart fs (λ ev h. inside ev (inr h)) once.1)
    where
      by : (x : Bool) → WritesApart (made fs) → WritesApart (if x then write_there (key_at p) memory bank n path s ∷ made fs else made fs)
      by true more = (
        apart_all (write_there (key_at p) memory bank n path s) (made fs)
            (λ o a w x e k. one_write n place path s value fs (told.write_of n place path s value (inside (writes n place path s value) (inl refl))) (λ ev h. inside ev (inr h)) once.0 o (of_event o fs a) x e k),
        more,
      )
      by false more = more
  writes_apart (faults n place path kind ∷ fs) inside once = writes_apart fs (λ ev h. inside ev (inr h)) once.1

  -- the keys with which accesses of a number were made in the bank
  abbrev pub keys_made : ℕ → List (List ℕ)
  keys_made n = keys_with n (made es)

  is_made : AreOnce es → IsMadeBy (accesses_of p.body) (shared p) keys_made (made es)
  is_made once = record {
    below = λ m a. made_below m (of_event m es a);
    reaches = λ m a. has_member (pointwise nat_eq) same_list whole_list m.key (keys_made m.number) (own_key m (made es) a);
    own = λ m a w. made_own m (of_event m es a) w;
    shares = λ m earlier a e. made_shares m earlier (of_event m es a) e;
    one_row = λ m o a c w x e k. made_row m o (of_event m es a) (of_event o es c) w x e k;
    apart = writes_apart es (λ ev h. h) once;
    kinds = λ m o a c e. same_access m.number m.writes o.writes (made_kind m (of_event m es a)) (subst (λ (n : ℕ). IsOfAccess p n o.writes) (sym e) (made_kind o (of_event o es c)));
  }

  -- Charges.

  -- of each number as many keys as its access charges, where it shares none
  abbrev pub AreCharged : Type 0
  AreCharged = (n : ℕ) → shared p n ≡ None → distinct_count (pointwise nat_eq) (keys_made n) ≤ charge p entity bank n

  charged_within : AreCharged → (n : ℕ) → charged_by (shared p) keys_made n ≤ charge p entity bank n
  charged_within all n = by (shared p n) refl
    where
      by : (o : Option ℕ) → shared p n ≡ o → charge_from o (keys_made n) ≤ charge p entity bank n
      by None e = all n e
      by (Some j) e = omega arith

  sums_within : AreCharged → (chosen : ℕ → Bool) (n : ℕ) → sum_below (charged_by (shared p) keys_made) chosen n ≤ sum_below (charge p entity bank) chosen n
  sums_within all chosen zero = omega arith
  sums_within all chosen (suc n) = by (chosen n) (sums_within all chosen n) (charged_within all n)
    where
      by : (t : Bool) → sum_below (charged_by (shared p) keys_made) chosen n ≤ sum_below (charge p entity bank) chosen n → charged_by (shared p) keys_made n ≤ charge p entity bank n
          → sum_below (charged_by (shared p) keys_made) chosen n + (if t then charged_by (shared p) keys_made n else 0) ≤ sum_below (charge p entity bank) chosen n + (if t then charge p entity bank n else 0)
      by true l m = both_within _ _ _ _ l m
        where
          both_within : (a c d e : ℕ) → a ≤ c → d ≤ e → a + d ≤ c + e
          both_within a c d e l m = omega (arith, l, m)
      by false l m = more _ _ l
        where
          more : (a c : ℕ) → a ≤ c → a + 0 ≤ c + 0
          more a c l = omega (arith, l)

  -- which accesses were made in the bank
  abbrev pub made_numbers : ℕ → Bool
  made_numbers n = was_made (made es) n

  -- what the bank spends is at most what they charge
  pub spent_told : AreCharged → AreOnce es → spent es memory bank ≤ sum_below (charge p entity bank) made_numbers (accesses_of p.body)
  spent_told all once =
      let l = spent_charged (shared p) keys_made (made es) (accesses_of p.body) (is_made once) in
      let s = spent_there (key_at p) memory bank es in
      let c = sums_within all made_numbers (accesses_of p.body) in
      omega (arith, l, s, c)
