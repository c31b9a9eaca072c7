-- The accesses that were made in a bank, read off the events of a step: their rows are the rows that were read there,
-- and their writes are the writes made there. So what the bank spends is counted over them.
use Rattle.std.proofs.Common.{◌≡◌, inl, inr, ℕ, suc, ◌+◌, nat_eq, Bool, true, false, if◌then◌else◌, List, [], ◌∷◌, refl, sym, ◌∙◌, ap, subst}
use Rattle.std.specs.Set.{distinct_count}
use Rattle.dh_base.specs.declared.places.Place.{Place}
use Rattle.dh_tree.specs.Elements.{Spot}
use Rattle.dh_meaning.specs.Effects.{Event, reads, writes, faults, is_at, rows_read, writes_made, spent}
use Rattle.dh_meaning.specs.Paths.{Path}
use Rattle.dh_sound.proofs.Counting.{Made, Among, rows_of, writes_of}
use Rattle.dh_carried.proofs.Pigeons.{Has}

module _ (key : ℕ → Path → List ℕ) (memory bank : ℕ) where
  abbrev pub read_there : (number : ℕ) → Path → Spot → Made
  read_there n path s = record { number = n; key = key n path; row = s.row; writes = false }

  abbrev pub write_there : (number : ℕ) → Path → Spot → Made
  write_there n path s = record { number = n; key = key n path; row = s.row; writes = true }

  -- the accesses that were made in the bank
  abbrev pub made_there : List Event → List Made
  made_there [] = []
  made_there (reads n place path s ∷ es) = if is_at s memory bank then read_there n path s ∷ made_there es else made_there es
  made_there (writes n place path s value ∷ es) = if is_at s memory bank then write_there n path s ∷ made_there es else made_there es
  made_there (faults n place path kind ∷ es) = made_there es

  pub rows_there : (es : List Event) → rows_of (made_there es) ≡ rows_read es memory bank
  rows_there [] = refl
  rows_there (reads n place path s ∷ es) = by (is_at s memory bank) (rows_there es)
    where
      by : (x : Bool) → rows_of (made_there es) ≡ rows_read es memory bank → rows_of (if x then read_there n path s ∷ made_there es else made_there es) ≡ (if x then s.row ∷ rows_read es memory bank else rows_read es memory bank)
      by true e = ap (λ l. s.row ∷ l) e
      by false e = e
  rows_there (writes n place path s value ∷ es) = by (is_at s memory bank) (rows_there es)
    where
      by : (x : Bool) → rows_of (made_there es) ≡ rows_read es memory bank → rows_of (if x then write_there n path s ∷ made_there es else made_there es) ≡ rows_read es memory bank
      by true e = e
      by false e = e
  rows_there (faults n place path kind ∷ es) = rows_there es

  pub writes_there : (es : List Event) → writes_of (made_there es) ≡ writes_made es memory bank
  writes_there [] = refl
  writes_there (reads n place path s ∷ es) = by (is_at s memory bank) (writes_there es)
    where
      by : (x : Bool) → writes_of (made_there es) ≡ writes_made es memory bank → writes_of (if x then read_there n path s ∷ made_there es else made_there es) ≡ writes_made es memory bank
      by true e = e
      by false e = e
  writes_there (writes n place path s value ∷ es) = by (is_at s memory bank) (writes_there es)
    where
      by : (x : Bool) → writes_of (made_there es) ≡ writes_made es memory bank → writes_of (if x then write_there n path s ∷ made_there es else made_there es) ≡ (if x then suc (writes_made es memory bank) else writes_made es memory bank)
      by true e = ap suc e
      by false e = e
  writes_there (faults n place path kind ∷ es) = writes_there es

  pub spent_there : (es : List Event) → spent es memory bank ≡ distinct_count nat_eq (rows_of (made_there es)) + writes_of (made_there es)
  spent_there es = ap (λ l. distinct_count nat_eq l + writes_made es memory bank) (sym (rows_there es)) ∙ ap (λ n. distinct_count nat_eq (rows_of (made_there es)) + n) (sym (writes_there es))

  -- the event by which an access was made
  pub data IsMadeThere (m : Made) (ev : Event) : Type 0 where
    by_read : (n : ℕ) (place : Place) (path : Path) (s : Spot) → ev ≡ reads n place path s → is_at s memory bank ≡ true → m ≡ read_there n path s → IsMadeThere m ev
    by_write : (n : ℕ) (place : Place) (path : Path) (s : Spot) (value : ℕ) → ev ≡ writes n place path s value → is_at s memory bank ≡ true → m ≡ write_there n path s → IsMadeThere m ev

  pub made_by_event : (es : List Event) (m : Made) → Among m (made_there es) → (ev : Event) × (Has ev es × IsMadeThere m ev)
  made_by_event [] m h = elim h [ ]
  made_by_event (reads n place path s ∷ es) m h = by (is_at s memory bank) refl h (made_by_event es m)
    where
      by : (x : Bool) → is_at s memory bank ≡ x → Among m (if x then read_there n path s ∷ made_there es else made_there es) → (Among m (made_there es) → (ev : Event) × (Has ev es × IsMadeThere m ev))
          → (ev : Event) × (Has ev (reads n place path s ∷ es) × IsMadeThere m ev)
      by true e (inl i) more = (reads n place path s, (inl refl, by_read n place path s refl e i))
      by true e (inr a) more = let (ev, (has, is)) = more a in (ev, (inr has, is))
      by false e a more = let (ev, (has, is)) = more a in (ev, (inr has, is))
  made_by_event (writes n place path s value ∷ es) m h = by (is_at s memory bank) refl h (made_by_event es m)
    where
      by : (x : Bool) → is_at s memory bank ≡ x → Among m (if x then write_there n path s ∷ made_there es else made_there es) → (Among m (made_there es) → (ev : Event) × (Has ev es × IsMadeThere m ev))
          → (ev : Event) × (Has ev (writes n place path s value ∷ es) × IsMadeThere m ev)
      by true e (inl i) more = (writes n place path s value, (inl refl, by_write n place path s value refl e i))
      by true e (inr a) more = let (ev, (has, is)) = more a in (ev, (inr has, is))
      by false e a more = let (ev, (has, is)) = more a in (ev, (inr has, is))
  made_by_event (faults n place path kind ∷ es) m h = let (ev, (has, is)) = made_by_event es m h in (ev, (inr has, is))

  -- and a read of the bank has made one
  pub event_made : (es : List Event) (n : ℕ) (place : Place) (path : Path) (s : Spot) → Has (reads n place path s) es → is_at s memory bank ≡ true → Among (read_there n path s) (made_there es)
  event_made [] n place path s h e = elim h [ ]
  event_made (reads k at other t ∷ es) n place path s (inl i) e = subst (λ (ev : Event). Among (read_there n path s) (made_there (ev ∷ es))) i (here (is_at s memory bank) e)
    where
      here : (x : Bool) → x ≡ true → Among (read_there n path s) (if x then read_there n path s ∷ made_there es else made_there es)
      here true f = inl refl
      here false f = cc
  event_made (reads k at other t ∷ es) n place path s (inr h) e = by (is_at t memory bank) (event_made es n place path s h e)
    where
      by : (x : Bool) → Among (read_there n path s) (made_there es) → Among (read_there n path s) (if x then read_there k other t ∷ made_there es else made_there es)
      by true a = inr a
      by false a = a
  event_made (writes k at other t value ∷ es) n place path s (inl i) e = cc
  event_made (writes k at other t value ∷ es) n place path s (inr h) e = by (is_at t memory bank) (event_made es n place path s h e)
    where
      by : (x : Bool) → Among (read_there n path s) (made_there es) → Among (read_there n path s) (if x then write_there k other t ∷ made_there es else made_there es)
      by true a = inr a
      by false a = a
  event_made (faults k at other kind ∷ es) n place path s (inl i) e = cc
  event_made (faults k at other kind ∷ es) n place path s (inr h) e = event_made es n place path s h e
