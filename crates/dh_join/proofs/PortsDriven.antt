-- What drivers of a port do by some wires, others do by others.
-- Where no two drivers of a port are active, its first active one is the first active one that reads or the first active
-- one that writes, and there is at most one of the two. So one driver that stands for those that read, and one for those
-- that write, do what all do; both are active only where a port of the given net clashes.
use Rattle.std.proofs.Common.{◌≡◌, ℕ, ◌==◌, Bool, true, false, inl, inr, Some, None, List, [], ◌∷◌, ◌++◌, refl, sym, ap, subst, ◌∙◌}
use Rattle.std.specs.Prelude.{Option, slice_index, nat_lt, if◌then◌else◌, ◌&&◌, ◌||◌, ◌⊎◌, not}
use Rattle.std.specs.List.{AllByRecursion}
use Rattle.dh_net.specs.Clock.{is_active, any_active, has_clash, has_stray, served}
use Rattle.dh_net.specs.declared.nets.Driver.{Driver}
use Rattle.dh_join.specs.JoinedDrivers.{is_kind, drivers_in, first_active, former, DoesAs, DoesWhat, DriverStandsAs}
use Rattle.dh_join.specs.JoinedPorts.{any_write, SameService, DrivesAs}

-- truths
or_true : (t u : Bool) → u ≡ true → (t || u) ≡ true
or_true true u e = refl
or_true false u e = e

or_cases : (t u : Bool) → (t || u) ≡ true → (t ≡ true) ⊎ (u ≡ true)
or_cases true u e = inl refl
or_cases false u e = inr e

not_so : (t u : Bool) → (t ≡ true → u ≡ true) → u ≡ false → t ≡ false
not_so true u so e = absurd (let yes_is : u ≡ true = so refl in let no : true ≡ false = sym yes_is ∙ e in cc)
not_so false u so e = refl

-- the driver, where there is one, reads
abbrev pub Reads : Option Driver → Type 0
Reads None = Unit {0}
Reads (Some x) = x.write ≡ false

-- What all drivers do, by the first active ones of each kind.

module _ (ws : List ℕ) where
  found_any : (write : Bool) (ds : List Driver) (a : Driver) → first_active write ws ds ≡ Some a → any_active ws ds ≡ true
  found_any write [] a e = absurd (cc)
  found_any write (d ∷ ds) a e = by (is_active ws d) (is_kind write d) (found_any write ds a) e
    where
      by : (t k : Bool) → (first_active write ws ds ≡ Some a → any_active ws ds ≡ true)
          → (if t && k then Some d else first_active write ws ds) ≡ Some a → (t || any_active ws ds) ≡ true
      by true k so e = refl
      by false k so e = so e

  none_found : (write : Bool) (ds : List Driver) → any_active ws ds ≡ false → first_active write ws ds ≡ None
  none_found write [] e = refl
  none_found write (d ∷ ds) e = by (is_active ws d) (is_kind write d) (none_found write ds) e
    where
      by : (t k : Bool) → (any_active ws ds ≡ false → first_active write ws ds ≡ None)
          → (t || any_active ws ds) ≡ false → (if t && k then Some d else first_active write ws ds) ≡ None
      by true k so e = absurd (cc)
      by false k so e = so e

  both_clash : (ds : List Driver) (a b : Driver) → first_active false ws ds ≡ Some a → first_active true ws ds ≡ Some b → has_clash ws ds ≡ true
  both_clash [] a b x y = absurd (cc)
  both_clash (d ∷ ds) a b x y = by (is_active ws d) d.write (both_clash ds a b) x y
    where
      by : (t k : Bool) → (first_active false ws ds ≡ Some a → first_active true ws ds ≡ Some b → has_clash ws ds ≡ true)
          → (if t && not k then Some d else first_active false ws ds) ≡ Some a → (if t && k then Some d else first_active true ws ds) ≡ Some b
          → ((t && any_active ws ds) || has_clash ws ds) ≡ true
      by true true so p q = ap (λ (z : Bool). z || has_clash ws ds) (found_any false ds a p)
      by true false so p q = ap (λ (z : Bool). z || has_clash ws ds) (found_any true ds b q)
      by false k so p q = so p q

  stray_found : (write : Bool) (ds : List Driver) (a : Driver) (rows : ℕ) → first_active write ws ds ≡ Some a → nat_lt (slice_index ws a.row) rows ≡ false → has_stray ws ds rows ≡ true
  stray_found write [] a rows e out = absurd (cc)
  stray_found write (d ∷ ds) a rows e out = by (is_active ws d) (is_kind write d) (λ h. stray_found write ds a rows h out) e
    where
      by : (t k : Bool) → (first_active write ws ds ≡ Some a → has_stray ws ds rows ≡ true)
          → (if t && k then Some d else first_active write ws ds) ≡ Some a
          → ((t && not (nat_lt (slice_index ws d.row) rows)) || has_stray ws ds rows) ≡ true
      by true true so h =
          let same : d ≡ a = cc in
          ap (λ (z : Bool). not z || has_stray ws ds rows) (ap (λ (y : Driver). nat_lt (slice_index ws y.row) rows) same ∙ out)
      by true false so h = or_true (not (nat_lt (slice_index ws d.row) rows)) (has_stray ws ds rows) (so h)
      by false k so h = so h

  wrote : (ds : List Driver) (b : Driver) → first_active true ws ds ≡ Some b → any_write ws ds ≡ true
  wrote [] b e = absurd (cc)
  wrote (d ∷ ds) b e = by (is_active ws d) d.write (wrote ds b) e
    where
      by : (t k : Bool) → (first_active true ws ds ≡ Some b → any_write ws ds ≡ true)
          → (if t && k then Some d else first_active true ws ds) ≡ Some b → ((t && k) || any_write ws ds) ≡ true
      by true true so h = refl
      by true false so h = so h
      by false k so h = so h

  served_kinds : (ds : List Driver) → has_clash ws ds ≡ false → served ws ds ≡ former (first_active false ws ds) (first_active true ws ds)
  served_kinds [] e = refl
  served_kinds (d ∷ ds) e = by (is_active ws d) d.write (served_kinds ds) e
    where
      none_else : (any clash : Bool) → (any || clash) ≡ false → any ≡ false
      none_else true clash h = absurd (cc)
      none_else false clash h = refl

      by : (t k : Bool) → (has_clash ws ds ≡ false → served ws ds ≡ former (first_active false ws ds) (first_active true ws ds))
          → ((t && any_active ws ds) || has_clash ws ds) ≡ false
          → (if t then Some d else served ws ds)
          ≡ former (if t && not k then Some d else first_active false ws ds) (if t && k then Some d else first_active true ws ds)
      by true true so h =
          ap (λ (o : Option Driver). former o (Some d)) (sym (none_found false ds (none_else (any_active ws ds) (has_clash ws ds) h)))
      by true false so h = refl
      by false k so h = so h

  -- What one driver for each kind does.

  -- a driver that is active does what some driver does
  active_found : (x : Driver) (r : Option Driver) → DoesWhat ws x r → is_active ws x ≡ true → (a : Driver) × ((r ≡ Some a) × DoesAs ws x a)
  active_found x None h on = absurd (let no : true ≡ false = sym on ∙ h in cc)
  active_found x (Some a) h on = (a, (refl, h))

  and_left : (t u : Bool) → (t && u) ≡ true → t ≡ true
  and_left true u e = refl
  and_left false u e = e

  two_clash : (t u : Bool) → ((t && (u || false)) || ((u && false) || false)) ≡ true → (t ≡ true) × (u ≡ true)
  two_clash true true e = (refl, refl)
  two_clash true false e = absurd (cc)
  two_clash false true e = absurd (cc)
  two_clash false false e = absurd (cc)

  no_clash_alone : (t : Bool) → ((t && false) || false) ≡ true → ⊥
  no_clash_alone true e = absurd (cc)
  no_clash_alone false e = absurd (cc)

  clash_in : (read write r w : Option Driver) (C : Bool) → DriverStandsAs ws read r → DriverStandsAs ws write w → ((a b : Driver) → r ≡ Some a → w ≡ Some b → C ≡ true)
      → has_clash ws (drivers_in read ++ drivers_in write) ≡ true → C ≡ true
  clash_in None None r w C h g so e = absurd (cc)
  clash_in None (Some y) r w C h g so e = absurd (no_clash_alone (is_active ws y) e)
  clash_in (Some x) None r w C h g so e = absurd (no_clash_alone (is_active ws x) e)
  clash_in (Some x) (Some y) r w C h g so e =
      let both = two_clash (is_active ws x) (is_active ws y) e in
      let a = active_found x r h both.0 in
      let b = active_found y w g both.1 in
      so a.0 b.0 a.1.0 b.1.0

  -- one of the drivers that were found strays
  one_stray : (x : Driver) (r : Option Driver) (rows : ℕ) → DoesWhat ws x r → (is_active ws x && not (nat_lt (slice_index ws x.row) rows)) ≡ true
      → (a : Driver) × ((r ≡ Some a) × (nat_lt (slice_index ws a.row) rows ≡ false))
  one_stray x r rows h e =
      let found = active_found x r h (and_left (is_active ws x) (not (nat_lt (slice_index ws x.row) rows)) e) in
      (found.0, (found.1.0, ap (λ (n : ℕ). nat_lt n rows) (sym found.1.1.row) ∙ out (is_active ws x) (nat_lt (slice_index ws x.row) rows) e))
    where
      out : (t u : Bool) → (t && not u) ≡ true → u ≡ false
      out true true e = absurd (cc)
      out true false e = refl
      out false u e = absurd (cc)

  stray_one : (o r : Option Driver) (rest : List Driver) (C : Bool) (rows : ℕ) → DriverStandsAs ws o r
      → ((a : Driver) → r ≡ Some a → nat_lt (slice_index ws a.row) rows ≡ false → C ≡ true) → (has_stray ws rest rows ≡ true → C ≡ true)
      → has_stray ws (drivers_in o ++ rest) rows ≡ true → C ≡ true
  stray_one None r rest C rows h so else_so e = else_so e
  stray_one (Some x) r rest C rows h so else_so e =
      elim (or_cases (is_active ws x && not (nat_lt (slice_index ws x.row) rows)) (has_stray ws rest rows) e) [
        | inl here ↦ (let a = one_stray x r rows h here in so a.0 a.1.0 a.1.1)
        | inr later ↦ else_so later
      ]

  stray_last : (o r : Option Driver) (C : Bool) (rows : ℕ) → DriverStandsAs ws o r
      → ((a : Driver) → r ≡ Some a → nat_lt (slice_index ws a.row) rows ≡ false → C ≡ true)
      → has_stray ws (drivers_in o) rows ≡ true → C ≡ true
  stray_last None r C rows h so e = absurd (cc)
  stray_last (Some x) r C rows h so e = stray_one (Some x) r [] C rows h so (λ none. absurd (let no : false ≡ true = none in cc)) e

  -- what is served
  serve_one : (x : Driver) (r o : Option Driver) (rest : List Driver) → DoesWhat ws x r → SameService ws o ws (served ws rest)
      → SameService ws (former r o) ws (served ws (x ∷ rest))
  serve_one x None o rest h s = subst (λ (t : Bool). SameService ws o ws (if t then Some x else served ws rest)) (sym h) s
  serve_one x (Some a) o rest h s =
      subst (λ (t : Bool). SameService ws (Some a) ws (if t then Some x else served ws rest)) (sym h.active)
      (record { kind = h.kind; row = h.row; out = h.out })

  serve_found : (read r o : Option Driver) (rest : List Driver) → DriverStandsAs ws read r → SameService ws o ws (served ws rest)
      → SameService ws (former r o) ws (served ws (drivers_in read ++ rest))
  serve_found None r o rest h s = subst (λ (x : Option Driver). SameService ws (former x o) ws (served ws rest)) (sym h) s
  serve_found (Some x) r o rest h s = serve_one x r o rest h s

  former_last : (o : Option Driver) → former o None ≡ o
  former_last None = refl
  former_last (Some d) = refl

  serve_last : (write w : Option Driver) → DriverStandsAs ws write w → SameService ws w ws (served ws (drivers_in write))
  serve_last None w h = subst (λ (x : Option Driver). SameService ws x ws None) (sym h) tt
  serve_last (Some y) w h = subst (λ (x : Option Driver). SameService ws x ws (served ws (y ∷ []))) (former_last w) (serve_one y w None [] h tt)

  -- what writes
  reads_only : (t k rest : Bool) → k ≡ false → ((t && k) || rest) ≡ true → rest ≡ true
  reads_only true true rest off e = absurd (cc)
  reads_only true false rest off e = e
  reads_only false k rest off e = e

  write_last : (write w : Option Driver) (C : Bool) → DriverStandsAs ws write w → ((b : Driver) → w ≡ Some b → C ≡ true) → any_write ws (drivers_in write) ≡ true → C ≡ true
  write_last None w C h so e = absurd (cc)
  write_last (Some y) w C h so e =
      elim (or_cases (is_active ws y && y.write) false e) [
        | inl here ↦ (let b = active_found y w h (and_left (is_active ws y) y.write here) in so b.0 b.1.0)
        | inr none ↦ absurd (cc)
      ]

  write_in : (read write w : Option Driver) (C : Bool) → Reads read → DriverStandsAs ws write w → ((b : Driver) → w ≡ Some b → C ≡ true)
      → any_write ws (drivers_in read ++ drivers_in write) ≡ true → C ≡ true
  write_in None write w C off h so e = write_last write w C h so e
  write_in (Some x) write w C off h so e = write_last write w C h so (reads_only (is_active ws x) x.write (any_write ws (drivers_in write)) off e)

  pub drives_kinds : (ds : List Driver) (read write : Option Driver) → DriverStandsAs ws read (first_active false ws ds) → DriverStandsAs ws write (first_active true ws ds) → Reads read
      → DrivesAs ws ds ws (drivers_in read ++ drivers_in write)
  drives_kinds ds read write h g off = record {
    clash = clash_in read write (first_active false ws ds) (first_active true ws ds) (has_clash ws ds) h g (both_clash ds);
    stray = λ rows e.
        stray_one read (first_active false ws ds) (drivers_in write) (has_stray ws ds rows) rows h (λ a at out. stray_found false ds a rows at out)
        (stray_last write (first_active true ws ds) (has_stray ws ds rows) rows g (λ b at out. stray_found true ds b rows at out)) e;
    serves = λ none.
        subst (λ (o : Option Driver). SameService ws o ws (served ws (drivers_in read ++ drivers_in write))) (sym (served_kinds ds none))
        (serve_found read (first_active false ws ds) (first_active true ws ds) (drivers_in write) h (serve_last write (first_active true ws ds) g));
    writes = write_in read write (first_active true ws ds) (any_write ws ds) off g (wrote ds);
  }

-- The same drivers by wires that agree on what they take.

pub record Agrees (ws vs : List ℕ) (d : Driver) : Type 0 where
  pub enable : slice_index vs d.enable ≡ slice_index ws d.enable
  pub row : slice_index vs d.row ≡ slice_index ws d.row
  pub out : d.write ≡ true → slice_index vs d.data_ ≡ slice_index ws d.data_

module _ (ws vs : List ℕ) where
  abbrev pub AllAgree : List Driver → Type 0
  AllAgree ds = AllByRecursion (Agrees ws vs) ds

  active_as : (d : Driver) → Agrees ws vs d → is_active vs d ≡ is_active ws d
  active_as d h = ap (λ (n : ℕ). n == 1) h.enable

  any_as : (ds : List Driver) → AllAgree ds → any_active vs ds ≡ any_active ws ds
  any_as [] h = refl
  any_as (d ∷ ds) h = (λ i. active_as d h.0 i || any_as ds h.1 i)

  clash_as : (ds : List Driver) → AllAgree ds → has_clash vs ds ≡ has_clash ws ds
  clash_as [] h = refl
  clash_as (d ∷ ds) h = (λ i. (active_as d h.0 i && any_as ds h.1 i) || clash_as ds h.1 i)

  stray_as : (ds : List Driver) (rows : ℕ) → AllAgree ds → has_stray vs ds rows ≡ has_stray ws ds rows
  stray_as [] rows h = refl
  stray_as (d ∷ ds) rows h = (λ i. (active_as d h.0 i && not (nat_lt (h.0.row i) rows)) || stray_as ds rows h.1 i)

  write_as : (ds : List Driver) → AllAgree ds → any_write vs ds ≡ any_write ws ds
  write_as [] h = refl
  write_as (d ∷ ds) h = (λ i. (active_as d h.0 i && d.write) || write_as ds h.1 i)

  serve_as : (ds : List Driver) → AllAgree ds → SameService ws (served ws ds) vs (served vs ds)
  serve_as [] h = tt
  serve_as (d ∷ ds) h =
      subst (λ (t : Bool). SameService ws (if is_active ws d then Some d else served ws ds) vs (if t then Some d else served vs ds)) (sym (active_as d h.0))
      (by (is_active ws d) (serve_as ds h.1))
    where
      by : (t : Bool) → SameService ws (served ws ds) vs (served vs ds) → SameService ws (if t then Some d else served ws ds) vs (if t then Some d else served vs ds)
      by true s = record { kind = refl; row = h.0.row; out = h.0.out }
      by false s = s

  pub drives_agree : (ds : List Driver) → AllAgree ds → DrivesAs ws ds vs ds
  drives_agree ds h = record {
    clash = λ e. sym (clash_as ds h) ∙ e;
    stray = λ rows e. sym (stray_as ds rows h) ∙ e;
    serves = λ none. serve_as ds h;
    writes = λ e. sym (write_as ds h) ∙ e;
  }

own_agree : (ws : List ℕ) (ds : List Driver) → AllByRecursion (Agrees ws ws) ds
own_agree ws [] = tt
own_agree ws (d ∷ ds) = (record { enable = refl; row = refl; out = λ on. refl }, own_agree ws ds)

pub drives_own : (ws : List ℕ) (ds : List Driver) → DrivesAs ws ds ws ds
drives_own ws ds = drives_agree ws ws ds (own_agree ws ds)

-- One after the other.

serve_then : (ws us vs : List ℕ) (o p q : Option Driver) → SameService ws o us p → SameService us p vs q → SameService ws o vs q
serve_then ws us vs None None None a b = tt
serve_then ws us vs None None (Some f) a b = absurd b
serve_then ws us vs None (Some e) q a b = absurd a
serve_then ws us vs (Some d) None q a b = absurd a
serve_then ws us vs (Some d) (Some e) None a b = absurd b
serve_then ws us vs (Some d) (Some e) (Some f) a b = record {
  kind = b.kind ∙ a.kind;
  row = b.row ∙ a.row;
  out = λ on. b.out (a.kind ∙ on) ∙ a.out on;
}

pub drives_then : (ws us vs : List ℕ) (ds es fs : List Driver) → DrivesAs ws ds us es → DrivesAs us es vs fs → DrivesAs ws ds vs fs
drives_then ws us vs ds es fs a b = record {
  clash = λ e. a.clash (b.clash e);
  stray = λ rows e. a.stray rows (b.stray rows e);
  serves = λ none.
      serve_then ws us vs (served ws ds) (served us es) (served vs fs) (a.serves none) (b.serves (not_so (has_clash us es) (has_clash ws ds) a.clash none));
  writes = λ e. a.writes (b.writes e);
}
