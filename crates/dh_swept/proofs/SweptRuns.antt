-- Clock by clock both nets do the same.
use Rattle.std.proofs.Common.{◌≡◌, ℕ, zero, suc, ◌<◌, ◌≤◌, ◌==◌, ◌&&◌, ◌||◌, not, Bool, true, false, if◌then◌else◌, Some, None, inl, inr, List, [], ◌∷◌, length, map, get_or, replicate, refl, sym, ap, subst, ◌∙◌, arith}
use Rattle.std.specs.Prelude.{Option, ◌↔◌, ◌≢◌, nat_lt, slice_get, slice_index, option_map}
use Rattle.std.specs.List.{AllByRecursion}
use Rattle.std.proofs.lemmas.List.{ext_get_or, get_or-map, length-map}
use Rattle.std.proofs.lemmas.Option.{slice_get_cases, slice_get_within, get_or_from_slice_get}
use Rattle.dh_tree.specs.declared.tables.MemEntry.{MemEntry}
use Rattle.dh_net.specs.BankPorts.{ports_of}
use Rattle.dh_net.specs.Clock.{State, Settles, Clocks, ClocksTo, start_of, is_active, any_active, has_clash, has_clashes, has_stray, has_strays, served, row_value, with_row, held_by, held_after, written_by, memories_after}
use Rattle.dh_net.specs.Ends.{entry_at}
use Rattle.dh_net.specs.Plays.{Run, clocks_of, EndsAfter, FaultsWithin, ShowsRun, Plays}
use Rattle.dh_net.specs.Valid.{IsValid}
use Rattle.dh_net.specs.declared.nets.Driver.{Driver}
use Rattle.dh_net.specs.declared.nets.Net.{Net}
use Rattle.dh_net.specs.declared.nets.Register.{Register}
use Rattle.dh_net.specs.declared.ports.Port.{Port}
use Rattle.dh_net.proofs.Valuations.{one_valuation, some_valuation, one_clock, some_clock}
use Rattle.dh_plan.specs.PlayedPlans.{WritesLast}
use Rattle.dh_swept.specs.RenamedWires.{renamed_register, renamed_driver}
use Rattle.dh_swept.specs.SweptLaws.{NetDoesTheSame}
use Rattle.dh_swept.specs.SweptNets.{IsKeptNumber, KeepsDriver, IsSwept}
use Rattle.dh_swept.proofs.SweptValid.{of_mapped, all_get, swept_valid, swept_reads}
use Rattle.dh_swept.proofs.SweptShifts.{swept_shifts}
use Rattle.dh_swept.proofs.SweptValues.{kept_wires, kept_state, kept_shows, old_register, kept_settles}

-- an item of a list that was mapped
item_of : {A : Type 0} (f : A → ℕ) (xs : List A) (i : ℕ) (x : A) → slice_get xs i ≡ Some x → get_or (map f xs) i 0 ≡ f x
item_of f xs i x at = get_or-map f xs i x 0 (slice_get_within xs i x at) ∙ ap f (get_or_from_slice_get xs i x x at)

module _ (old new : Net) (h : IsSwept old new) (ws : List ℕ) where
  abbrev vs : List ℕ
  vs = kept_wires old new h ws

  abbrev Keeps : List Driver → Type 0
  Keeps ds = AllByRecursion (KeepsDriver h.at h.to) ds

  abbrev KeepAll : List (List Driver) → Type 0
  KeepAll dss = AllByRecursion (λ (ds : List Driver). AllByRecursion (KeepsDriver h.at h.to) ds) dss

  abbrev to_drivers : List Driver → List Driver
  to_drivers ds = map (renamed_driver h.to) ds

  abbrev to_all : List (List Driver) → List (List Driver)
  to_all dss = map (λ (ds : List Driver). map (renamed_driver h.to) ds) dss

  active_as : (d : Driver) → KeepsDriver h.at h.to d → is_active vs (renamed_driver h.to d) ≡ is_active ws d
  active_as d k = ap (λ (n : ℕ). n == 1) (kept_shows old new h ws d.enable k.enable)

  any_as : (ds : List Driver) → Keeps ds → any_active vs (to_drivers ds) ≡ any_active ws ds
  any_as [] k = refl
  any_as (d ∷ ds) k = (λ i. active_as d k.0 i || any_as ds k.1 i)

  clash_as : (ds : List Driver) → Keeps ds → has_clash vs (to_drivers ds) ≡ has_clash ws ds
  clash_as [] k = refl
  clash_as (d ∷ ds) k = (λ i. (active_as d k.0 i && any_as ds k.1 i) || clash_as ds k.1 i)

  pub clashes_as : (dss : List (List Driver)) → KeepAll dss → has_clashes vs (to_all dss) ≡ has_clashes ws dss
  clashes_as [] k = refl
  clashes_as (ds ∷ dss) k = (λ i. clash_as ds k.0 i || clashes_as dss k.1 i)

  stray_as : (ds : List Driver) (rows : ℕ) → Keeps ds → has_stray vs (to_drivers ds) rows ≡ has_stray ws ds rows
  stray_as [] rows k = refl
  stray_as (d ∷ ds) rows k = (λ i. (active_as d k.0 i && not (nat_lt (kept_shows old new h ws d.row k.0.row i) rows)) || stray_as ds rows k.1 i)

  pub strays_as : (dss : List (List Driver)) (ps : List Port) → KeepAll dss → has_strays vs (to_all dss) ps ≡ has_strays ws dss ps
  strays_as [] ps k = refl
  strays_as (ds ∷ dss) [] k = refl
  strays_as (ds ∷ dss) (p ∷ ps) k = (λ i. stray_as ds p.rows k.0 i || strays_as dss ps k.1 i)

  served_as : (ds : List Driver) → Keeps ds → served vs (to_drivers ds) ≡ option_map (renamed_driver h.to) (served ws ds)
  served_as [] k = refl
  served_as (d ∷ ds) k = ap (λ (t : Bool). if t then Some (renamed_driver h.to d) else served vs (to_drivers ds)) (active_as d k.0) ∙ by (is_active ws d) (served_as ds k.1)
    where
      by : (t : Bool) → served vs (to_drivers ds) ≡ option_map (renamed_driver h.to) (served ws ds) → (if t then Some (renamed_driver h.to d) else served vs (to_drivers ds)) ≡ option_map (renamed_driver h.to) (if t then Some d else served ws ds)
      by true rest = refl
      by false rest = rest

  abbrev KeepsServed : Option Driver → Type 0
  KeepsServed None = Unit {0}
  KeepsServed (Some d) = KeepsDriver h.at h.to d

  served_kept : (ds : List Driver) → Keeps ds → KeepsServed (served ws ds)
  served_kept [] k = tt
  served_kept (d ∷ ds) k = by (is_active ws d) (served_kept ds k.1)
    where
      by : (t : Bool) → KeepsServed (served ws ds) → KeepsServed (if t then Some d else served ws ds)
      by true rest = k.0
      by false rest = rest

  module _ (table : List MemEntry) where
    held_one : (p : Port) (o : Option Driver) (memories : List (List ℕ)) (had : ℕ) → KeepsServed o → held_by table vs p (option_map (renamed_driver h.to) o) memories had ≡ held_by table ws p o memories had
    held_one p None memories had k = refl
    held_one p (Some d) memories had k = ap (λ (n : ℕ). if d.write then had else row_value table p memories n) (kept_shows old new h ws d.row k.row)

    written_one : (p : Port) (o : Option Driver) (memories : List (List ℕ)) → KeepsServed o → written_by table vs p (option_map (renamed_driver h.to) o) memories ≡ written_by table ws p o memories
    written_one p None memories k = refl
    written_one p (Some d) memories k = by d.write refl
      where
        by : (t : Bool) → d.write ≡ t
            → (if t then with_row table p memories (slice_index vs (h.to d.row)) (slice_index vs (if t then h.to d.data_ else 0)) else memories) ≡ (if t then with_row table p memories (slice_index ws d.row) (slice_index ws d.data_) else memories)
        by true on = (λ i. with_row table p memories (kept_shows old new h ws d.row k.row i) (kept_shows old new h ws d.data_ (k.out on) i))
        by false off = refl

    pub held_as : (dss : List (List Driver)) (ps : List Port) (memories : List (List ℕ)) (hs : List ℕ) → KeepAll dss → held_after table vs (to_all dss) ps memories hs ≡ held_after table ws dss ps memories hs
    held_as [] ps memories hs k = refl
    held_as (ds ∷ dss) [] memories hs k = refl
    held_as (ds ∷ dss) (p ∷ ps) memories [] k = refl
    held_as (ds ∷ dss) (p ∷ ps) memories (x ∷ hs) k =
        let first = ap (λ (o : Option Driver). held_by table vs p o memories x) (served_as ds k.0) ∙ held_one p (served ws ds) memories x (served_kept ds k.0) in
        (λ i. first i ∷ held_as dss ps memories hs k.1 i)

    pub memories_as : (dss : List (List Driver)) (ps : List Port) (memories : List (List ℕ)) → KeepAll dss → memories_after table vs (to_all dss) ps memories ≡ memories_after table ws dss ps memories
    memories_as [] ps memories k = refl
    memories_as (ds ∷ dss) [] memories k = refl
    memories_as (ds ∷ dss) (p ∷ ps) memories k =
        let first = ap (λ (o : Option Driver). written_by table vs p o memories) (served_as ds k.0) ∙ written_one p (served ws ds) memories (served_kept ds k.0) in
        ap (λ (ms : List (List ℕ)). memories_after table vs (to_all dss) ps ms) first ∙ memories_as dss ps (written_by table ws p (served ws ds) memories) k.1

  -- what new registers have of old ones
  registers_by : (f g : Register → ℕ) → ((j i : ℕ) (r : Register) → slice_get h.at_register j ≡ Some i → slice_get old.registers i ≡ Some r → f (renamed_register h.to r) ≡ g r)
      → map f new.registers ≡ map (λ (i : ℕ). slice_index (map g old.registers) i) h.at_register
  registers_by f g so =
      ext_get_or 0 (map f new.registers) (map (λ (i : ℕ). slice_index (map g old.registers) i) h.at_register)
      (length-map new.registers f ∙ (sym h.registers_long ∙ sym (length-map h.at_register (λ (i : ℕ). slice_index (map g old.registers) i))))
      (λ j small. at_place j (let long = length-map new.registers f in omega (arith, small, long)))
    where
      at_place : (j : ℕ) → j < length new.registers → get_or (map f new.registers) j 0 ≡ get_or (map (λ (i : ℕ). slice_index (map g old.registers) i) h.at_register) j 0
      at_place j less =
          elim (slice_get_cases new.registers j).1 [
            | inl found ↦
                let o = old_register old new h j found.0 found.2 in
                item_of f new.registers j found.0 found.2
                ∙ (ap f o.1.1.1.1
                ∙ (so j o.0 o.1.0 o.1.1.0 o.1.1.1.0
                ∙ (sym (item_of g old.registers o.0 o.1.0 o.1.1.1.0)
                ∙ sym (item_of (λ (i : ℕ). slice_index (map g old.registers) i) h.at_register j o.0 o.1.1.0))))
            | inr past ↦ absurd (let beyond = past.0 in omega (arith, beyond, less))
          ]

  pub kept_clocks : (s t : State) → Settles old s ws → t.registers ≡ map (λ (r : Register). slice_index ws r.next) old.registers
      → t.held ≡ held_after old.table ws old.drivers (ports_of old.table) s.memories s.held → t.memories ≡ memories_after old.table ws old.drivers (ports_of old.table) s.memories
      → Clocks new (kept_state old new h s) (kept_state old new h t)
  kept_clocks s t settled registers held memories = record {
    wires = vs;
    settled = kept_settles old new h s ws settled;
    registers =
        ap (λ (l : List ℕ). map (λ (i : ℕ). slice_index l i) h.at_register) registers
        ∙ sym (registers_by (λ (r : Register). slice_index vs r.next) (λ (r : Register). slice_index ws r.next) (λ j i r at there. kept_shows old new h ws r.next (h.nexts j i r at there)));
    held =
        held
        ∙ (sym (held_as old.table old.drivers (ports_of old.table) s.memories s.held h.driven)
        ∙ (λ i. held_after (sym h.table i) vs (sym h.drivers i) (ports_of (sym h.table i)) s.memories s.held));
    memories =
        memories
        ∙ (sym (memories_as old.table old.drivers (ports_of old.table) s.memories h.driven)
        ∙ (λ i. memories_after (sym h.table i) vs (sym h.drivers i) (ports_of (sym h.table i)) s.memories));
  }

-- Runs.

module _ (old new : Net) (valid : IsValid old) (h : IsSwept old new) where
  new_valid : IsValid new
  new_valid = swept_valid old new h valid

  abbrev kept : State → State
  kept s = kept_state old new h s

  clock_kept : (s t : State) → Clocks old s t → Clocks new (kept s) (kept t)
  clock_kept s t c = kept_clocks old new h c.wires s t c.settled c.registers c.held c.memories

  run_kept : (c : ℕ) (s t : State) → ClocksTo old c s t → ClocksTo new c (kept s) (kept t)
  run_kept zero s t run = ap (λ (x : State). kept x) run
  run_kept (suc c) s t run = (kept run.0, (run_kept c s run.0 run.1.0, clock_kept run.0 t run.1.1))

  -- each run of the new net is one of the old
  run_back : (c : ℕ) (s t : State) → ClocksTo new c (kept s) t → (o : State) × (ClocksTo old c s o × (t ≡ kept o))
  run_back zero s t run = (s, (refl, sym run))
  run_back (suc c) s t run =
      let before = run_back c s run.0 run.1.0 in
      let some = some_clock old valid before.0 in
      let last : Clocks new (kept before.0) t = subst (λ (x : State). Clocks new x t) before.1.1 run.1.1 in
      (some.0, ((before.0, (before.1.0, some.1)), one_clock new new_valid (kept before.0) t (kept some.0) last (clock_kept before.0 some.0 some.1)))

  same_start : (start : List (List ℕ)) → start_of new start ≡ kept (start_of old start)
  same_start start =
      let registers = registers_by old new h [] (λ (r : Register). r.initial) (λ (r : Register). r.initial) (λ j i r at there. refl) in
      let count = ap (λ (l : List (List Driver)). length l) h.drivers ∙ length-map old.drivers (λ (ds : List Driver). map (renamed_driver h.to) ds) in
      (λ i. record { registers = registers i; held = replicate (count i) 0; memories = start })

  -- any wires of the new net are those of the old one
  wires_are : (s : State) (ws vs : List ℕ) → Settles old s ws → Settles new (kept s) vs → vs ≡ kept_wires old new h ws
  wires_are s ws vs w v = one_valuation new new_valid (kept s) vs (kept_wires old new h ws) v (kept_settles old new h s ws w)

  -- a state of the new net in its run, and its wires, by those of the old
  record Stands (clocks : ℕ) (start : List (List ℕ)) (t : State) (vs : List ℕ) : Type 0 where
    was : State
    wires : List ℕ
    run : ClocksTo old clocks (start_of old start) was
    settled : Settles old was wires
    state_is : t ≡ kept was
    wires_is : vs ≡ kept_wires old new h wires

  stands : (clocks : ℕ) (start : List (List ℕ)) (t : State) (vs : List ℕ) → ClocksTo new clocks (start_of new start) t → Settles new t vs → Stands clocks start t vs
  stands clocks start t vs run settled =
      let back = run_back clocks (start_of old start) t (subst (λ (x : State). ClocksTo new clocks x t) (same_start start) run) in
      let some = some_valuation old valid back.0 in
      record {
        was = back.0;
        wires = some.0;
        run = back.1.0;
        settled = some.1;
        state_is = back.1.1;
        wires_is = wires_are back.0 some.0 vs some.1 (subst (λ (x : State). Settles new x vs) back.1.1 settled);
      }

  out_as : (ws : List ℕ) (n a : ℕ) → n ≡ h.to a → IsKeptNumber h.at h.to a → slice_index (kept_wires old new h ws) n ≡ slice_index ws a
  out_as ws n a is k = ap (λ (x : ℕ). slice_index (kept_wires old new h ws) x) is ∙ kept_shows old new h ws a k

  shows_as : (r : Run) (clocks n : ℕ) (s : State) (ws : List ℕ) → ShowsRun old r clocks n s ws → ShowsRun new r clocks n (kept s) (kept_wires old new h ws)
  shows_as r clocks n s ws x =
      let tick = out_as ws new.tick old.tick h.tick h.tick_kept in
      let done = out_as ws new.done old.done h.done h.done_kept in
      let fault = out_as ws new.fault old.fault h.fault h.fault_kept in
      record {
        no_clash = ap (λ (l : List (List Driver)). has_clashes (kept_wires old new h ws) l) h.drivers ∙ (clashes_as old new h ws old.drivers h.driven ∙ x.no_clash);
        no_stray =
            (λ i. has_strays (kept_wires old new h ws) (h.drivers i) (ports_of (h.table i)))
            ∙ (strays_as old new h ws old.drivers (ports_of old.table) h.driven ∙ x.no_stray);
        memories = x.memories;
        tick = subst (λ (v : ℕ). (v ≡ 1) ↔ ((0 < clocks) × (clocks ≡ clocks_of r n))) (sym tick) x.tick;
        done = subst (λ (v : ℕ). (v ≡ 1) ↔ ((m : ℕ) × (EndsAfter r m × (clocks_of r m ≤ clocks)))) (sym done) x.done;
        fault = subst (λ (v : ℕ). (v ≢ 0) ↔ FaultsWithin r clocks) (sym fault) x.fault;
        names = λ m kind place after within. (λ i. entry_at (h.faults i) (fault i)) ∙ x.names m kind place after within;
      }

  plays_as : (r : Run) (start : List (List ℕ)) → Plays old r start → Plays new r start
  plays_as r start p = record {
    takes_clocks = p.takes_clocks;
    never_stuck = p.never_stuck;
    fits = p.fits;
    shows = λ clocks n t vs run settled fit.
        let k = stands clocks start t vs run settled in
        subst (λ (x : State). ShowsRun new r clocks n x vs) (sym k.state_is)
        (subst (λ (l : List ℕ). ShowsRun new r clocks n (kept k.was) l) (sym k.wires_is) (shows_as r clocks n k.was k.wires (p.shows clocks n k.was k.wires k.run k.settled fit)));
    runs = λ clocks.
        let o = p.runs clocks in (
          kept o.0,
          (
            kept_wires old new h o.1.0,
            (
              subst (λ (x : State). ClocksTo new clocks x (kept o.0)) (sym (same_start start)) (run_kept clocks (start_of old start) o.0 o.1.1.0),
              kept_settles old new h o.0 o.1.0 o.1.1.1,
            ),
          ),
        );
  }

  writes_as : (r : Run) (start : List (List ℕ)) → WritesLast old r start → WritesLast new r start
  writes_as r start w clocks n t vs run settled fit q m ds d list_at at on active =
      let k = stands clocks start t vs run settled in
      let l = of_mapped (λ (es : List Driver). map (renamed_driver h.to) es) old.drivers q ds (ap (λ (x : List (List Driver)). slice_get x q) (sym h.drivers) ∙ list_at) in
      let e = of_mapped (renamed_driver h.to) l.0 m d (ap (λ (x : List Driver). slice_get x m) (sym l.1.1) ∙ at) in
      let keeps = all_get (KeepsDriver h.at h.to) l.0 m e.0 (all_get (λ (es : List Driver). AllByRecursion (KeepsDriver h.at h.to) es) old.drivers q l.0 h.driven l.1.0) e.1.0 in
      let same : is_active vs d ≡ is_active (kept_wires old new h k.wires) (renamed_driver h.to e.0) = (λ i. is_active (k.wires_is i) (e.1.1 i)) in
      let was : is_active k.wires e.0 ≡ true = ap (λ (v : ℕ). v == 1) (sym (kept_shows old new h k.wires e.0.enable keeps.enable)) ∙ (sym same ∙ active) in
      w clocks n k.was k.wires k.run k.settled fit q m l.0 e.0 l.1.0 e.1.0 (ap (λ (x : Driver). x.write) (sym e.1.1) ∙ on) was

  pub does_the_same : NetDoesTheSame old new
  does_the_same = record { valid = new_valid; table = h.table; faults = h.faults; zero_reads = swept_reads old new h valid; shifts = swept_shifts old new h; plays = plays_as; writes = writes_as }
