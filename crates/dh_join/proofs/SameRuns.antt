-- Clock by clock the joined net does what the given one does, as long as that has had no clash.
-- Both begin in one state. In a state that both have, each port is driven the same, so without a clash a clock leads both
-- to one state. That wires fit, which a cell of `|` needs, holds in each state that a net comes to from memories that fit.
use Rattle.std.proofs.Common.{◌≡◌, ℕ, zero, suc, ◌<◌, ◌≤◌, Bool, true, false, Some, None, List, [], ◌∷◌, length, map, replicate, refl, sym, ap, subst, ◌∙◌, arith}
use Rattle.std.specs.Prelude.{Option, ◌↔◌, ◌≢◌, ◌||◌, slice_get, slice_index, if◌then◌else◌}
use Rattle.std.specs.List.{AllByRecursion}
use Rattle.std.proofs.lemmas.Option.{slice_get_within}
use Rattle.dh_tree.specs.Tables.{Fits}
use Rattle.dh_tree.specs.declared.tables.MemEntry.{MemEntry}
use Rattle.dh_net.specs.BankPorts.{ports_of}
use Rattle.dh_net.specs.Clock.{State, Settles, Clocks, ClocksTo, start_of, has_clash, has_clashes, has_stray, has_strays, strays, served, row_value, with_row, held_by, held_after, written_by, memories_after}
use Rattle.dh_net.specs.Ends.{entry_at}
use Rattle.dh_net.specs.Plays.{Run, clocks_of, EndsAfter, FaultsWithin, ShowsRun, Plays}
use Rattle.dh_net.specs.Valid.{HasWidth, IsValid, ReadsZero}
use Rattle.dh_net.specs.declared.nets.Driver.{Driver}
use Rattle.dh_net.specs.declared.nets.Net.{Net}
use Rattle.dh_net.specs.declared.nets.Register.{Register}
use Rattle.dh_net.specs.declared.ports.Port.{Port}
use Rattle.dh_net.proofs.Valuations.{cell_of, same_state, some_valuation, some_run}
use Rattle.dh_sim.specs.Points.{IsSoundPoint}
use Rattle.dh_sim.proofs.Keeping.{starts_sound, stays_sound}
use Rattle.dh_join.specs.JoinedPorts.{SameService, DrivesAs, JoinedIn}
use Rattle.dh_join.specs.JoinedNets.{HadNoClash, ShowsTheSame, IsJoined}
use Rattle.dh_join.proofs.WiresKept.{IsDrivenBy, item_at, new_valid, wires_same, drives_same}

-- All ports that are driven the same.

-- of as many lists
pub record AllDrive (ws vs : List ℕ) (dss ess : List (List Driver)) : Type 0 where
  pub long : length ess ≡ length dss
  pub each : (q : ℕ) (ds es : List Driver) → slice_get dss q ≡ Some ds → slice_get ess q ≡ Some es → DrivesAs ws ds vs es

or_false : (t u : Bool) → (t || u) ≡ false → (t ≡ false) × (u ≡ false)
or_false true u e = absurd (cc)
or_false false u e = (refl, e)

or_so : (t u t' u' : Bool) → (t ≡ true → t' ≡ true) → (u ≡ true → u' ≡ true) → (t || u) ≡ true → (t' || u') ≡ true
or_so true u t' u' a b e = ap (λ (x : Bool). x || u') (a refl)
or_so false u true u' a b e = refl
or_so false u false u' a b e = b e

not_so : (t u : Bool) → (t ≡ true → u ≡ true) → u ≡ false → t ≡ false
not_so true u so e = absurd (let yes_is : u ≡ true = so refl in let no : true ≡ false = sym yes_is ∙ e in cc)
not_so false u so e = refl

module _ (ws vs : List ℕ) where
  rest_drive : (ds es : List Driver) (dss ess : List (List Driver)) → AllDrive ws vs (ds ∷ dss) (es ∷ ess) → AllDrive ws vs dss ess
  rest_drive ds es dss ess h = record { long = (let long = h.long in omega (arith, long)); each = λ q xs ys a b. h.each (suc q) xs ys a b }

  clashes_same : (dss ess : List (List Driver)) → AllDrive ws vs dss ess → has_clashes vs ess ≡ true → has_clashes ws dss ≡ true
  clashes_same [] [] h e = e
  clashes_same [] (es ∷ ess) h e = absurd (let long = h.long in omega (arith, long))
  clashes_same (ds ∷ dss) [] h e = absurd (let long = h.long in omega (arith, long))
  clashes_same (ds ∷ dss) (es ∷ ess) h e =
      or_so (has_clash vs es) (has_clashes vs ess) (has_clash ws ds) (has_clashes ws dss) (h.each 0 ds es refl refl).clash (clashes_same dss ess (rest_drive ds es dss ess h)) e

  strays_same : (dss ess : List (List Driver)) (ps : List Port) → AllDrive ws vs dss ess → has_strays vs ess ps ≡ true → has_strays ws dss ps ≡ true
  strays_same [] [] ps h e = e
  strays_same [] (es ∷ ess) ps h e = absurd (let long = h.long in omega (arith, long))
  strays_same (ds ∷ dss) [] ps h e = absurd (let long = h.long in omega (arith, long))
  strays_same (ds ∷ dss) (es ∷ ess) [] h e = e
  strays_same (ds ∷ dss) (es ∷ ess) (p ∷ ps) h e =
      or_so (has_stray vs es p.rows) (has_strays vs ess ps) (has_stray ws ds p.rows) (has_strays ws dss ps) ((h.each 0 ds es refl refl).stray p.rows) (strays_same dss ess ps (rest_drive ds es dss ess h)) e

  module _ (table : List MemEntry) where
    held_one : (p : Port) (o q : Option Driver) (memories : List (List ℕ)) (had : ℕ) → SameService ws o vs q → held_by table vs p q memories had ≡ held_by table ws p o memories had
    held_one p None None memories had h = refl
    held_one p None (Some e) memories had h = absurd h
    held_one p (Some d) None memories had h = absurd h
    held_one p (Some d) (Some e) memories had h = (λ i. if h.kind i then had else row_value table p memories (h.row i))

    written_one : (p : Port) (o q : Option Driver) (memories : List (List ℕ)) → SameService ws o vs q → written_by table vs p q memories ≡ written_by table ws p o memories
    written_one p None None memories h = refl
    written_one p None (Some e) memories h = absurd h
    written_one p (Some d) None memories h = absurd h
    written_one p (Some d) (Some e) memories h =
        ap (λ (t : Bool). if t then with_row table p memories (slice_index vs e.row) (slice_index vs e.data_) else memories) h.kind ∙ by d.write refl
      where
        by : (t : Bool) → d.write ≡ t
            → (if t then with_row table p memories (slice_index vs e.row) (slice_index vs e.data_) else memories) ≡ (if t then with_row table p memories (slice_index ws d.row) (slice_index ws d.data_) else memories)
        by true on = (λ i. with_row table p memories (h.row i) (h.out on i))
        by false off = refl

    held_same : (dss ess : List (List Driver)) (ps : List Port) (memories : List (List ℕ)) (hs : List ℕ) → AllDrive ws vs dss ess → has_clashes ws dss ≡ false
        → held_after table vs ess ps memories hs ≡ held_after table ws dss ps memories hs
    held_same [] [] ps memories hs h none = refl
    held_same [] (es ∷ ess) ps memories hs h none = absurd (let long = h.long in omega (arith, long))
    held_same (ds ∷ dss) [] ps memories hs h none = absurd (let long = h.long in omega (arith, long))
    held_same (ds ∷ dss) (es ∷ ess) [] memories hs h none = refl
    held_same (ds ∷ dss) (es ∷ ess) (p ∷ ps) memories [] h none = refl
    held_same (ds ∷ dss) (es ∷ ess) (p ∷ ps) memories (x ∷ hs) h none =
        let apart = or_false (has_clash ws ds) (has_clashes ws dss) none in
        let first = held_one p (served ws ds) (served vs es) memories x ((h.each 0 ds es refl refl).serves apart.0) in
        let rest = held_same dss ess ps memories hs (rest_drive ds es dss ess h) apart.1 in
        (λ i. first i ∷ rest i)

    memories_same : (dss ess : List (List Driver)) (ps : List Port) (memories : List (List ℕ)) → AllDrive ws vs dss ess → has_clashes ws dss ≡ false
        → memories_after table vs ess ps memories ≡ memories_after table ws dss ps memories
    memories_same [] [] ps memories h none = refl
    memories_same [] (es ∷ ess) ps memories h none = absurd (let long = h.long in omega (arith, long))
    memories_same (ds ∷ dss) [] ps memories h none = absurd (let long = h.long in omega (arith, long))
    memories_same (ds ∷ dss) (es ∷ ess) [] memories h none = refl
    memories_same (ds ∷ dss) (es ∷ ess) (p ∷ ps) memories h none =
        let apart = or_false (has_clash ws ds) (has_clashes ws dss) none in
        let first = written_one p (served ws ds) (served vs es) memories ((h.each 0 ds es refl refl).serves apart.0) in
        ap (λ (ms : List (List ℕ)). memories_after table vs ess ps ms) first
        ∙ memories_same dss ess ps (written_by table ws p (served ws ds) memories) (rest_drive ds es dss ess h) apart.1

-- a net in a state that it came to from memories that fit
pub sound_run : (net : Net) → IsValid net → (start : List (List ℕ)) → Fits net.table start → (c : ℕ) (s : State) (ws : List ℕ) → ClocksTo net c (start_of net start) s → Settles net s ws
    → IsSoundPoint net s ws
sound_run net valid start fits zero s ws run settled =
    subst (λ (x : State). IsSoundPoint net x ws) run (starts_sound net valid start fits ws (subst (λ (x : State). Settles net x ws) (sym run) settled))
sound_run net valid start fits (suc c) s ws run settled =
    let one = run.1.1 in
    stays_sound net run.0 s one.wires ws (sound_run net valid start fits c run.0 one.wires run.1.0 one.settled) one.registers one.held one.memories settled

module _ (old new : Net) (h : IsDrivenBy old new) where
  same_start : (start : List (List ℕ)) → start_of new start ≡ start_of old start
  same_start start = (λ i. record {
    registers = map (λ (r : Register). r.initial) (h.registers i);
    held = replicate (h.joined.long i) 0;
    memories = start;
  })

  all_drive : (s : State) (ws vs : List ℕ) → IsSoundPoint old s ws → Settles new s vs → AllDrive ws vs old.drivers new.drivers
  all_drive s ws vs sound settled = record {
    long = h.joined.long;
    each = drives_same old new h s vs settled ws sound.settled sound.small;
  }

  -- one clock
  registers_same : (ws vs : List ℕ) → ((a : ℕ) → a < length old.cells → slice_index vs a ≡ slice_index ws a)
      → (rs : List Register) → ((i : ℕ) (r : Register) → slice_get rs i ≡ Some r → HasWidth old.cells r.next r.width)
      → map (λ (r : Register). slice_index vs r.next) rs ≡ map (λ (r : Register). slice_index ws r.next) rs
  registers_same ws vs same [] all = refl
  registers_same ws vs same (r ∷ rs) all =
      let c = cell_of old.cells r.next r.width (all 0 r refl) in
      let here = same r.next (slice_get_within old.cells r.next c.0 c.1.0) in
      let rest = registers_same ws vs same rs (λ i q at. all (suc i) q at) in
      (λ i. here i ∷ rest i)

  clock_same : (s t u : State) (one : Clocks old s t) (other : Clocks new s u) → IsSoundPoint old s one.wires → has_clashes one.wires old.drivers ≡ false → u ≡ t
  clock_same s t u one other sound none =
      let drive = all_drive s one.wires other.wires sound other.settled in
      same_state u t
      (other.registers
      ∙ (ap (λ (rs : List Register). map (λ (r : Register). slice_index other.wires r.next) rs) h.registers
      ∙ (registers_same one.wires other.wires (wires_same old new h s other.wires other.settled one.wires one.settled) old.registers (λ i r at. (h.valid.registers i r at).next)
      ∙ sym one.registers)))
      (other.held
      ∙ ((λ i. held_after (h.table i) other.wires new.drivers (ports_of (h.table i)) s.memories s.held)
      ∙ (held_same one.wires other.wires old.table old.drivers new.drivers (ports_of old.table) s.memories s.held drive none
      ∙ sym one.held)))
      (other.memories
      ∙ ((λ i. memories_after (h.table i) other.wires new.drivers (ports_of (h.table i)) s.memories)
      ∙ (memories_same one.wires other.wires old.table old.drivers new.drivers (ports_of old.table) s.memories drive none
      ∙ sym one.memories)))

  -- any number of clocks
  run_same : (start : List (List ℕ)) → Fits old.table start → (clocks : ℕ) (s t : State) → HadNoClash old start clocks
      → ClocksTo old clocks (start_of old start) s → ClocksTo new clocks (start_of new start) t → t ≡ s
  run_same start fits zero s t none run other = sym other ∙ (same_start start ∙ run)
  run_same start fits (suc c) s t none run other =
      let mid = run_same start fits c run.0 other.0 (λ k u us small before settled. none k u us (omega (arith, small)) before settled) run.1.0 other.1.0 in
      let one = run.1.1 in
      let last : Clocks new run.0 t = subst (λ (x : State). Clocks new x t) mid other.1.1 in
      clock_same run.0 s t one last (sound_run old h.valid start fits c run.0 one.wires run.1.0 one.settled) (none c run.0 one.wires (omega arith) run.1.0 one.settled)

  out_same : (ws vs : List ℕ) → ((a : ℕ) → a < length old.cells → slice_index vs a ≡ slice_index ws a) → (n a width : ℕ) → n ≡ a → HasWidth old.cells a width → slice_index vs n ≡ slice_index ws a
  out_same ws vs same n a width is wide =
      let c = cell_of old.cells a width wide in
      ap (λ (k : ℕ). slice_index vs k) is ∙ same a (slice_get_within old.cells a c.0 c.1.0)

  shows_same : (start : List (List ℕ)) → Fits old.table start → (clocks : ℕ) (s t : State) (ws vs : List ℕ) → HadNoClash old start clocks
      → ClocksTo old clocks (start_of old start) s → Settles old s ws → ClocksTo new clocks (start_of new start) t → Settles new t vs
      → ShowsTheSame old new s t ws vs
  shows_same start fits clocks s t ws vs none run w other v =
      let equal = run_same start fits clocks s t none run other in
      let settled : Settles new s vs = subst (λ (x : State). Settles new x vs) equal v in
      let sound = sound_run old h.valid start fits clocks s ws run w in
      let drive = all_drive s ws vs sound settled in
      let same = wires_same old new h s vs settled ws w in
      record {
        memories = ap (λ (x : State). x.memories) equal;
        held = ap (λ (x : State). x.held) equal;
        tick = out_same ws vs same new.tick old.tick 1 h.tick h.valid.tick;
        done = out_same ws vs same new.done old.done 1 h.done h.valid.done;
        fault = out_same ws vs same new.fault old.fault 32 h.fault h.valid.fault;
        clash = clashes_same ws vs old.drivers new.drivers drive;
        stray = λ e.
            strays_same ws vs old.drivers new.drivers (ports_of old.table) drive
            (ap (λ (table : List MemEntry). has_strays vs new.drivers (ports_of table)) (sym h.table) ∙ e);
        writes = λ port ds es given there. (drive.each port ds es given there).writes;
      }

  -- reads of data 0
  port_at : (q : ℕ) (ds : List Driver) → slice_get old.drivers q ≡ Some ds → (p : Port) × (slice_get (ports_of old.table) q ≡ Some p)
  port_at q ds at =
      let inside = slice_get_within old.drivers q ds at in
      let ports = h.valid.ports in
      item_at (ports_of old.table) q (omega (arith, inside, ports))

  zeros : (dss ess : List (List Driver)) → length ess ≡ length dss
      → ((q : ℕ) (ds es : List Driver) → slice_get dss q ≡ Some ds → slice_get ess q ≡ Some es → AllByRecursion ReadsZero ds → AllByRecursion ReadsZero es)
      → AllByRecursion (λ (ds : List Driver). AllByRecursion ReadsZero ds) dss → AllByRecursion (λ (es : List Driver). AllByRecursion ReadsZero es) ess
  zeros [] [] long each all = tt
  zeros [] (es ∷ ess) long each all = absurd (omega (arith, long))
  zeros (ds ∷ dss) [] long each all = absurd (omega (arith, long))
  zeros (ds ∷ dss) (es ∷ ess) long each all = (
    each 0 ds es refl refl all.0,
    zeros dss ess (omega (arith, long)) (λ q xs ys a b. each (suc q) xs ys a b) all.1,
  )

  joined_at : (q : ℕ) (ds es : List Driver) → slice_get old.drivers q ≡ Some ds → slice_get new.drivers q ≡ Some es
      → (p : Port) × JoinedIn new.cells p ds es
  joined_at q ds es given there = (let p = port_at q ds given in (p.0, h.joined.each q p.0 ds es p.1 given there))

  pub is_joined : IsJoined old new
  is_joined = record {
    valid = new_valid old new h;
    table = h.table;
    faults = h.faults;
    registers = h.registers;
    ports = h.joined.long;
    few = λ q ds es given there. (joined_at q ds es given there).1.few;
    zero_reads = λ all. zeros old.drivers new.drivers h.joined.long (λ q ds es given there own. (joined_at q ds es given there).1.zero own) all;
    same = shows_same;
    begins = h.joined.grows.begins;
    added = h.joined.grows.added;
    small = h.joined.grows.few;
    deep = λ depths d q ds es given there most height small all. (joined_at q ds es given there).1.deep depths most height d small all;
  }

-- What a net plays, the joined one plays.

module _ (old new : Net) (valid : IsValid old) (h : IsJoined old new) (r : Run) (start : List (List ℕ)) (fits : Fits old.table start) (p : Plays old r start) where
  -- no clock of a net that plays a run has a clash
  pub never_clashed : (clocks : ℕ) → HadNoClash old start clocks
  never_clashed clocks c s ws small run settled = (let f = p.fits c in (p.shows c f.0 s ws run settled f.1).no_clash)

  shows_run : (clocks n : ℕ) (s t : State) (ws vs : List ℕ) → ShowsTheSame old new s t ws vs → ShowsRun old r clocks n s ws → ShowsRun new r clocks n t vs
  shows_run clocks n s t ws vs e x = record {
    no_clash = not_so (has_clashes vs new.drivers) (has_clashes ws old.drivers) e.clash x.no_clash;
    no_stray = not_so (strays new vs) (strays old ws) e.stray x.no_stray;
    memories = e.memories ∙ x.memories;
    tick = subst (λ (v : ℕ). (v ≡ 1) ↔ ((0 < clocks) × (clocks ≡ clocks_of r n))) (sym e.tick) x.tick;
    done = subst (λ (v : ℕ). (v ≡ 1) ↔ ((m : ℕ) × (EndsAfter r m × (clocks_of r m ≤ clocks)))) (sym e.done) x.done;
    fault = subst (λ (v : ℕ). (v ≢ 0) ↔ FaultsWithin r clocks) (sym e.fault) x.fault;
    names = λ m kind place after within. (λ i. entry_at (h.faults i) (e.fault i)) ∙ x.names m kind place after within;
  }

  pub joined_plays : Plays new r start
  joined_plays = record {
    takes_clocks = p.takes_clocks;
    never_stuck = p.never_stuck;
    fits = p.fits;
    shows = λ clocks n t vs run settled fit.
        let o = p.runs clocks in
        shows_run clocks n o.0 t o.1.0 vs (h.same start fits clocks o.0 t o.1.0 vs (never_clashed clocks) o.1.1.0 o.1.1.1 run settled)
        (p.shows clocks n o.0 o.1.0 o.1.1.0 o.1.1.1 fit);
    runs = λ clocks.
        let s = some_run new h.valid clocks (start_of new start) in
        let w = some_valuation new h.valid s.0 in
        (s.0, (w.0, (s.1, w.1)));
  }
