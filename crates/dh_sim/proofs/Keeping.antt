-- A clock leads from a state that fits its net to one that does. A register takes a wire of its own
-- width. Held data come from a memory, whose elements fit, or were held before; what is no row is 0. An
-- element that is written takes a wire of its memory's width, and a memory keeps its length.
use Rattle.std.proofs.Common.{◌≡◌, ℕ, zero, suc, ◌+◌, ◌++◌, set, ◌^◌, ◌<◌, Bool, true, false, Option, Some, None, List, [], ◌∷◌, length, map, get_or, replicate, refl, sym, ap, subst, ◌∙◌, arith}
use Rattle.std.specs.Prelude.{slice_get, slice_set, nat_lt, if◌then◌else◌, Vec}
use Rattle.std.specs.Global.{Global}
use Rattle.std.specs.List.{AllByRecursion}
use Rattle.std.proofs.lemmas.List.{length-set, length-map, length-replicate, get_or-map}
use Rattle.std.proofs.lemmas.Option.{slice_get_within, get_or_from_slice_get}
use Rattle.std.proofs.lemmas.Nat.{pow_pos}
use Rattle.dh_tree.specs.Tables.{Fits, FitsEntry}
use Rattle.dh_value.specs.Words.{width_of}
use Rattle.dh_tree.specs.declared.tables.MemEntry.{MemEntry}
use Rattle.dh_net.specs.declared.nets.Register.{Register}
use Rattle.dh_net.specs.declared.nets.Cell.{Cell}
use Rattle.dh_net.specs.declared.nets.Driver.{Driver}
use Rattle.dh_net.specs.declared.nets.Net.{Net}
use Rattle.dh_net.specs.Valid.{HasWidth, IsValid}
use Rattle.dh_net.specs.BankPorts.{port_count, port_of, memory_ports, ports_from, ports_of}
use Rattle.dh_net.specs.Clock.{State, IsValuation, Settles, has_clashes, is_active, served, memory_at, position_of_row, row_value, with_row, held_by, written_by, held_after, memories_after, start_of}
use Rattle.dh_net.specs.Laws.{FitsNet, WiresFit}
use Rattle.dh_net.specs.declared.ports.Port.{Port}
use Rattle.dh_sim.specs.Layouts.{ArraysFit}
use Rattle.dh_net.proofs.Valuations.{cell_of, wires_fit, one_valuation}
use Rattle.dh_sim.specs.declared.arrays.Shown.{Shown}
use Rattle.dh_sim.specs.Points.{Point, IsSoundPoint, state_of_arrays}
use Rattle.dh_sim.specs.Shows.{ShowsAs}

-- a wire that has a width is below 2 to that power
pub wide_fits : (cells : List Cell) (ws : List ℕ) → WiresFit cells ws → (a width : ℕ) → HasWidth cells a width → get_or ws a 0 < 2 ^ width
wide_fits cells ws fit a width wide =
    let found = cell_of cells a width wide in
    subst (λ (x : ℕ). get_or ws a 0 < 2 ^ x) found.1.1 (fit a found.0 found.1.0)

-- an item of a list whose items are below a bound, or the 0 past its end
below_there : (m : ℕ) → 0 < m → (xs : List ℕ) → AllByRecursion (λ v. v < m) xs → (i : ℕ) → get_or xs i 0 < m
below_there m pos [] all i = pos
below_there m pos (x ∷ xs) all zero = all.0
below_there m pos (x ∷ xs) all (suc i) = below_there m pos xs all.1 i

below_set : (m : ℕ) (xs : List ℕ) → AllByRecursion (λ v. v < m) xs → (i v : ℕ) → v < m → AllByRecursion (λ v. v < m) (slice_set xs i v)
below_set m [] all i v small = all
below_set m (x ∷ xs) all zero v small = (small, all.1)
below_set m (x ∷ xs) all (suc i) v small = (all.0, below_set m xs all.1 i v small)

-- what the driver writes, if it does, has this width
abbrev IsOut : List Cell → (width : ℕ) → Option Driver → Type 0
IsOut cells width None = Unit {0}
IsOut cells width (Some d) = d.write ≡ true → HasWidth cells d.data_ width

pick : {X : Type 0} (P : X → Type 0) (b : Bool) (x y : X) → P x → P y → P (if b then x else y)
pick P true x y p q = p
pick P false x y p q = q

-- the same for the data that drivers of a port write
abbrev AreOut : List Cell → (width : ℕ) → List Driver → Type 0
AreOut cells width ds = (k : ℕ) (d : Driver) → slice_get ds k ≡ Some d → d.write ≡ true → HasWidth cells d.data_ width

served_out : (cells : List Cell) (width : ℕ) (ws : List ℕ) (ds : List Driver) → AreOut cells width ds → IsOut cells width (served ws ds)
served_out cells width ws [] out = tt
served_out cells width ws (d ∷ ds) out =
    pick (IsOut cells width) (is_active ws d) (Some d) (served ws ds) (out 0 d refl) (served_out cells width ws ds (λ k e there. out (suc k) e there))

-- the elements of a memory of a width are below 2 to that power
abbrev IsBelow : (width : ℕ) → List ℕ → Type 0
IsBelow width values = AllByRecursion (λ v. v < 2 ^ width) values

-- every memory that a port names holds data of its width
abbrev MemoriesBelow : List Port → List (List ℕ) → Type 0
MemoriesBelow ps ms = AllByRecursion (λ p. IsBelow p.width (memory_at ms p.memory)) ps

row_fits : (table : List MemEntry) (p : Port) (ms : List (List ℕ)) (row : ℕ) → IsBelow p.width (memory_at ms p.memory) → row_value table p ms row < 2 ^ p.width
row_fits table p ms row below =
    pick (λ x. x < 2 ^ p.width) (nat_lt row p.rows) (get_or (memory_at ms p.memory) (position_of_row table p row) 0) 0
    (below_there (2 ^ p.width) (pow_pos p.width) (memory_at ms p.memory) below (position_of_row table p row)) (pow_pos p.width)

datum_fits : (table : List MemEntry) (ws : List ℕ) (p : Port) (o : Option Driver) (ms : List (List ℕ)) (had : ℕ) → IsBelow p.width (memory_at ms p.memory) → had < 2 ^ p.width
    → held_by table ws p o ms had < 2 ^ p.width
datum_fits table ws p None ms had below small = small
datum_fits table ws p (Some d) ms had below small =
    pick (λ x. x < 2 ^ p.width) d.write had (row_value table p ms (get_or ws d.row 0)) small (row_fits table p ms (get_or ws d.row 0) below)

-- each port's held datum fits it
abbrev HeldFit : List Port → List ℕ → Type 0
HeldFit ps hs = (i : ℕ) (p : Port) → slice_get ps i ≡ Some p → get_or hs i 0 < 2 ^ p.width

-- the first port, found at 0
first_is : (p q : Port) (m : ℕ) → Some p ≡ Some q → m < 2 ^ p.width → m < 2 ^ q.width
first_is p q m same small = let is : p ≡ q = cc in subst (λ (x : Port). m < 2 ^ x.width) is small

data_fit : (table : List MemEntry) (ws : List ℕ) (ps : List Port) (dss : List (List Driver)) (ms : List (List ℕ)) (hs : List ℕ)
    → length dss ≡ length ps → length hs ≡ length dss → MemoriesBelow ps ms → HeldFit ps hs → HeldFit ps (held_after table ws dss ps ms hs)
data_fit table ws [] dss ms hs long held below small i p there = absurd (cc)
data_fit table ws (p ∷ ps) [] ms hs long held below small i q there = absurd (omega arith)
data_fit table ws (p ∷ ps) (ds ∷ dss) ms [] long held below small i q there = absurd (omega arith)
data_fit table ws (p ∷ ps) (ds ∷ dss) ms (h ∷ hs) long held below small zero q there =
    first_is p q _ there (datum_fits table ws p (served ws ds) ms h below.0 (small 0 p refl))
data_fit table ws (p ∷ ps) (ds ∷ dss) ms (h ∷ hs) long held below small (suc i) q there =
    data_fit table ws ps dss ms hs (omega arith) (omega arith) below.1 (λ j r at. small (suc j) r at) i q there

held_long : (table : List MemEntry) (ws : List ℕ) (ps : List Port) (dss : List (List Driver)) (ms : List (List ℕ)) (hs : List ℕ)
    → length dss ≡ length ps → length hs ≡ length dss → length (held_after table ws dss ps ms hs) ≡ length dss
held_long table ws ps [] ms hs long held = refl
held_long table ws [] (ds ∷ dss) ms hs long held = absurd (omega arith)
held_long table ws (p ∷ ps) (ds ∷ dss) ms [] long held = absurd (omega arith)
held_long table ws (p ∷ ps) (ds ∷ dss) ms (h ∷ hs) long held = ap suc (held_long table ws ps dss ms hs (omega arith) (omega arith))

-- one memory changed at one place by a value of its width

entry_set : (e : MemEntry) (values : List ℕ) (place v : ℕ) → v < 2 ^ width_of e.shape.kind → FitsEntry e values → FitsEntry e (slice_set values place v)
entry_set e values place v small ok =
    record { long = length-set values place v ∙ ok.long; small = below_set (2 ^ width_of e.shape.kind) values ok.small place v small }

memory_set : (table : List MemEntry) (ms : List (List ℕ)) (m place v : ℕ) → ((e : MemEntry) → slice_get table m ≡ Some e → v < 2 ^ width_of e.shape.kind)
    → Fits table ms → Fits table (set ms m (slice_set (memory_at ms m) place v))
memory_set [] [] m place v small fits = tt
memory_set [] (x ∷ ms) m place v small fits = absurd fits
memory_set (e ∷ es) [] m place v small fits = absurd fits
memory_set (e ∷ es) (x ∷ ms) zero place v small fits = (entry_set e x place v (small e refl) fits.0, fits.1)
memory_set (e ∷ es) (x ∷ ms) (suc m) place v small fits = (fits.0, memory_set es ms m place v (λ f at. small f at) fits.1)

-- a port tells the width of its memory
abbrev TellsWidth : List MemEntry → Port → Type 0
TellsWidth table p = (e : MemEntry) → slice_get table p.memory ≡ Some e → p.width ≡ width_of e.shape.kind

row_set : (table : List MemEntry) (p : Port) (ms : List (List ℕ)) (row v : ℕ) → TellsWidth table p → v < 2 ^ p.width → Fits table ms → Fits table (with_row table p ms row v)
row_set table p ms row v told small fits =
    pick (λ x. Fits table x) (nat_lt row p.rows) (set ms p.memory (slice_set (memory_at ms p.memory) (position_of_row table p row) v)) ms
    (memory_set table ms p.memory (position_of_row table p row) v (λ e at. subst (λ (w : ℕ). v < 2 ^ w) (told e at) small) fits) fits

written_fits : (cells : List Cell) (ws : List ℕ) → WiresFit cells ws → (table : List MemEntry) (p : Port) (d : Driver) (ms : List (List ℕ)) (write : Bool)
    → (write ≡ true → HasWidth cells d.data_ p.width) → TellsWidth table p → Fits table ms
    → Fits table (if write then with_row table p ms (get_or ws d.row 0) (get_or ws d.data_ 0) else ms)
written_fits cells ws fit table p d ms false out told ok = ok
written_fits cells ws fit table p d ms true out told ok = row_set table p ms (get_or ws d.row 0) (get_or ws d.data_ 0) told (wide_fits cells ws fit d.data_ p.width (out refl)) ok

port_fits : (cells : List Cell) (ws : List ℕ) → WiresFit cells ws → (table : List MemEntry) (p : Port) (o : Option Driver) (ms : List (List ℕ)) → IsOut cells p.width o → TellsWidth table p
    → Fits table ms → Fits table (written_by table ws p o ms)
port_fits cells ws fit table p None ms out told ok = ok
port_fits cells ws fit table p (Some d) ms out told ok = written_fits cells ws fit table p d ms d.write out told ok

-- the drivers of each port write data of its width
abbrev PortsOut : List Cell → List Port → List (List Driver) → Type 0
PortsOut cells ps dss = (i : ℕ) (ds : List Driver) (p : Port) → slice_get dss i ≡ Some ds → slice_get ps i ≡ Some p → AreOut cells p.width ds

memories_fit : (cells : List Cell) (ws : List ℕ) → WiresFit cells ws → (table : List MemEntry) (ps : List Port) (dss : List (List Driver)) (ms : List (List ℕ))
    → PortsOut cells ps dss → AllByRecursion (TellsWidth table) ps → Fits table ms → Fits table (memories_after table ws dss ps ms)
memories_fit cells ws fit table ps [] ms out told fits = fits
memories_fit cells ws fit table [] (ds ∷ dss) ms out told fits = fits
memories_fit cells ws fit table (p ∷ ps) (ds ∷ dss) ms out told fits =
    memories_fit cells ws fit table ps dss (written_by table ws p (served ws ds) ms) (λ i es q at there. out (suc i) es q at there) told.1
    (port_fits cells ws fit table p (served ws ds) ms (served_out cells p.width ws ds (out 0 ds p refl refl)) told.0 fits)

-- each port of a table tells the width of its memory, so what is there is below it

fits_at : (table : List MemEntry) (ms : List (List ℕ)) (m : ℕ) (e : MemEntry) → Fits table ms → slice_get table m ≡ Some e → IsBelow (width_of e.shape.kind) (memory_at ms m)
fits_at [] ms m e fits at = absurd (cc)
fits_at (x ∷ es) [] m e fits at = absurd fits
fits_at (x ∷ es) (v ∷ ms) zero e fits at = let same : x ≡ e = cc in subst (λ (y : MemEntry). IsBelow (width_of y.shape.kind) v) same fits.0.small
fits_at (x ∷ es) (v ∷ ms) (suc m) e fits at = fits_at es ms m e fits.1 at

record Tells (table : List MemEntry) (p : Port) : Type 0 where
  entry : MemEntry
  there : slice_get table p.memory ≡ Some entry
  width : p.width ≡ width_of entry.shape.kind

tells_run : (whole : List MemEntry) (memory : ℕ) (e : MemEntry) (k n : ℕ) → slice_get whole memory ≡ Some e → AllByRecursion (Tells whole) (memory_ports memory e k n)
tells_run whole memory e k zero at = tt
tells_run whole memory e k (suc n) at = (record { entry = e; there = at; width = refl }, tells_run whole memory e (k + 1) n at)

tells_both : (whole : List MemEntry) (ps qs : List Port) → AllByRecursion (Tells whole) ps → AllByRecursion (Tells whole) qs → AllByRecursion (Tells whole) (ps ++ qs)
tells_both whole [] qs h k = k
tells_both whole (p ∷ ps) qs h k = (h.0, tells_both whole ps qs h.1 k)

tells_from : (whole : List MemEntry) (first : ℕ) (es : List MemEntry) → ((k : ℕ) (e : MemEntry) → slice_get es k ≡ Some e → slice_get whole (first + k) ≡ Some e)
    → AllByRecursion (Tells whole) (ports_from first es)
tells_from whole first [] at = tt
tells_from whole first (e ∷ es) at =
    let none : first + 0 ≡ first = omega arith in
    tells_both whole (memory_ports first e 0 (port_count e)) (ports_from (first + 1) es) (tells_run whole first e 0 (port_count e) (ap (λ i. slice_get whole i) (sym none) ∙ at 0 e refl))
    (tells_from whole (first + 1) es (λ k f there. ap (λ i. slice_get whole i) (moved first k) ∙ at (suc k) f there))
  where
    moved : (a b : ℕ) → a + 1 + b ≡ a + suc b
    moved a b = omega arith

all_tell : (table : List MemEntry) → AllByRecursion (Tells table) (ports_of table)
all_tell table = tells_from table 0 table same
  where
    same : (k : ℕ) (e : MemEntry) → slice_get table k ≡ Some e → slice_get table (0 + k) ≡ Some e
    same k e there = let none : 0 + k ≡ k = omega arith in ap (λ i. slice_get table i) none ∙ there

tells_width : (table : List MemEntry) (p : Port) → Tells table p → TellsWidth table p
tells_width table p t e at =
    let both : Some t.entry ≡ Some e = sym t.there ∙ at in
    let same : t.entry ≡ e = cc in
    t.width ∙ ap (λ (x : MemEntry). width_of x.shape.kind) same

all_widths : (table : List MemEntry) (ps : List Port) → AllByRecursion (Tells table) ps → AllByRecursion (TellsWidth table) ps
all_widths table [] h = tt
all_widths table (p ∷ ps) h = (tells_width table p h.0, all_widths table ps h.1)

all_below : (table : List MemEntry) (ms : List (List ℕ)) → Fits table ms → (ps : List Port) → AllByRecursion (Tells table) ps → MemoriesBelow ps ms
all_below table ms fits [] h = tt
all_below table ms fits (p ∷ ps) h =
    (subst (λ (w : ℕ). IsBelow w (memory_at ms p.memory)) (sym h.0.width) (fits_at table ms p.memory h.0.entry fits h.0.there), all_below table ms fits ps h.1)

-- there is one list of contents for each memory
pub fits_long : (table : List MemEntry) (bs : List (List ℕ)) → Fits table bs → length bs ≡ length table
fits_long [] [] fits = refl
fits_long [] (b ∷ bs) fits = absurd fits
fits_long (e ∷ es) [] fits = absurd fits
fits_long (e ∷ es) (b ∷ bs) fits = ap suc (fits_long es bs fits.1)

-- what is at an index of a list that was made item by item
mapped_at : (f : Register → ℕ) (rs : List Register) (i : ℕ) (r : Register) → slice_get rs i ≡ Some r → get_or (map f rs) i 0 ≡ f r
mapped_at f rs i r there = get_or-map f rs i r 0 (slice_get_within rs i r there) ∙ ap f (get_or_from_slice_get rs i r r there)

-- the wires of a sound state fit
pub sound_fits : (net : Net) (s : State) (ws : List ℕ) → IsSoundPoint net s ws → WiresFit net.cells ws
sound_fits net s ws ok = wires_fit net ok.valid s ws ok.settled ok.small

-- a clock keeps all but the wires: the registers, the held data and the memories
pub clock_fits : (net : Net) (s t : State) (ws : List ℕ) → IsSoundPoint net s ws
    → t.registers ≡ map (λ r. get_or ws r.next 0) net.registers → t.held ≡ held_after net.table ws net.drivers (ports_of net.table) s.memories s.held → FitsNet net t
clock_fits net s t ws ok registers held =
    let fit = sound_fits net s ws ok in
    record {
      registers = λ i r there. subst (λ (x : ℕ). x < 2 ^ r.width) (sym (ap (λ xs. get_or xs i 0) registers ∙ mapped_at (λ r. get_or ws r.next 0) net.registers i r there))
          (wide_fits net.cells ws fit r.next r.width (ok.valid.registers i r there).next);
      held = subst (λ (x : List ℕ). HeldFit (ports_of net.table) x) (sym held)
          (data_fit net.table ws (ports_of net.table) net.drivers s.memories s.held ok.valid.ports ok.held (all_below net.table s.memories ok.memories (ports_of net.table) (all_tell net.table)) ok.small.held);
    }

pub held_stays : (net : Net) (s : State) (ws hs : List ℕ) → IsSoundPoint net s ws → hs ≡ held_after net.table ws net.drivers (ports_of net.table) s.memories s.held → length hs ≡ length net.drivers
held_stays net s ws hs ok held = ap length held ∙ held_long net.table ws (ports_of net.table) net.drivers s.memories s.held ok.valid.ports ok.held

pub stays_sound : (net : Net) (s t : State) (ws vs : List ℕ) → IsSoundPoint net s ws
    → t.registers ≡ map (λ r. get_or ws r.next 0) net.registers → t.held ≡ held_after net.table ws net.drivers (ports_of net.table) s.memories s.held
    → t.memories ≡ memories_after net.table ws net.drivers (ports_of net.table) s.memories → Settles net t vs → IsSoundPoint net t vs
stays_sound net s t ws vs ok registers held memories settled =
    let fit = sound_fits net s ws ok in
    record {
      valid = ok.valid;
      registers = ap length registers ∙ length-map net.registers (λ r. get_or ws r.next 0);
      held = held_stays net s ws t.held ok held;
      memories = subst (λ (x : List (List ℕ)). Fits net.table x) (sym memories)
          (memories_fit net.cells ws fit net.table (ports_of net.table) net.drivers s.memories (λ i ds p at there k d of. (ok.valid.drivers i ds p at there k d of).out)
          (all_widths net.table (ports_of net.table) (all_tell net.table)) ok.memories);
      small = clock_fits net s t ws ok registers held;
      settled = settled;
    }

-- zeros fit whatever they are to fit
zero_there : (n i : ℕ) → let none : ℕ = 0 in get_or (replicate n none) i none ≡ none
zero_there zero i = refl
zero_there (suc n) zero = refl
zero_there (suc n) (suc i) = zero_there n i

-- what a net begins with fits it
pub starts_fit : (net : Net) → IsValid net → (rs hs : List ℕ) → rs ≡ map (λ r. r.initial) net.registers → hs ≡ replicate (length net.drivers) 0 → ArraysFit net rs hs
starts_fit net valid rs hs registers held =
    record {
      registers = λ i r there. subst (λ (x : ℕ). x < 2 ^ r.width) (sym (ap (λ xs. get_or xs i 0) registers ∙ mapped_at (λ r. r.initial) net.registers i r there)) (valid.registers i r there).initial;
      held = λ i p there. subst (λ (x : ℕ). x < 2 ^ p.width) (sym (ap (λ xs. get_or xs i 0) held ∙ zero_there (length net.drivers) i)) (pow_pos p.width);
    }

-- the state before the first clock
pub starts_sound : (net : Net) → IsValid net → (m : List (List ℕ)) → Fits net.table m → (ws : List ℕ) → Settles net (start_of net m) ws → IsSoundPoint net (start_of net m) ws
starts_sound net valid m fits ws settled =
    let arrays = starts_fit net valid (map (λ r. r.initial) net.registers) (replicate (length net.drivers) 0) refl refl in
    record {
      valid = valid;
      registers = length-map net.registers (λ r. r.initial);
      held = length-replicate (length net.drivers) 0;
      memories = fits;
      small = record { registers = arrays.registers; held = arrays.held };
      settled = settled;
    }

-- the arrays that a simulator is made of
pub made_sound : (net : Net) → IsValid net → (m : List (List ℕ)) → Fits net.table m → (rs hs ws : List ℕ) (bs : List (Vec ℕ Global))
    → rs ≡ map (λ r. r.initial) net.registers → hs ≡ replicate (length net.drivers) 0 → map (λ b. b.items) bs ≡ m → IsValuation net.table net.cells rs hs ws
    → IsSoundPoint net (state_of_arrays rs hs bs) ws
made_sound net valid m fits rs hs ws bs registers held memories wires =
    let state : List ℕ → List ℕ → List (List ℕ) → State = λ r h b. record { registers = r; held = h; memories = b } in
    let same : start_of net m ≡ state_of_arrays rs hs bs =
    ap (λ x. state x (replicate (length net.drivers) 0) m) (sym registers) ∙ (ap (λ x. state rs x m) (sym held) ∙ ap (λ x. state rs hs x) (sym memories)) in
    subst (λ (s : State). IsSoundPoint net s ws) same (starts_sound net valid m fits ws (subst (λ (s : State). Settles net s ws) (sym same) wires))

-- the fault output is a number of 32 bits
pub fault_small : (net : Net) (s : State) (ws xs : List ℕ) → IsSoundPoint net s ws → xs ≡ ws → get_or xs net.fault 0 < 2 ^ 32
fault_small net s ws xs ok same = subst (λ (x : List ℕ). get_or x net.fault 0 < 2 ^ 32) (sym same) (wide_fits net.cells ws (sound_fits net s ws ok) net.fault 32 ok.valid.fault)

-- what is shown by the wires at hand is shown by any valuation, since there is one
pub shows_all : (net : Net) (s : State) (ws xs : List ℕ) (shown : Shown) (clash : Bool) (p : Point) → IsSoundPoint net s ws → xs ≡ ws → ShowsAs shown net xs clash
    → p ≡ record { net = net; state = s; clash = clash } → (vs : List ℕ) → Settles p.net p.state vs → ShowsAs shown p.net vs p.clash
shows_all net s ws xs shown clash p ok same shows is vs settled =
    let here : Point = record { net = net; state = s; clash = clash } in
    let settled_here : Settles net s vs = subst (λ (q : Point). Settles q.net q.state vs) is settled in
    let one : xs ≡ vs = same ∙ one_valuation net ok.valid s ws vs ok.settled settled_here in
    subst (λ (q : Point). ShowsAs shown q.net vs q.clash) (sym is) (subst (λ (x : List ℕ). ShowsAs shown net x clash) one shows)

-- and so are its clashes
pub clashes_all : (net : Net) (s : State) (ws xs : List ℕ) (clash : Bool) (p : Point) → IsSoundPoint net s ws → xs ≡ ws → clash ≡ has_clashes xs net.drivers
    → (b : Bool) → p ≡ record { net = net; state = s; clash = b } → (vs : List ℕ) → Settles p.net p.state vs → clash ≡ has_clashes vs p.net.drivers
clashes_all net s ws xs clash p ok same clashes b is vs settled =
    let settled_here : Settles net s vs = subst (λ (q : Point). Settles q.net q.state vs) is settled in
    let one : xs ≡ vs = same ∙ one_valuation net ok.valid s ws vs ok.settled settled_here in
    subst (λ (q : Point). clash ≡ has_clashes vs q.net.drivers) (sym is) (subst (λ (x : List ℕ). clash ≡ has_clashes x net.drivers) one clashes)

-- the same where the ports are at hand in a list of their own
module _ (net : Net) (rs hs ws : List ℕ) (bs : List (Vec ℕ Global)) (ports : List Port) (ok : IsSoundPoint net (state_of_arrays rs hs bs) ws) (ports_are : ports ≡ ports_of net.table)
    (registers held : List ℕ) (loaded : registers ≡ map (λ r. get_or ws r.next 0) net.registers)
    (read : held ≡ held_after net.table ws net.drivers ports (map (λ b. b.items) bs) hs) where
  read_here : held ≡ held_after net.table ws net.drivers (ports_of net.table) (map (λ b. b.items) bs) hs
  read_here = read ∙ ap (λ ps. held_after net.table ws net.drivers ps (map (λ b. b.items) bs) hs) ports_are

  pub arrays_stay : ArraysFit net registers held
  arrays_stay = clock_fits net (state_of_arrays rs hs bs) (record { registers = registers; held = held; memories = [] }) ws ok loaded read_here

  pub sound_stays : (after : List (Vec ℕ Global)) (vs : List ℕ) → map (λ b. b.items) after ≡ memories_after net.table ws net.drivers ports (map (λ b. b.items) bs)
      → IsValuation net.table net.cells registers held vs → IsSoundPoint net (state_of_arrays registers held after) vs
  sound_stays after vs written settled =
      let here = written ∙ ap (λ ps. memories_after net.table ws net.drivers ps (map (λ b. b.items) bs)) ports_are in
      stays_sound net (state_of_arrays rs hs bs) (state_of_arrays registers held after) ws vs ok loaded read_here here settled
