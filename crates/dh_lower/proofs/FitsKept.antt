-- A clock of a valid net leads from a state that fits to one that fits, where memories fit. A register takes a wire of
-- its width, and a port holds what it held, or an element of its memory.
use Rattle.std.proofs.Common.{◌≡◌, ℕ, zero, suc, ◌+◌, ◌<◌, ◌^◌, Some, None, Bool, true, false, if◌then◌else◌, List, length, map, refl, sym, ap, subst, ◌∙◌, arith}
use Rattle.std.specs.Prelude.{[], ◌∷◌, Option, slice_get, slice_index, nat_lt}
use Rattle.std.specs.List.{AllByRecursion}
use Rattle.std.proofs.lemmas.Nat.{pow_pos}
use Rattle.dh_tree.specs.Tables.{Fits}
use Rattle.dh_tree.specs.declared.tables.MemEntry.{MemEntry}
use Rattle.dh_value.specs.Words.{width_of}
use Rattle.dh_net.specs.BankPorts.{port_count, memory_ports, ports_from, ports_of}
use Rattle.dh_net.specs.Clock.{State, Settles, Clocks, served, memory_at, position_of_row, row_value, held_by, held_after}
use Rattle.dh_net.specs.Laws.{FitsNet}
use Rattle.dh_net.specs.Valid.{IsValid}
use Rattle.dh_net.specs.declared.nets.Driver.{Driver}
use Rattle.dh_net.specs.declared.nets.Net.{Net}
use Rattle.dh_net.specs.declared.nets.Register.{Register}
use Rattle.dh_net.specs.declared.ports.Port.{Port}
use Rattle.dh_net.proofs.Valuations.{cell_of, wires_fit}
use Rattle.dh_plan.proofs.FittingEffects.{all_joined}
use Rattle.dh_plan.proofs.ValuesAlike.{all_map}

-- a port is of a memory of the table, and of its width
record IsPortIn (first : ℕ) (table : List MemEntry) (p : Port) : Type 0 where
  pub number : ℕ
  pub entry : MemEntry
  pub there : slice_get table number ≡ Some entry
  pub memory : p.memory ≡ first + number
  pub width : p.width ≡ width_of entry.shape.kind

run_in : (first : ℕ) (e : MemEntry) (es : List MemEntry) (k n : ℕ) → AllByRecursion (IsPortIn first (e ∷ es)) (memory_ports first e k n)
run_in first e es k zero = tt
run_in first e es k (suc n) = (record { number = 0; entry = e; there = refl; memory = plain first; width = refl }, run_in first e es (k + 1) n)
  where
    plain : (n : ℕ) → n ≡ n + 0
    plain n = omega arith

ports_in : (first : ℕ) (table : List MemEntry) → AllByRecursion (IsPortIn first table) (ports_from first table)
ports_in first [] = tt
ports_in first (e ∷ es) =
    all_joined (IsPortIn first (e ∷ es)) (memory_ports first e 0 (port_count e)) (ports_from (first + 1) es) (run_in first e es 0 (port_count e))
    (all_map (IsPortIn (first + 1) es) (IsPortIn first (e ∷ es)) (ports_from (first + 1) es)
    (λ p h. record { number = suc h.number; entry = h.entry; there = h.there; memory = h.memory ∙ moved first h.number; width = h.width }) (ports_in (first + 1) es))
  where
    moved : (n i : ℕ) → n + 1 + i ≡ n + suc i
    moved n i = omega arith

-- elements
item_small : (bound : ℕ) → 0 < bound → (xs : List ℕ) → AllByRecursion (λ v. v < bound) xs → (i : ℕ) → slice_index xs i < bound
item_small bound some [] all i = some
item_small bound some (x ∷ xs) all zero = all.0
item_small bound some (x ∷ xs) all (suc i) = item_small bound some xs all.1 i

element_fits : (table : List MemEntry) (memories : List (List ℕ)) → Fits table memories → (n : ℕ) (e : MemEntry) → slice_get table n ≡ Some e
    → (i : ℕ) → slice_index (memory_at memories n) i < 2 ^ width_of e.shape.kind
element_fits [] memories fits n e at i = absurd (cc)
element_fits (x ∷ es) [] fits n e at i = absurd fits
element_fits (x ∷ es) (m ∷ ms) fits zero e at i =
    let same : x ≡ e = cc in
    subst (λ (y : MemEntry). slice_index m i < 2 ^ width_of y.shape.kind) same (item_small (2 ^ width_of x.shape.kind) (pow_pos (width_of x.shape.kind)) m fits.0.small i)
element_fits (x ∷ es) (m ∷ ms) fits (suc n) e at i = element_fits es ms fits.1 n e at i

chosen_small : (t : Bool) (x y bound : ℕ) → x < bound → y < bound → (if t then x else y) < bound
chosen_small true x y bound a b = a
chosen_small false x y bound a b = b

row_fits : (table : List MemEntry) (memories : List (List ℕ)) → Fits table memories → (p : Port) → IsPortIn 0 table p → (row : ℕ) → row_value table p memories row < 2 ^ p.width
row_fits table memories fits p h row =
    let memory : p.memory ≡ h.number = h.memory ∙ plain h.number in
    chosen_small (nat_lt row p.rows) (slice_index (memory_at memories p.memory) (position_of_row table p row)) 0 (2 ^ p.width)
    (subst (λ (w : ℕ). slice_index (memory_at memories p.memory) (position_of_row table p row) < 2 ^ w) (sym h.width)
    (subst (λ (m : ℕ). slice_index (memory_at memories m) (position_of_row table p row) < 2 ^ width_of h.entry.shape.kind) (sym memory) (element_fits table memories fits h.number h.entry h.there (position_of_row table p row))))
    (pow_pos p.width)
  where
    plain : (n : ℕ) → 0 + n ≡ n
    plain n = omega arith

-- held data
abbrev HoldFit : List Port → List ℕ → Type 0
HoldFit ps hs = (q : ℕ) (p : Port) → slice_get ps q ≡ Some p → slice_index hs q < 2 ^ p.width

abbrev RowsFit : List MemEntry → List (List ℕ) → List Port → Type 0
RowsFit table memories ps = AllByRecursion (λ (p : Port). (row : ℕ) → row_value table p memories row < 2 ^ p.width) ps

one_held : (table : List MemEntry) (wires : List ℕ) (p : Port) (x : Option Driver) (memories : List (List ℕ)) (had : ℕ) → had < 2 ^ p.width
    → ((row : ℕ) → row_value table p memories row < 2 ^ p.width) → held_by table wires p x memories had < 2 ^ p.width
one_held table wires p None memories had small rows = small
one_held table wires p (Some d) memories had small rows = chosen_small d.write had (row_value table p memories (slice_index wires d.row)) (2 ^ p.width) small (rows (slice_index wires d.row))

all_held : (table : List MemEntry) (wires : List ℕ) (dss : List (List Driver)) (ps : List Port) (memories : List (List ℕ)) (hs : List ℕ) → HoldFit ps hs → RowsFit table memories ps
    → HoldFit ps (held_after table wires dss ps memories hs)
all_held table wires [] ps memories hs fits rows q p at = pow_pos p.width
all_held table wires (ds ∷ dss) [] memories hs fits rows q p at = absurd (cc)
all_held table wires (ds ∷ dss) (x ∷ ps) memories [] fits rows q p at = pow_pos p.width
all_held table wires (ds ∷ dss) (x ∷ ps) memories (h ∷ hs) fits rows zero p at =
    let same : x ≡ p = cc in
    subst (λ (y : Port). held_by table wires x (served wires ds) memories h < 2 ^ y.width) same (one_held table wires x (served wires ds) memories h (fits 0 x refl) rows.0)
all_held table wires (ds ∷ dss) (x ∷ ps) memories (h ∷ hs) fits rows (suc q) p at = all_held table wires dss ps memories hs (λ k r there. fits (suc k) r there) rows.1 q p at

pub held_long : (table : List MemEntry) (wires : List ℕ) (dss : List (List Driver)) (ps : List Port) (memories : List (List ℕ)) (hs : List ℕ) → length dss ≡ length ps → length hs ≡ length dss
    → length (held_after table wires dss ps memories hs) ≡ length dss
held_long table wires [] ps memories hs a b = refl
held_long table wires (ds ∷ dss) [] memories hs a b = absurd (omega (arith, a))
held_long table wires (ds ∷ dss) (p ∷ ps) memories [] a b = absurd (omega (arith, b))
held_long table wires (ds ∷ dss) (p ∷ ps) memories (h ∷ hs) a b = ap suc (held_long table wires dss ps memories hs (omega (arith, a)) (omega (arith, b)))

-- registers
pub at_map : {A : Type 0} (f : A → ℕ) (xs : List A) (i : ℕ) (x : A) → slice_get xs i ≡ Some x → slice_index (map f xs) i ≡ f x
at_map f [] i x at = absurd (cc)
at_map f (y ∷ xs) zero x at = (let same : y ≡ x = cc in ap f same)
at_map f (y ∷ xs) (suc i) x at = at_map f xs i x at

pub registers_fit : (net : Net) → IsValid net → (s : State) (wires : List ℕ) → FitsNet net s → Settles net s wires
    → (i : ℕ) (r : Register) → slice_get net.registers i ≡ Some r → slice_index (map (λ (r : Register). slice_index wires r.next) net.registers) i < 2 ^ r.width
registers_fit net valid s wires fits settled i r at =
    let cell = cell_of net.cells r.next r.width (valid.registers i r at).next in
    let small = wires_fit net valid s wires settled fits r.next cell.0 cell.1.0 in
    subst (λ (n : ℕ). n < 2 ^ r.width) (sym (at_map (λ (r : Register). slice_index wires r.next) net.registers i r at)) (subst (λ (w : ℕ). slice_index wires r.next < 2 ^ w) cell.1.1 small)

pub fits_kept : (net : Net) → IsValid net → (s t : State) → FitsNet net s → Fits net.table s.memories → Clocks net s t → FitsNet net t
fits_kept net valid s t fits memories c =
    let rows : RowsFit net.table s.memories (ports_of net.table)
    = all_map (IsPortIn 0 net.table) (λ (p : Port). (row : ℕ) → row_value net.table p s.memories row < 2 ^ p.width) (ports_of net.table) (λ p h. row_fits net.table s.memories memories p h) (ports_in 0 net.table) in
    record {
      registers = λ i r at. subst (λ (rs : List ℕ). slice_index rs i < 2 ^ r.width) (sym c.registers) (registers_fit net valid s c.wires fits c.settled i r at);
      held = λ q p at. subst (λ (hs : List ℕ). slice_index hs q < 2 ^ p.width) (sym c.held)
          (all_held net.table c.wires net.drivers (ports_of net.table) s.memories s.held fits.held rows q p at);
    }
