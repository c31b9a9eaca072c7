-- Serving the ports one by one. What the ports before port i have read, followed by what the rest will read,
-- is what all read; and what the rest will write to the memories at hand is what all write.
use Rattle.std.proofs.Common.{◌≡◌, ℕ, zero, suc, ◌+◌, ◌*◌, ◌/◌, ◌<◌, ◌≤◌, true, false, if◌then◌else◌, List, [], ◌∷◌, ◌++◌, length, map, take, drop, get_or, set, Some, refl, sym, ap, subst, ◌∙◌, arith, append_assoc, add-one, drop-cons}
use Rattle.std.specs.Prelude.{Vec, Option, slice_get, slice_set, nat_lt}
use Rattle.std.specs.Global.{Global}
use Rattle.std.specs.List.{AllByRecursion}
use Rattle.std.proofs.lemmas.Bool.Decides.{nat_tests}
use Rattle.std.proofs.lemmas.List.{take_more_set, drop-set-lt, get_or_default, get_or-map, map-set}
use Rattle.std.proofs.lemmas.Option.{slice_get_within, slice_get-get_or}
use Rattle.dh_tree.proofs.BankElements.{row_below}
use Rattle.dh_tree.specs.Elements.{banks_of}
use Rattle.dh_tree.specs.declared.tables.MemEntry.{MemEntry}
use Rattle.dh_net.specs.BankPorts.{port_count, port_of, memory_ports, ports_from, ports_of}
use Rattle.dh_net.specs.Clock.{served, memory_at, position_of_row, with_row, held_by, written_by, held_after, memories_after}
use Rattle.dh_extents.specs.Extents.{IsSmallMemory}
use Rattle.dh_net.specs.declared.nets.Driver.{Driver}
use Rattle.dh_net.specs.Valid.{IsValid}
use Rattle.dh_net.specs.declared.nets.Net.{Net}
use Rattle.dh_net.specs.declared.ports.Port.{Port}
use Rattle.dh_net.proofs.PortWalks.{small_memories}
use Rattle.dh_sim.specs.Points.{lists_of}
use Rattle.dh_sim.specs.Rooms.{IsPlacedPort}

-- the list from index i on: its item there, and the rest
from_item : {X : Type 0} → (xs : List X) (i : ℕ) (d : X) → i < length xs → drop i xs ≡ get_or xs i d ∷ drop (i + 1) xs
from_item xs i d h = drop-cons xs i d h ∙ ap (λ n. get_or xs i d ∷ drop n xs) (sym (add-one i))

-- what port i reads comes before what the later ports do
pub data_on : (table : List MemEntry) (ws : List ℕ) (ms : List (List ℕ)) (dss : List (List Driver)) (ps : List Port) (hs : List ℕ) (i : ℕ) (p : Port)
    → i < length dss → i < length ps → i < length hs →
    let h = held_by table ws (get_or ps i p) (served ws (get_or dss i [])) ms (get_or hs i 0) in
    take (i + 1) (slice_set hs i h) ++ held_after table ws (drop (i + 1) dss) (drop (i + 1) ps) ms (drop (i + 1) (slice_set hs i h))
    ≡ take i hs ++ held_after table ws (drop i dss) (drop i ps) ms (drop i hs)
data_on table ws ms dss ps hs i p in_drivers in_ports in_data =
    let h = held_by table ws (get_or ps i p) (served ws (get_or dss i [])) ms (get_or hs i 0) in
    let front = take_more_set hs i h in_data in
    let hs_rest = drop-set-lt (i + 1) hs i h (omega arith) in
    let a = from_item dss i [] in_drivers in
    let b = from_item ps i p in_ports in
    let c = from_item hs i 0 in_data in
    rw (front, hs_rest, a, b, c) (append_assoc (take i hs) (h ∷ []) _)

-- what port i writes, then what the later ports do
pub memories_on : (table : List MemEntry) (ws : List ℕ) (ms : List (List ℕ)) (dss : List (List Driver)) (ps : List Port) (i : ℕ) (p : Port)
    → i < length dss → i < length ps
    → memories_after table ws (drop (i + 1) dss) (drop (i + 1) ps) (written_by table ws (get_or ps i p) (served ws (get_or dss i [])) ms)
    ≡ memories_after table ws (drop i dss) (drop i ps) ms
memories_on table ws ms dss ps i p in_drivers in_ports =
    let a = from_item dss i [] in_drivers in
    let b = from_item ps i p in_ports in
    ap (λ qs. memories_after table ws (get_or dss i [] ∷ drop (i + 1) dss) qs ms) (sym b) ∙ ap (λ ds. memories_after table ws ds (drop i ps) ms) (sym a)

-- each port of a table is one of a bank of a memory there

placed_run : (whole : List MemEntry) (memory : ℕ) (e : MemEntry) (k n : ℕ) → slice_get whole memory ≡ Some e → IsSmallMemory e → k + n ≤ port_count e
    → AllByRecursion (IsPlacedPort whole) (memory_ports memory e k n)
placed_run whole memory e k zero at small h = tt
placed_run whole memory e k (suc n) at small h = (
  record { entry = e; there = at; small = small; bank = row_below k (banks_of e.shape.dims) e.shape.ports (omega (arith, h)); rows = refl },
  placed_run whole memory e (k + 1) n at small (omega (arith, h)),
)

both_placed : (whole : List MemEntry) (ps qs : List Port) → AllByRecursion (IsPlacedPort whole) ps → AllByRecursion (IsPlacedPort whole) qs → AllByRecursion (IsPlacedPort whole) (ps ++ qs)
both_placed whole [] qs h k = k
both_placed whole (p ∷ ps) qs h k = (h.0, both_placed whole ps qs h.1 k)

placed_from : (whole : List MemEntry) (first : ℕ) (es : List MemEntry) → ((k : ℕ) (e : MemEntry) → slice_get es k ≡ Some e → slice_get whole (first + k) ≡ Some e)
    → AllByRecursion IsSmallMemory es → AllByRecursion (IsPlacedPort whole) (ports_from first es)
placed_from whole first [] at h = tt
placed_from whole first (e ∷ es) at h =
    let none : first + 0 ≡ first = omega arith in
    let count : 0 + port_count e ≤ port_count e = omega arith in
    both_placed whole (memory_ports first e 0 (port_count e)) (ports_from (first + 1) es)
    (placed_run whole first e 0 (port_count e) (ap (λ i. slice_get whole i) (sym none) ∙ at 0 e refl) h.0 count)
    (placed_from whole (first + 1) es (λ k f there. ap (λ i. slice_get whole i) (moved first k) ∙ at (suc k) f there) h.1)
  where
    moved : (a b : ℕ) → a + 1 + b ≡ a + suc b
    moved a b = omega arith

at_each : {A : Type 0} (P : A → Type 0) (xs : List A) (i : ℕ) (x : A) → AllByRecursion P xs → slice_get xs i ≡ Some x → P x
at_each P [] i x h at = absurd (cc)
at_each P (y ∷ xs) zero x h at = let same : y ≡ x = cc in subst P same h.0
at_each P (y ∷ xs) (suc i) x h at = at_each P xs i x h.1 at

pub all_placed : (table : List MemEntry) → AllByRecursion IsSmallMemory table → (i : ℕ) (p : Port) → slice_get (ports_of table) i ≡ Some p → IsPlacedPort table p
all_placed table h i p at = at_each (IsPlacedPort table) (ports_of table) i p (placed_from table 0 table same h) at
  where
    same : (k : ℕ) (e : MemEntry) → slice_get table k ≡ Some e → slice_get table (0 + k) ≡ Some e
    same k e there = let none : 0 + k ≡ k = omega arith in ap (λ i. slice_get table i) none ∙ there

-- the port that the walk is at
pub placed_at : (table : List MemEntry) → AllByRecursion IsSmallMemory table → (ports : List Port) (i : ℕ) (p d : Port) → ports ≡ ports_of table → i < length ports → p ≡ get_or ports i d
    → IsPlacedPort table p
placed_at table h ports i p d same inside is =
    let there : slice_get (ports_of table) i ≡ Some p = subst (λ (xs : List Port). slice_get xs i ≡ Some p) same (slice_get-get_or ports i d inside ∙ ap Some (sym is)) in
    all_placed table h i p there

-- the port that the walk over the lists of drivers is at
module _ (net : Net) (valid : IsValid net) (table : List MemEntry) (ports : List Port) (items : List (List Driver)) (i : ℕ) (d : Port)
    (table_is : table ≡ net.table) (ports_are : ports ≡ ports_of net.table) (items_are : items ≡ net.drivers) (inside : i < length items) where
  in_drivers : i < length net.drivers
  in_drivers = let same = ap length items_are in omega (arith, same, inside)

  in_ports : i < length ports
  in_ports = let same = ap length ports_are in let long = valid.ports in let within = in_drivers in omega (arith, same, long, within)

  pub port_placed : IsPlacedPort table (get_or ports i d)
  port_placed =
      subst (λ (t : List MemEntry). IsPlacedPort t (get_or ports i d)) (sym table_is)
      (placed_at net.table (small_memories net.table valid.table) ports i (get_or ports i d) d ports_are in_ports refl)

  module _ (ws : List ℕ) (item slice : List Driver) (o : Option Driver) (item_is : item ≡ get_or items i item) (slice_is : slice ≡ item) (first : o ≡ served ws slice) where
    served_here : o ≡ served ws (get_or net.drivers i [])
    served_here = first ∙ ap (λ ds. served ws ds) (slice_is ∙ (item_is ∙ (get_or_default items i item [] inside ∙ ap (λ l. get_or l i []) items_are)))

    pub read_on : (ms : List (List ℕ)) (hs : List ℕ) (datum : ℕ) (whole : List ℕ) → length hs ≡ length net.drivers
        → datum ≡ held_by table ws (get_or ports i d) o ms (get_or hs i 0)
        → take i hs ++ held_after net.table ws (drop i net.drivers) (drop i ports) ms (drop i hs) ≡ whole
        → take (i + 1) (slice_set hs i datum) ++ held_after net.table ws (drop (i + 1) net.drivers) (drop (i + 1) ports) ms (drop (i + 1) (slice_set hs i datum)) ≡ whole
    read_on ms hs datum whole long is so =
        let within = in_drivers in
        let told : datum ≡ held_by net.table ws (get_or ports i d) (served ws (get_or net.drivers i [])) ms (get_or hs i 0) =
        is ∙ (ap (λ t. held_by t ws (get_or ports i d) o ms (get_or hs i 0)) table_is ∙ ap (λ x. held_by net.table ws (get_or ports i d) x ms (get_or hs i 0)) served_here) in
        ap (λ v. take (i + 1) (slice_set hs i v) ++ held_after net.table ws (drop (i + 1) net.drivers) (drop (i + 1) ports) ms (drop (i + 1) (slice_set hs i v))) told
        ∙ (data_on net.table ws ms net.drivers ports hs i d within in_ports (omega (arith, within, long)) ∙ so)

    pub write_on : (ms after whole : List (List ℕ)) → after ≡ written_by table ws (get_or ports i d) o ms
        → memories_after net.table ws (drop i net.drivers) (drop i ports) ms ≡ whole
        → memories_after net.table ws (drop (i + 1) net.drivers) (drop (i + 1) ports) after ≡ whole
    write_on ms after whole is so =
        let told : after ≡ written_by net.table ws (get_or ports i d) (served ws (get_or net.drivers i [])) ms =
        is ∙ (ap (λ t. written_by t ws (get_or ports i d) o ms) table_is ∙ ap (λ x. written_by net.table ws (get_or ports i d) x ms) served_here) in
        ap (λ l. memories_after net.table ws (drop (i + 1) net.drivers) (drop (i + 1) ports) l) told ∙ (memories_on net.table ws ms net.drivers ports i d in_drivers in_ports ∙ so)

-- a row that is written among vectors
pub row_written : (table : List MemEntry) (p : Port) (ms : List (Vec ℕ Global)) (row v place : ℕ) (d new : Vec ℕ Global) → row < p.rows → place ≡ position_of_row table p row
    → p.memory < length ms → new.items ≡ slice_set (get_or ms p.memory d).items place v → lists_of (set ms p.memory new) ≡ with_row table p (lists_of ms) row v
row_written table p ms row v place d new small is_place inside is_new =
    let yes : nat_lt row p.rows ≡ true = grind (arith, nat_tests) in
    let here : (get_or ms p.memory d).items ≡ memory_at (lists_of ms) p.memory = sym (get_or-map (λ b. b.items) ms p.memory d [] inside) in
    map-set (λ b. b.items) ms p.memory new
    ∙ (ap (λ x. set (lists_of ms) p.memory x) (is_new ∙ (ap (λ l. slice_set l place v) here ∙ ap (λ n. slice_set (memory_at (lists_of ms) p.memory) n v) is_place))
    ∙ sym (ap (λ t. if t then set (lists_of ms) p.memory (slice_set (memory_at (lists_of ms) p.memory) (position_of_row table p row) v) else lists_of ms) yes))
