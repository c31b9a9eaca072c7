-- The list of the ports of a table, by numbers. A memory has its ports in one run of the list, of which each
-- tells the memory's rows and widths.
use Rattle.std.proofs.Common.{◌≡◌, ℕ, zero, suc, ◌+◌, ◌-◌, ◌*◌, ◌<◌, ◌≤◌, List, [], ◌∷◌, ◌++◌, length, Some, refl, sym, ap, ◌∙◌, arith}
use Rattle.std.specs.Prelude.{slice_get}
use Rattle.dh_tree.specs.Elements.{banks_of, ports_at, entry_ports}
use Rattle.dh_tree.specs.declared.tables.MemEntry.{MemEntry}
use Rattle.dh_net.specs.BankPorts.{port_count, port_of, memory_ports, ports_from, ports_of, first_port, port_number}
use Rattle.dh_net.specs.Valid.{IsPort}
use Rattle.dh_net.specs.declared.ports.Port.{Port}

-- how many there are

pub memory_ports_long : (memory : ℕ) (e : MemEntry) (k n : ℕ) → length (memory_ports memory e k n) ≡ n
memory_ports_long memory e k zero = refl
memory_ports_long memory e k (suc n) = ap suc (memory_ports_long memory e (k + 1) n)

-- one port of a memory, by its number

at_run : (memory : ℕ) (e : MemEntry) (k n j : ℕ) → j < n → slice_get (memory_ports memory e k n) j ≡ Some (port_of memory e (k + j))
at_run memory e k zero j h = absurd (omega (arith, h))
at_run memory e k (suc n) zero h = ap (λ i. Some (port_of memory e i)) (plain k)
  where
    plain : (k : ℕ) → k ≡ k + 0
    plain k = omega arith
at_run memory e k (suc n) (suc j) h = at_run memory e (k + 1) n j (omega (arith, h)) ∙ ap (λ i. Some (port_of memory e i)) (moved k j)
  where
    moved : (k j : ℕ) → k + 1 + j ≡ k + suc j
    moved k j = omega arith

get_first : {A : Type 0} (xs ys : List A) (i : ℕ) → i < length xs → slice_get (xs ++ ys) i ≡ slice_get xs i
get_first [] ys i h = absurd (omega (arith, h))
get_first (x ∷ xs) ys zero h = refl
get_first (x ∷ xs) ys (suc i) h = get_first xs ys i (omega (arith, h))

get_second : {A : Type 0} (xs ys : List A) (n i : ℕ) → length xs ≡ n → slice_get (xs ++ ys) (n + i) ≡ slice_get ys i
get_second [] ys zero i e = ap (λ k. slice_get ys k) (plain i)
  where
    plain : (i : ℕ) → 0 + i ≡ i
    plain i = omega arith
get_second [] ys (suc n) i e = absurd (omega (arith, e))
get_second (x ∷ xs) ys zero i e = absurd (omega (arith, e))
get_second (x ∷ xs) ys (suc n) i e = ap (λ k. slice_get (x ∷ (xs ++ ys)) k) (moved n i) ∙ get_second xs ys n i (omega (arith, e))
  where
    moved : (n i : ℕ) → suc n + i ≡ suc (n + i)
    moved n i = omega arith

-- the port of a memory of the table at its number
port_in : (first : ℕ) (table : List MemEntry) (memory k : ℕ) (e : MemEntry) → slice_get table memory ≡ Some e → k < port_count e
    → slice_get (ports_from first table) (first_port table memory + k) ≡ Some (port_of (first + memory) e k)
port_in first [] memory k e at h = absurd (cc)
port_in first (x ∷ xs) zero k e at h =
    let same : x ≡ e = cc in
    let count : port_count e ≡ port_count x = ap port_count (sym same) in
    let inside : k < port_count x = omega (arith, h, count) in
    let long = memory_ports_long first x 0 (port_count x) in
    get_first (memory_ports first x 0 (port_count x)) (ports_from (first + 1) xs) (0 + k) (within k _ _ long inside)
    ∙ (at_zero k ∙ (at_run first x 0 (port_count x) k inside ∙ told first k e x same))
  where
    within : (k n c : ℕ) → n ≡ c → k < c → 0 + k < n
    within k n c e l = omega (arith, e, l)

    at_zero : (k : ℕ) → slice_get (memory_ports first x 0 (port_count x)) (0 + k) ≡ slice_get (memory_ports first x 0 (port_count x)) k
    at_zero k = let e : 0 + k ≡ k = omega arith in ap (λ i. slice_get (memory_ports first x 0 (port_count x)) i) e

    told : (first k : ℕ) (e x : MemEntry) → x ≡ e → Some (port_of first x (0 + k)) ≡ Some (port_of (first + 0) e k)
    told first k e x same =
        let a : 0 + k ≡ k = omega arith in
        let b : first ≡ first + 0 = omega arith in
        ap (λ i. Some (port_of first x i)) a ∙ (ap (λ i. Some (port_of i x k)) b ∙ ap (λ y. Some (port_of (first + 0) y k)) same)
port_in first (x ∷ xs) (suc memory) k e at h =
    ap (λ i. slice_get (ports_from first (x ∷ xs)) i) (grouped (port_count x) (first_port xs memory) k)
    ∙ (get_second (memory_ports first x 0 (port_count x)) (ports_from (first + 1) xs) (port_count x) (first_port xs memory + k) (memory_ports_long first x 0 (port_count x))
    ∙ (port_in (first + 1) xs memory k e at h ∙ ap (λ i. Some (port_of i e k)) (moved first memory)))
  where
    grouped : (a b c : ℕ) → a + b + c ≡ a + (b + c)
    grouped a b c = omega arith

    moved : (a b : ℕ) → a + 1 + b ≡ a + suc b
    moved a b = omega arith

pub port_at : (table : List MemEntry) (memory k : ℕ) (e : MemEntry) → slice_get table memory ≡ Some e → k < port_count e
    → slice_get (ports_of table) (first_port table memory + k) ≡ Some (port_of memory e k)
port_at table memory k e at h = port_in 0 table memory k e at h ∙ ap (λ i. Some (port_of i e k)) (plain memory)
  where
    plain : (n : ℕ) → 0 + n ≡ n
    plain n = omega arith

-- a port of a bank is one of its memory
in_memory : (bank port banks ports : ℕ) → bank < banks → port < ports → bank * ports + port < banks * ports
in_memory bank port banks ports b p =
    let more : (bank + 1) * ports ≤ banks * ports = mul_le_mul_right (bank + 1) banks ports (omega (arith, b)) in
    let first : (bank + 1) * ports ≡ bank * ports + ports = omega arith in
    omega (arith, more, first, p)
  where
    mul_le_mul_right : (a b c : ℕ) → a ≤ b → a * c ≤ b * c
    mul_le_mul_right a b c h = times c a (b - a) b (omega (arith, h))
      where
        times : (c a d b : ℕ) → b ≡ a + d → a * c ≤ b * c
        times c a d b e = let x : b * c ≡ (a + d) * c = ap (λ n. n * c) e in let y : (a + d) * c ≡ a * c + d * c = omega arith in omega (arith, x, y)

-- the port that a cell names
pub port_there : (table : List MemEntry) (memory bank port width : ℕ) → IsPort table memory bank port width
    → (p : Port) × ((slice_get (ports_of table) (port_number table memory bank port) ≡ Some p) × (p.width ≡ width))
port_there table memory bank port width h =
    let k = bank * h.entry.shape.ports + port in
    let inside : k < port_count h.entry = in_memory bank port (banks_of h.entry.shape.dims) h.entry.shape.ports h.bank_there h.port_there in
    let ports : ports_at table memory ≡ h.entry.shape.ports = ap entry_ports h.there in
    let number : port_number table memory bank port ≡ first_port table memory + k = ap (λ n. first_port table memory + (bank * n + port)) ports in
    (port_of memory h.entry k, (ap (λ i. slice_get (ports_of table) i) number ∙ port_at table memory k h.entry h.there inside, h.wide))
