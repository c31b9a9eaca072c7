-- Lists of drivers that go along with the ports of a table: port by port within a memory, and memory by
-- memory. In each turn what is left is right where the whole is.
use Rattle.std.proofs.Common.{◌≡◌, ℕ, zero, suc, ◌+◌, ◌-◌, ◌<◌, ◌≤◌, ◌↔◌, ◌⊎◌, inl, inr, List, [], ◌∷◌, ◌++◌, length, drop, take, get_or, Some, refl, sym, ap, subst, ◌∙◌, arith, append_assoc}
use Rattle.std.specs.Prelude.{slice_get}
use Rattle.std.specs.List.{AllByRecursion, IsSplitAt}
use Rattle.std.proofs.lemmas.List.{length-append}
use Rattle.std.proofs.lemmas.Option.{slice_get_within, slice_get-get_or}
use Rattle.dh_tree.specs.Shapes.{IsMemory, IsProgramTable}
use Rattle.dh_tree.specs.Tables.{elements_of, elements_in, most_elements}
use Rattle.dh_tree.specs.declared.tables.MemEntry.{MemEntry}
use Rattle.dh_net.specs.BankPorts.{port_count, port_of, memory_ports, ports_from, ports_of}
use Rattle.dh_extents.specs.Extents.{IsSmallMemory}
use Rattle.dh_net.specs.Parts.{DrivePort, DrivePorts, HasPorts}
use Rattle.dh_net.specs.Valid.{IsDriver, IsValid}
use Rattle.dh_net.specs.declared.nets.Net.{Net}
use Rattle.dh_net.specs.declared.nets.Cell.{Cell}
use Rattle.dh_net.specs.declared.nets.Driver.{Driver}
use Rattle.dh_net.specs.declared.ports.Port.{Port}
use Rattle.dh_base.proofs.ListItems.{at_item}
use Rattle.dh_net.proofs.PortLists.{memory_ports_long}

-- a table's memories have few elements each

few_each : (es : List MemEntry) (n : ℕ) → AllByRecursion IsMemory es → elements_in es ≤ n → n ≤ most_elements → AllByRecursion IsSmallMemory es
few_each [] n h few most = tt
few_each (e ∷ es) n h few most =
    let a : elements_of e.shape.dims ≤ most_elements = omega (arith, few, most) in
    let b : elements_in es ≤ n = omega (arith, few) in
    (record { memory = h.0; few = a }, few_each es n h.1 b most)

pub small_memories : (table : List MemEntry) → IsProgramTable table → AllByRecursion IsSmallMemory table
small_memories table h = few_each table most_elements h.entries h.elements (omega arith)

-- one port more of a memory
pub memory_ports_more : (memory : ℕ) (e : MemEntry) (k count : ℕ) → k < count
    → memory_ports memory e k (count - k) ≡ port_of memory e k ∷ memory_ports memory e (k + 1) (count - (k + 1))
memory_ports_more memory e k count h =
    let some : count - k ≡ suc (count - (k + 1)) = omega arith in
    ap (λ n. memory_ports memory e k n) some

memory_ports_done : (memory : ℕ) (e : MemEntry) (k count : ℕ) → count ≤ k → memory_ports memory e k (count - k) ≡ []
memory_ports_done memory e k count h =
    let none : count - k ≡ 0 = omega arith in
    ap (λ n. memory_ports memory e k n) none

dropped : {A : Type 0} (k : ℕ) (xs : List A) → length xs ≤ k → drop k xs ≡ []
dropped zero [] h = refl
dropped (suc k) [] h = refl
dropped zero (x ∷ xs) h = absurd (omega (arith, h))
dropped (suc k) (x ∷ xs) h = dropped k xs (omega (arith, h))

-- listing the ports, one by one and memory by memory

pub pushed_port : (items new : List Port) (memory : ℕ) (e : MemEntry) (k count : ℕ) (p : Port) (whole : List Port) → k < count → new ≡ items ++ p ∷ [] → p ≡ port_of memory e k
    → items ++ memory_ports memory e k (count - k) ≡ whole → new ++ memory_ports memory e (k + 1) (count - (k + 1)) ≡ whole
pushed_port items new memory e k count p whole h pushed told so =
    let rest = memory_ports memory e (k + 1) (count - (k + 1)) in
    ap (λ l. l ++ rest) (pushed ∙ ap (λ q. items ++ q ∷ []) told)
    ∙ (append_assoc items (port_of memory e k ∷ []) rest ∙ (ap (λ l. items ++ l) (sym (memory_ports_more memory e k count h)) ∙ so))

pub pushed_ports : (items new : List Port) (table : List MemEntry) (memory : ℕ) (e : MemEntry) (whole : List Port) → memory < length table → e ≡ get_or table memory e
    → new ≡ items ++ memory_ports memory e 0 (port_count e) → items ++ ports_from memory (drop memory table) ≡ whole
    → new ++ ports_from (memory + 1) (drop (memory + 1) table) ≡ whole
pushed_ports items new table memory e whole inside is pushed so =
    let rest = ports_from (memory + 1) (drop (memory + 1) table) in
    ap (λ l. l ++ rest) pushed
    ∙ (append_assoc items (memory_ports memory e 0 (port_count e)) rest ∙ (ap (λ es. items ++ ports_from memory es) (sym (at_item table memory e inside is)) ∙ so))

-- within a port

abbrev DriveBelow : List Cell → Port → List Driver → ℕ → Type 0
DriveBelow cells p ds i = (k : ℕ) (d : Driver) → k < i → slice_get ds k ≡ Some d → IsDriver cells p d

pub driver_passed : (cells : List Cell) (p : Port) (ds : List Driver) (i : ℕ) (default : Driver) → i < length ds → IsDriver cells p (get_or ds i default) → DriveBelow cells p ds i
    → DriveBelow cells p ds (i + 1)
driver_passed cells p ds i default inside good before k d small at =
    elim (below_one k i small) [
      | inl less ↦ before k d less at
      | inr here ↦
          let same : Some (get_or ds i default) ≡ Some d = sym (slice_get-get_or ds i default inside) ∙ (ap (λ x. slice_get ds x) (sym here) ∙ at) in
          let is : get_or ds i default ≡ d = cc in
          subst (λ (x : Driver). IsDriver cells p x) is good
    ]
  where
    below_one : (k n : ℕ) → k < n + 1 → (k < n) ⊎ (k ≡ n)
    below_one k n h = grind arith

pub drivers_done : (cells : List Cell) (p : Port) (ds : List Driver) (i : ℕ) → length ds ≤ i → DriveBelow cells p ds i → DrivePort cells p ds
drivers_done cells p ds i past before k d at = let within = slice_get_within ds k d at in before k d (omega (arith, past, within)) at

-- within a memory

module _ (cells : List Cell) (memory : ℕ) (e : MemEntry) (lists : List (List Driver)) (k : ℕ) (Whole : Type 0) where
  abbrev Left : ℕ → Type 0
  Left k = DrivePorts cells (memory_ports memory e k (port_count e - k)) (drop k lists)

  next_port : (ds : List Driver) → k < length lists → length lists ≡ port_count e → ds ≡ get_or lists k ds
      → Left k ≡ (DrivePort cells (port_of memory e k) ds × Left (k + 1))
  next_port ds h long is =
      ap (λ ps. DrivePorts cells ps (drop k lists)) (memory_ports_more memory e k (port_count e) (subst (λ (n : ℕ). k < n) long h))
      ∙ ap (λ dss. DrivePorts cells (port_of memory e k ∷ memory_ports memory e (k + 1) (port_count e - (k + 1))) dss) (at_item lists k ds h is)

  pub port_passed : (p : Port) (ds : List Driver) → k < length lists → length lists ≡ port_count e → ds ≡ get_or lists k ds → p ≡ port_of memory e k
      → DrivePort cells p ds → Left k ↔ Whole → Left (k + 1) ↔ Whole
  port_passed p ds h long is told good so =
      let next = next_port ds h long is in
      let own : DrivePort cells (port_of memory e k) ds = subst (λ (q : Port). DrivePort cells q ds) told good in (
        λ rest. so.0 (subst (λ (T : Type 0). T) (sym next) (own, rest)),
        λ whole. (subst (λ (T : Type 0). T) next (so.1 whole)).1,
      )

  pub port_refused : (p : Port) (ds : List Driver) → k < length lists → length lists ≡ port_count e → ds ≡ get_or lists k ds → p ≡ port_of memory e k
      → (DrivePort cells p ds → ⊥) → Left k ↔ Whole → Whole → ⊥
  port_refused p ds h long is told bad so whole =
      bad (subst (λ (q : Port). DrivePort cells q ds) (sym told) (subst (λ (T : Type 0). T) (next_port ds h long is) (so.1 whole)).0)

  pub ports_done : length lists ≤ k → length lists ≡ port_count e → Left k ↔ Whole → Whole
  ports_done h long so =
      so.0 (subst (λ (ps : List Port). DrivePorts cells ps (drop k lists)) (sym (memory_ports_done memory e k (port_count e) (subst (λ (n : ℕ). n ≤ k) long h)))
      (subst (λ (dss : List (List Driver)). DrivePorts cells [] dss) (sym (dropped k lists h)) tt))

-- over memories

pub drive_long : (cells : List Cell) (ps : List Port) (dss : List (List Driver)) → DrivePorts cells ps dss → length dss ≡ length ps
drive_long cells [] [] h = refl
drive_long cells [] (ds ∷ dss) h = absurd h
drive_long cells (p ∷ ps) [] h = absurd h
drive_long cells (p ∷ ps) (ds ∷ dss) h = ap suc (drive_long cells ps dss h.1)

drive_both : (cells : List Cell) (ps qs : List Port) (own others : List (List Driver)) → length own ≡ length ps
    → DrivePorts cells (ps ++ qs) (own ++ others) → DrivePorts cells ps own × DrivePorts cells qs others
drive_both cells [] qs [] others e h = (tt, h)
drive_both cells [] qs (ds ∷ own) others e h = absurd (omega (arith, e))
drive_both cells (p ∷ ps) qs [] others e h = absurd (omega (arith, e))
drive_both cells (p ∷ ps) qs (ds ∷ own) others e h =
    let more = drive_both cells ps qs own others (omega (arith, e)) h.1 in
    ((h.0, more.0), more.1)

drive_joined : (cells : List Cell) (ps qs : List Port) (own others : List (List Driver)) → DrivePorts cells ps own → DrivePorts cells qs others → DrivePorts cells (ps ++ qs) (own ++ others)
drive_joined cells [] qs [] others h k = k
drive_joined cells [] qs (ds ∷ own) others h k = absurd h
drive_joined cells (p ∷ ps) qs [] others h k = absurd h
drive_joined cells (p ∷ ps) qs (ds ∷ own) others h k = (h.0, drive_joined cells ps qs own others h.1 k)

parts : {A : Type 0} (n : ℕ) (xs : List A) → take n xs ++ drop n xs ≡ xs
parts zero xs = refl
parts (suc n) [] = refl
parts (suc n) (x ∷ xs) = ap (λ l. x ∷ l) (parts n xs)

module _ (cells : List Cell) (table : List MemEntry) (memory : ℕ) (e : MemEntry) (rest : List (List Driver)) (Whole : Type 0)
    (inside : memory < length table) (is : e ≡ get_or table memory e) (so : DrivePorts cells (ports_from memory (drop memory table)) rest ↔ Whole) where
  abbrev own_ports : List Port
  own_ports = memory_ports memory e 0 (port_count e)

  abbrev further : List Port
  further = ports_from (memory + 1) (drop (memory + 1) table)

  next_memory : DrivePorts cells (ports_from memory (drop memory table)) rest ≡ DrivePorts cells (own_ports ++ further) rest
  next_memory = ap (λ es. DrivePorts cells (ports_from memory es) rest) (at_item table memory e inside is)

  of_whole : Whole → DrivePorts cells (own_ports ++ further) rest
  of_whole whole = subst (λ (T : Type 0). T) next_memory (so.1 whole)

  module _ (own others : List (List Driver)) (split : IsSplitAt rest (port_count e) own others) where
    long : length own ≡ length own_ports
    long = split.3 ∙ sym (memory_ports_long memory e 0 (port_count e))

    joined : own ++ others ≡ rest
    joined = ap (λ l. l ++ others) split.1 ∙ (ap (λ l. take (port_count e) rest ++ l) split.2 ∙ parts (port_count e) rest)

    pub memory_passed : DrivePorts cells own_ports own → DrivePorts cells further others ↔ Whole
    memory_passed good = (
      λ left. so.0 (subst (λ (T : Type 0). T) (sym next_memory) (subst (λ (l : List (List Driver)). DrivePorts cells (own_ports ++ further) l) joined (drive_joined cells own_ports further own others good left))),
      λ whole. (drive_both cells own_ports further own others long (subst (λ (l : List (List Driver)). DrivePorts cells (own_ports ++ further) l) (sym joined) (of_whole whole))).1,
    )

    pub memory_refused : (DrivePorts cells own_ports own → ⊥) → Whole → ⊥
    memory_refused bad whole = bad (drive_both cells own_ports further own others long (subst (λ (l : List (List Driver)). DrivePorts cells (own_ports ++ further) l) (sym joined) (of_whole whole))).0

  pub too_few : length rest < port_count e → Whole → ⊥
  too_few short whole =
      let all = drive_long cells (own_ports ++ further) rest (of_whole whole) in
      let sum = length-append own_ports further in
      let first = memory_ports_long memory e 0 (port_count e) in
      omega (arith, short, all, sum, first)

-- at the end no list is left
pub none_left : (cells : List Cell) (table : List MemEntry) (memory : ℕ) (rest : List (List Driver)) (Whole : Type 0) → length table ≤ memory
    → DrivePorts cells (ports_from memory (drop memory table)) rest ↔ Whole → (rest ≡ []) ↔ Whole
none_left cells table memory rest Whole past so = (
  λ none. so.0 (subst (λ (T : Type 0). T) (sym at_end) (subst (λ (l : List (List Driver)). DrivePorts cells [] l) (sym none) tt)),
  λ whole. no_list rest (subst (λ (T : Type 0). T) at_end (so.1 whole)),
)
  where
    at_end : DrivePorts cells (ports_from memory (drop memory table)) rest ≡ DrivePorts cells [] rest
    at_end = ap (λ es. DrivePorts cells (ports_from memory es) rest) (dropped memory table past)

    no_list : (rest : List (List Driver)) → DrivePorts cells [] rest → rest ≡ []
    no_list [] h = refl
    no_list (ds ∷ dss) h = absurd h

-- port by port, by numbers

abbrev pub EachDrives : List Cell → List Port → List (List Driver) → Type 0
EachDrives cells ps dss = (i : ℕ) (ds : List Driver) (p : Port) → slice_get dss i ≡ Some ds → slice_get ps i ≡ Some p → DrivePort cells p ds

pub each_drives : (cells : List Cell) (ps : List Port) (dss : List (List Driver)) → DrivePorts cells ps dss → EachDrives cells ps dss
each_drives cells [] [] h i ds p at of_i = absurd (cc)
each_drives cells [] (x ∷ dss) h i ds p at of_i = absurd h
each_drives cells (q ∷ ps) [] h i ds p at of_i = absurd h
each_drives cells (q ∷ ps) (x ∷ dss) h zero ds p at of_i =
    let same : x ≡ ds = cc in
    let port : q ≡ p = cc in
    subst (λ (y : List Driver). DrivePort cells p y) same (subst (λ (y : Port). DrivePort cells y x) port h.0)
each_drives cells (q ∷ ps) (x ∷ dss) h (suc i) ds p at of_i = each_drives cells ps dss h.1 i ds p at of_i

pub all_drive : (cells : List Cell) (ps : List Port) (dss : List (List Driver)) → length dss ≡ length ps → EachDrives cells ps dss → DrivePorts cells ps dss
all_drive cells [] [] long h = tt
all_drive cells [] (x ∷ dss) long h = absurd (omega (arith, long))
all_drive cells (q ∷ ps) [] long h = absurd (omega (arith, long))
all_drive cells (q ∷ ps) (x ∷ dss) long h = (h 0 x q refl refl, all_drive cells ps dss (omega (arith, long)) (λ i ds p at of_i. h (suc i) ds p at of_i))

pub valid_ports : (net : Net) → IsValid net → HasPorts net
valid_ports net h = all_drive net.cells (ports_of net.table) net.drivers h.ports h.drivers
