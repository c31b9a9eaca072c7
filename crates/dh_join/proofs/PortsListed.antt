-- The drivers of one port, and then of all ports one after the other: what is known of a port that is joined stays so
-- when cells are added for those behind it.
use Rattle.std.proofs.Common.{◌≡◌, ℕ, zero, suc, ◌+◌, ◌*◌, ◌<◌, ◌≤◌, Bool, true, false, inl, inr, Some, None, List, [], ◌∷◌, ◌++◌, length, drop, get_or, refl, sym, ap, subst, ◌∙◌, arith, length-append, append-nil}
use Rattle.std.specs.Prelude.{Option, slice_get, nat_le, if◌then◌else◌, not}
use Rattle.std.specs.List.{AllByRecursion}
use Rattle.std.proofs.lemmas.Bool.Decides.{nat_tests}
use Rattle.std.proofs.lemmas.Option.{slice_get-get_or, get_or_from_slice_get}
use Rattle.dh_base.proofs.ListItems.{at_item}
use Rattle.dh_tree.specs.Shapes.{IsProgramTable}
use Rattle.dh_tree.specs.declared.tables.MemEntry.{MemEntry}
use Rattle.dh_net.specs.BankPorts.{ports_of}
use Rattle.dh_extents.specs.Extents.{IsSmallMemory}
use Rattle.dh_net.specs.Parts.{DrivePort}
use Rattle.dh_net.specs.Valid.{IsDriver, IsValid, ReadsZero}
use Rattle.dh_net.specs.declared.nets.Cell.{Cell}
use Rattle.dh_net.specs.declared.nets.Driver.{Driver}
use Rattle.dh_net.specs.declared.nets.Net.{Net}
use Rattle.dh_net.specs.declared.ports.Port.{Port}
use Rattle.dh_net.proofs.PortWalks.{small_memories}
use Rattle.dh_cells.specs.Settled.{BeginsWith}
use Rattle.dh_cells.proofs.CellsAppended.{get_either}
use Rattle.dh_join.specs.AddedCells.{GrowsByChoices}
use Rattle.dh_join.specs.JoinedDrivers.{is_kind, count_kind, drivers_in, IsDriverOfKind, IsZero, DriverIsWithin, FoundWithin, StandsForDrivers}
use Rattle.dh_join.specs.JoinedPorts.{joined_of, joined_in, JoinedIn, BothJoined, PortJoined, DriveAllPorts, PortsJoined, JoinedSoFar}
use Rattle.dh_join.proofs.CellsGrown.{grows_none, grows_more, grows_then, shows_fewer, depths_fewer, driver_later}
use Rattle.dh_join.proofs.DriversStand.{count_parts, all_both, drives_later}
use Rattle.dh_join.proofs.PortsDriven.{Reads, drives_kinds, drives_own}

-- Two drivers that may be there.

-- how many there are of a kind where all are of one
count_same : (cells : List Cell) (p : Port) (write : Bool) (o : Option Driver) → IsDriverOfKind cells p write o → count_kind write (drivers_in o) ≤ 1
count_same cells p write None h = omega arith
count_same cells p write (Some d) h = by (is_kind write d)
  where
    by : (t : Bool) → (if t then 1 else 0) + 0 ≤ 1
    by true = omega arith
    by false = omega arith

count_other : (cells : List Cell) (p : Port) (write other : Bool) (o : Option Driver) → (other ≡ not write) → IsDriverOfKind cells p write o → count_kind other (drivers_in o) ≡ 0
count_other cells p write other None is h = refl
count_other cells p true true (Some d) is h = absurd (cc)
count_other cells p true false (Some d) is h = ap (λ (t : Bool). (if not t then 1 else 0) + 0) h.1
count_other cells p false true (Some d) is h = ap (λ (t : Bool). (if t then 1 else 0) + 0) h.1
count_other cells p false false (Some d) is h = absurd (cc)

-- how many there are of both kinds
count_all : (ds : List Driver) → count_kind false ds + count_kind true ds ≡ length ds
count_all [] = refl
count_all (d ∷ ds) = let rest = count_all ds in by d.write rest
  where
    by : (t : Bool) → count_kind false ds + count_kind true ds ≡ length ds
        → ((if not t then 1 else 0) + count_kind false ds) + ((if t then 1 else 0) + count_kind true ds) ≡ suc (length ds)
    by true rest = omega (arith, rest)
    by false rest = omega (arith, rest)

found_drives : (cells : List Cell) (p : Port) (write : Bool) (o : Option Driver) → IsDriverOfKind cells p write o → DrivePort cells p (drivers_in o)
found_drives cells p write None h k d at = absurd (let no : None ≡ Some d = at in cc)
found_drives cells p write (Some x) h zero d at = (let same : x ≡ d = cc in subst (λ (y : Driver). IsDriver cells p y) same h.0)
found_drives cells p write (Some x) h (suc k) d at = absurd (let no : None ≡ Some d = at in cc)

both_drive : (cells : List Cell) (p : Port) (xs ys : List Driver) → DrivePort cells p xs → DrivePort cells p ys → DrivePort cells p (xs ++ ys)
both_drive cells p [] ys h g k d at = g k d at
both_drive cells p (x ∷ xs) ys h g zero d at = h 0 d at
both_drive cells p (x ∷ xs) ys h g (suc k) d at = both_drive cells p xs ys (λ j e there. h (suc j) e there) g k d at

found_zero : (o : Option Driver) → IsZero o → AllByRecursion ReadsZero (drivers_in o)
found_zero None h = tt
found_zero (Some d) h = (h, tt)

found_within : (depths : List ℕ) (most : ℕ) (o : Option Driver) → FoundWithin depths most o → AllByRecursion (DriverIsWithin depths most) (drivers_in o)
found_within depths most None h = tt
found_within depths most (Some d) h = (h, tt)

found_reads : (cells : List Cell) (p : Port) (o : Option Driver) → IsDriverOfKind cells p false o → Reads o
found_reads cells p None h = tt
found_reads cells p (Some d) h = h.1

pub both_joined : (c0 c1 c2 : List Cell) (p : Port) (ds : List Driver) (read write : Option Driver) (joined : List Driver) → joined ≡ drivers_in read ++ drivers_in write
    → StandsForDrivers c0 c1 p false ds read → StandsForDrivers c1 c2 p true ds write → BothJoined c0 c2 p ds joined
both_joined c0 c1 c2 p ds read write joined is a b = subst (λ (l : List Driver). BothJoined c0 c2 p ds l) (sym is) made
  where
    read_there : IsDriverOfKind c2 p false read
    read_there = later read a.there
      where
        later : (o : Option Driver) → IsDriverOfKind c1 p false o → IsDriverOfKind c2 p false o
        later None h = tt
        later (Some d) h = (driver_later c1 c2 p d b.grows.begins h.0, h.1)

    made : BothJoined c0 c2 p ds (drivers_in read ++ drivers_in write)
    made = record {
      grows =
          grows_more c0 c2 (a.most + b.most) (3 * length ds)
          (let x = a.few in let y = b.few in let all = count_all ds in omega (arith, x, y, all)) (grows_then c0 c1 c2 a.most b.most a.grows b.grows);
      reads = (
          let x = count_same c2 p false read read_there in
          let y = count_other c2 p true false write refl b.there in
          let both = count_parts false (drivers_in read) (drivers_in write) in
          omega (arith, x, y, both));
      writes = (
          let x = count_other c2 p false true read refl read_there in
          let y = count_same c2 p true write b.there in
          let both = count_parts true (drivers_in read) (drivers_in write) in
          omega (arith, x, y, both));
      drive = both_drive c2 p (drivers_in read) (drivers_in write) (found_drives c2 p false read read_there) (found_drives c2 p true write b.there);
      zero = λ all. all_both ReadsZero (drivers_in read) (drivers_in write) (found_zero read (a.zero all)) (found_zero write (b.zero all));
      shows = λ wires s. drives_kinds wires ds read write (a.shows wires (shows_fewer c1 c2 wires b.grows.begins s)) (b.shows wires s) (found_reads c2 p read read_there);
      deep = λ depths most height d few all.
          all_both (DriverIsWithin depths (most + height)) (drivers_in read) (drivers_in write)
          (found_within depths (most + height) read (a.deep depths most height (depths_fewer c1 c2 depths b.grows.begins d) few all))
          (found_within depths (most + height) write (b.deep depths most height d few all));
    }

-- One port.

all_deeper : (depths : List ℕ) (m n : ℕ) (ds : List Driver) → m ≤ n → AllByRecursion (DriverIsWithin depths m) ds → AllByRecursion (DriverIsWithin depths n) ds
all_deeper depths m n [] less h = tt
all_deeper depths m n (d ∷ ds) less h = (
  record {
    enable = (let x = h.0.enable in omega (arith, x, less));
    row = (let x = h.0.row in omega (arith, x, less));
    out = λ on. (let x = h.0.out on in omega (arith, x, less));
  },
  all_deeper depths m n ds less h.1,
)

-- of few drivers
pub port_kept : (cells : List Cell) (p : Port) (ds kept : List Driver) → length ds ≤ 4 → kept ≡ ds → DrivePort cells p ds → PortJoined cells cells p ds kept
port_kept cells p ds kept few is drives = subst (λ (l : List Driver). PortJoined cells cells p ds l) (sym is) (record {
  grows = grows_none cells (3 * joined_of ds);
  here = record {
    few = record { kept = λ small. refl; reads = λ many. absurd (omega (arith, few, many)); writes = λ many. absurd (omega (arith, few, many)) };
    drive = drives;
    zero = λ all. all;
    shows = λ wires s. drives_own wires ds;
    deep = λ depths most height d small all. all_deeper depths most (most + height) ds (omega arith) all;
  };
})

many_joined : (n : ℕ) → 4 < n → (if nat_le n 4 then 0 else n) ≡ n
many_joined n many = grind (arith, nat_tests)

-- of many
pub port_joined : (old new : List Cell) (p : Port) (ds joined : List Driver) → 4 < length ds → BothJoined old new p ds joined → PortJoined old new p ds joined
port_joined old new p ds joined many h = record {
  grows = subst (λ (n : ℕ). GrowsByChoices old new (3 * n)) (sym (many_joined (length ds) many)) h.grows;
  here = record {
    few = record { kept = λ small. absurd (omega (arith, small, many)); reads = λ more. h.reads; writes = λ more. h.writes };
    drive = h.drive;
    zero = h.zero;
    shows = h.shows;
    deep = h.deep;
  };
}

-- All ports.

joined_later : (old new : List Cell) (p : Port) (ds es : List Driver) → BeginsWith new old → JoinedIn old p ds es → JoinedIn new p ds es
joined_later old new p ds es e h = record {
  few = h.few;
  drive = drives_later old new p es e h.drive;
  zero = h.zero;
  shows = λ wires s. h.shows wires (shows_fewer old new wires e s);
  deep = λ depths most height d small all. h.deep depths most height (depths_fewer old new depths e d) small all;
}

pub joining_starts : (cells : List Cell) (ports : List Port) (dss joined : List (List Driver)) → joined ≡ [] → JoinedSoFar cells cells ports dss joined 0 dss
joining_starts cells ports dss joined none = record {
  within = omega arith;
  most = 0;
  grows = grows_none cells 0;
  few = omega arith;
  long = ap (λ (l : List (List Driver)). length l) none;
  each = λ q p ds es at given there. absurd (let no : None ≡ Some es = ap (λ (l : List (List Driver)). slice_get l q) (sym none) ∙ there in cc);
}

-- an item, whatever is taken past the end
item_at : {A : Type 0} (xs : List A) (i : ℕ) (x other : A) → i < length xs → x ≡ get_or xs i other → slice_get xs i ≡ Some x
item_at {A = A} xs i x other inside is = slice_get-get_or xs i other inside ∙ ap (λ (y : A). Some y) (sym is)

-- the drivers of the next port drive it still
pub next_drives : (old now : List Cell) (ports : List Port) (dss joined left : List (List Driver)) (i : ℕ) (p no_port : Port) (ds item no_list : List Driver)
    → JoinedSoFar old now ports dss joined i left → i < length ports → length dss ≡ length ports → p ≡ get_or ports i no_port → item ≡ get_or dss i no_list → ds ≡ item
    → DriveAllPorts old ports dss → DrivePort now p ds
next_drives old now ports dss joined left i p no_port ds item no_list h inside long is_port is_item is_list all =
    drives_later old now p ds h.grows.begins
    (all i p ds (item_at ports i p no_port inside is_port) (item_at dss i ds no_list (omega (arith, inside, long)) (is_list ∙ is_item)))

-- one port more
pub joining_turn : (old now new : List Cell) (ports : List Port) (dss joined after : List (List Driver)) (i : ℕ) (p no_port : Port) (ds item no_list es : List Driver)
    → JoinedSoFar old now ports dss joined i (drop i dss) → i < length ports → length dss ≡ length ports → p ≡ get_or ports i no_port → item ≡ get_or dss i no_list → ds ≡ item
    → PortJoined now new p ds es → after ≡ joined ++ es ∷ [] → JoinedSoFar old new ports dss after (i + 1) (drop (i + 1) dss)
joining_turn old now new ports dss joined after i p no_port ds item no_list es h inside long is_port is_item is_list one pushed =
    let port_at = item_at ports i p no_port inside is_port in
    let list_at = item_at dss i ds no_list (omega (arith, inside, long)) (is_list ∙ is_item) in
    subst (λ (l : List (List Driver)). JoinedSoFar old new ports dss l (i + 1) (drop (i + 1) dss)) (sym pushed) (record {
      most = h.most + 3 * joined_of ds;
      grows = grows_then old now new h.most (3 * joined_of ds) h.grows one.grows;
      few = (
          let few = h.few in
          let rest = at_item dss i ds (omega (arith, inside, long)) (sym (get_or_from_slice_get dss i ds ds list_at)) in
          let more : joined_in (drop i dss) ≡ joined_of ds + joined_in (drop (i + 1) dss) = ap (λ (l : List (List Driver)). joined_in l) rest in
          few_more h.most (joined_in (drop i dss)) (joined_of ds) (joined_in (drop (i + 1) dss)) (joined_in dss) few more);
      long = (let long = h.long in let both = length-append joined (es ∷ []) in omega (arith, long, both));
      within = omega (arith, inside, long);
      each = λ q x xs ys at given there. elim (get_either joined es q ys there) [
        | inl before ↦ joined_later now new x xs ys one.grows.begins (h.each q x xs ys at given before)
        | inr last ↦
            let here : q ≡ i = last.0 ∙ h.long in
            let same_port : Some x ≡ Some p = sym at ∙ (ap (λ (n : ℕ). slice_get ports n) here ∙ port_at) in
            let same_list : Some xs ≡ Some ds = sym given ∙ (ap (λ (n : ℕ). slice_get dss n) here ∙ list_at) in
            let port_is : p ≡ x = cc in
            let list_is : ds ≡ xs = cc in
            subst (λ (y : Port). JoinedIn new y xs ys) port_is
            (subst (λ (y : List Driver). JoinedIn new p y ys) list_is (subst (λ (y : List Driver). JoinedIn new p ds y) last.1 one.here))
      ];
    })
  where
    few_more : (most before one left all : ℕ) → most + 3 * before ≤ 3 * all → before ≡ one + left → most + 3 * one + 3 * left ≤ 3 * all
    few_more most before one left all few more = omega (arith, few, more)

pub joining_ends : (old new : List Cell) (ports : List Port) (dss joined left : List (List Driver)) (i : ℕ)
    → JoinedSoFar old new ports dss joined i left → length ports ≤ i → length dss ≡ length ports → PortsJoined old new ports dss joined
joining_ends old new ports dss joined left i h past long = record {
  grows = grows_more old new h.most (3 * joined_in dss) (let few = h.few in omega (arith, few)) h.grows;
  long = (let count = h.long in let within = h.within in omega (arith, count, past, within, long));
  each = h.each;
}

-- The ports of a table, as they are listed.

module _ (table : List MemEntry) (ports listed : List Port) (lists : List (List Driver)) (ports_are : ports ≡ ports_of table) (listed_are : listed ≡ ports) where
  listed_is : listed ≡ ports_of table
  listed_is = listed_are ∙ ports_are

  pub lists_long : length lists ≡ length (ports_of table) → length lists ≡ length listed
  lists_long long = long ∙ ap (λ (l : List Port). length l) (sym listed_is)

  pub lists_drive : (cells : List Cell) → DriveAllPorts cells (ports_of table) lists → DriveAllPorts cells listed lists
  lists_drive cells h = subst (λ (l : List Port). DriveAllPorts cells l lists) (sym listed_is) h

  pub lists_joined : (cells new : List Cell) (joined : List (List Driver)) → PortsJoined cells new listed lists joined → PortsJoined cells new (ports_of table) lists joined
  lists_joined cells new joined h = subst (λ (l : List Port). PortsJoined cells new l lists joined) listed_is h

-- The ports of a net.

module _ (net : Net) (valid : IsValid net) (table : List MemEntry) (lists : List (List Driver)) (table_is : table ≡ net.table) (lists_are : lists ≡ net.drivers) where
  ports_are : ports_of table ≡ ports_of net.table
  ports_are = ap (λ (t : List MemEntry). ports_of t) table_is

  pub net_long : length lists ≡ length (ports_of table)
  net_long = ap (λ (l : List (List Driver)). length l) lists_are ∙ (valid.ports ∙ ap (λ (l : List Port). length l) (sym ports_are))

  pub net_drives : (cells : List Cell) → cells ≡ net.cells → DriveAllPorts cells (ports_of table) lists
  net_drives cells is q p ds port_at list_at k d at =
      subst (λ (l : List Cell). IsDriver l p d) (sym is)
      (valid.drivers q ds p (ap (λ (l : List (List Driver)). slice_get l q) (sym lists_are) ∙ list_at) (ap (λ (l : List Port). slice_get l q) (sym ports_are) ∙ port_at) k d at)

  pub net_driven : (cells new : List Cell) (joined : List (List Driver)) → cells ≡ net.cells → PortsJoined cells new (ports_of table) lists joined
      → PortsJoined net.cells new (ports_of net.table) net.drivers joined
  net_driven cells new joined is h =
      subst (λ (l : List Cell). PortsJoined l new (ports_of net.table) net.drivers joined) is
      (subst (λ (l : List Port). PortsJoined cells new l net.drivers joined) ports_are
      (subst (λ (l : List (List Driver)). PortsJoined cells new (ports_of table) l joined) lists_are h))

pub small_as : (table now : List MemEntry) → now ≡ table → IsProgramTable table → AllByRecursion IsSmallMemory now
small_as table now is h = subst (λ (l : List MemEntry). AllByRecursion IsSmallMemory l) (sym is) (small_memories table h)

-- Lists of drivers that were found.

pub found_none : (xs : List Driver) (o : Option Driver) → o ≡ None → xs ≡ xs ++ drivers_in o
found_none xs o none = sym (append-nil xs) ∙ ap (λ (x : Option Driver). xs ++ drivers_in x) (sym none)

pub found_some : (xs ys : List Driver) (o : Option Driver) (d : Driver) → o ≡ Some d → ys ≡ xs ++ d ∷ [] → ys ≡ xs ++ drivers_in o
found_some xs ys o d some pushed = pushed ∙ ap (λ (x : Option Driver). xs ++ drivers_in x) (sym some)

pub found_listed : (xs ys zs : List Driver) (read write : Option Driver) → xs ≡ [] → ys ≡ xs ++ drivers_in read → zs ≡ ys ++ drivers_in write → zs ≡ drivers_in read ++ drivers_in write
found_listed xs ys zs read write none one two =
    two ∙ ap (λ (l : List Driver). l ++ drivers_in write) (one ∙ ap (λ (l : List Driver). l ++ drivers_in read) none)
