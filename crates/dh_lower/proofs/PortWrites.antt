-- The writes of a step by its ports: what a net writes in a clock is these, one after the other, and their ports rise.
use Rattle.std.proofs.Common.{◌≡◌, ℕ, suc, ◌<◌, ◌≤◌, ◌⊎◌, inl, inr, Some, None, Bool, true, false, if◌then◌else◌, List, refl, sym, ap, subst, ◌∙◌, arith}
use Rattle.std.specs.Prelude.{[], ◌∷◌, ◌++◌, Option, slice_get, slice_index}
use Rattle.std.proofs.lemmas.Bool.{lt-ltb}
use Rattle.dh_tree.specs.declared.tables.MemEntry.{MemEntry}
use Rattle.dh_net.specs.Clock.{served, position_of_row, with_row, written_by, memories_after}
use Rattle.dh_net.specs.declared.nets.Driver.{Driver}
use Rattle.dh_net.specs.declared.ports.Port.{Port}
use Rattle.dh_meaning.specs.Effects.{put_element}
use Rattle.dh_plan.specs.Blocks.{all_put}
use Rattle.dh_lower.specs.KeyedPuts.{KeyedPut, puts_in, RisesBefore, PortsRise, IsAmongPuts}
use Rattle.dh_lower.specs.StepPuts.{keyed, driver_puts, ports_put}

-- each write that is served is of a row of its bank
abbrev pub WritesRows : List MemEntry → (wires : List ℕ) → List (List Driver) → List Port → Type 0
WritesRows table wires dss ps =
    (q : ℕ) (ds : List Driver) (p : Port) (d : Driver) → slice_get dss q ≡ Some ds → slice_get ps q ≡ Some p → served wires ds ≡ Some d → d.write ≡ true → slice_index wires d.row < p.rows

one_written : (table : List MemEntry) (wires : List ℕ) (q : ℕ) (p : Port) (x : Option Driver) (memories : List (List ℕ)) → ((d : Driver) → x ≡ Some d → d.write ≡ true → slice_index wires d.row < p.rows)
    → written_by table wires p x memories ≡ all_put (puts_in (driver_puts table wires q p x)) memories
one_written table wires q p None memories h = refl
one_written table wires q p (Some d) memories h = by d.write refl
  where
    by : (t : Bool) → d.write ≡ t → (if t then with_row table p memories (slice_index wires d.row) (slice_index wires d.data_) else memories)
        ≡ all_put (puts_in (if t then keyed q (record { memory = p.memory; bank = p.bank; row = slice_index wires d.row; position = position_of_row table p (slice_index wires d.row) }) (slice_index wires d.data_) ∷ [] else [])) memories
    by true e =
        ap (λ (b : Bool). if b then put_element memories (record { memory = p.memory; bank = p.bank; row = slice_index wires d.row; position = position_of_row table p (slice_index wires d.row) }) (slice_index wires d.data_) else memories)
        (lt-ltb (slice_index wires d.row) p.rows (h d refl e))
    by false e = refl

puts_append : (ks ls : List KeyedPut) (memories : List (List ℕ)) → all_put (puts_in (ks ++ ls)) memories ≡ all_put (puts_in ls) (all_put (puts_in ks) memories)
puts_append [] ls memories = refl
puts_append (k ∷ ks) ls memories = puts_append ks ls (put_element memories k.put.spot k.put.bits)

pub ports_write : (table : List MemEntry) (wires : List ℕ) (q : ℕ) (dss : List (List Driver)) (ps : List Port) (memories : List (List ℕ)) → WritesRows table wires dss ps
    → memories_after table wires dss ps memories ≡ all_put (puts_in (ports_put table wires q dss ps)) memories
ports_write table wires q [] ps memories h = refl
ports_write table wires q (ds ∷ dss) [] memories h = refl
ports_write table wires q (ds ∷ dss) (p ∷ ps) memories h =
    ports_write table wires (suc q) dss ps (written_by table wires p (served wires ds) memories) (λ k es r d a b c e. h (suc k) es r d a b c e)
    ∙ (ap (λ (m : List (List ℕ)). all_put (puts_in (ports_put table wires (suc q) dss ps)) m) (one_written table wires q p (served wires ds) memories (λ d e w. h 0 ds p d refl refl e w))
    ∙ sym (puts_append (driver_puts table wires q p (served wires ds)) (ports_put table wires (suc q) dss ps) memories))

-- Their ports.

abbrev AllFrom : ℕ → List KeyedPut → Type 0
AllFrom q ks = (k : KeyedPut) → IsAmongPuts k ks → q ≤ k.port

either_put : (k : KeyedPut) (ks ls : List KeyedPut) → IsAmongPuts k (ks ++ ls) → IsAmongPuts k ks ⊎ IsAmongPuts k ls
either_put k [] ls h = inr h
either_put k (j ∷ ks) ls h = elim h [
  | inl here ↦ inl (inl here)
  | inr later ↦ (elim (either_put k ks ls later) [
    | inl a ↦ inl (inr a)
    | inr b ↦ inr b
  ])
]

pub put_left : (k : KeyedPut) (ks ls : List KeyedPut) → IsAmongPuts k ks → IsAmongPuts k (ks ++ ls)
put_left k [] ls h = elim h [ ]
put_left k (j ∷ ks) ls h = elim h [
  | inl here ↦ inl here
  | inr later ↦ inr (put_left k ks ls later)
]

pub put_right : (k : KeyedPut) (ks ls : List KeyedPut) → IsAmongPuts k ls → IsAmongPuts k (ks ++ ls)
put_right k [] ls h = h
put_right k (j ∷ ks) ls h = inr (put_right k ks ls h)

pub which_put : (k : KeyedPut) (ks ls : List KeyedPut) → IsAmongPuts k (ks ++ ls) → IsAmongPuts k ks ⊎ IsAmongPuts k ls
which_put k ks ls h = either_put k ks ls h

-- the write of a driver
pub record IsDriverPut (table : List MemEntry) (wires : List ℕ) (q : ℕ) (p : Port) (x : Option Driver) (k : KeyedPut) : Type 0 where
  pub driver : Driver
  pub is : x ≡ Some driver
  pub writes : driver.write ≡ true
  pub put_is : k ≡ keyed q (record { memory = p.memory; bank = p.bank; row = slice_index wires driver.row; position = position_of_row table p (slice_index wires driver.row) }) (slice_index wires driver.data_)

pub driver_put : (table : List MemEntry) (wires : List ℕ) (q : ℕ) (p : Port) (x : Option Driver) (k : KeyedPut) → IsAmongPuts k (driver_puts table wires q p x) → IsDriverPut table wires q p x k
driver_put table wires q p None k h = elim h [ ]
driver_put table wires q p (Some d) k h = by d.write refl h
  where
    by : (t : Bool) → d.write ≡ t
        → IsAmongPuts k (if t then keyed q (record { memory = p.memory; bank = p.bank; row = slice_index wires d.row; position = position_of_row table p (slice_index wires d.row) }) (slice_index wires d.data_) ∷ [] else [])
        → IsDriverPut table wires q p (Some d) k
    by true e h = record {
      driver = d;
      is = refl;
      writes = e;
      put_is = elim h [
        | inl here ↦ here
        | inr later ↦ elim later [ ]
      ];
    }
    by false e h = elim h [ ]

pub driver_put_there : (table : List MemEntry) (wires : List ℕ) (q : ℕ) (p : Port) (x : Option Driver) (d : Driver) → x ≡ Some d → d.write ≡ true
    → IsAmongPuts (keyed q (record { memory = p.memory; bank = p.bank; row = slice_index wires d.row; position = position_of_row table p (slice_index wires d.row) }) (slice_index wires d.data_)) (driver_puts table wires q p x)
driver_put_there table wires q p x d is w =
    subst (λ (y : Option Driver). IsAmongPuts (keyed q (record { memory = p.memory; bank = p.bank; row = slice_index wires d.row; position = position_of_row table p (slice_index wires d.row) }) (slice_index wires d.data_)) (driver_puts table wires q p y)) (sym is)
    (by d.write w)
  where
    by : (t : Bool) → t ≡ true
        → IsAmongPuts (keyed q (record { memory = p.memory; bank = p.bank; row = slice_index wires d.row; position = position_of_row table p (slice_index wires d.row) }) (slice_index wires d.data_))
        (if t then keyed q (record { memory = p.memory; bank = p.bank; row = slice_index wires d.row; position = position_of_row table p (slice_index wires d.row) }) (slice_index wires d.data_) ∷ [] else [])
    by true e = inl refl
    by false e = absurd (cc)

ports_from_here : (table : List MemEntry) (wires : List ℕ) (q : ℕ) (dss : List (List Driver)) (ps : List Port) → AllFrom q (ports_put table wires q dss ps)
ports_from_here table wires q [] ps k h = elim h [ ]
ports_from_here table wires q (ds ∷ dss) [] k h = elim h [ ]
ports_from_here table wires q (ds ∷ dss) (p ∷ ps) k h =
    elim (which_put k (driver_puts table wires q p (served wires ds)) (ports_put table wires (suc q) dss ps) h) [
      | inl here ↦ let port = ap (λ (y : KeyedPut). y.port) (driver_put table wires q p (served wires ds) k here).put_is in omega (arith, port)
      | inr later ↦ let more = ports_from_here table wires (suc q) dss ps k later in omega (arith, more)
    ]

-- higher ports behind
before_higher : (q : ℕ) (k : KeyedPut) (ls : List KeyedPut) → k.port ≡ q → AllFrom (suc q) ls → RisesBefore k ls
before_higher q k [] e h = tt
before_higher q k (l ∷ ls) e h = ((λ same. let more = h l (inl refl) in omega (arith, e, more)), before_higher q k ls e (λ j there. h j (inr there)))

pub rises_one : (k : KeyedPut) (ls : List KeyedPut) → RisesBefore k ls → PortsRise ls → PortsRise (k ∷ ls)
rises_one k ls a b = (a, b)

driver_rises : (table : List MemEntry) (wires : List ℕ) (q : ℕ) (p : Port) (x : Option Driver) (ls : List KeyedPut) → AllFrom (suc q) ls → PortsRise ls → PortsRise (driver_puts table wires q p x ++ ls)
driver_rises table wires q p None ls h r = r
driver_rises table wires q p (Some d) ls h r = by d.write
  where
    by : (t : Bool)
        → PortsRise ((if t then keyed q (record { memory = p.memory; bank = p.bank; row = slice_index wires d.row; position = position_of_row table p (slice_index wires d.row) }) (slice_index wires d.data_) ∷ [] else []) ++ ls)
    by true = (before_higher q _ ls refl h, r)
    by false = r

pub ports_rise : (table : List MemEntry) (wires : List ℕ) (q : ℕ) (dss : List (List Driver)) (ps : List Port) → PortsRise (ports_put table wires q dss ps)
ports_rise table wires q [] ps = tt
ports_rise table wires q (ds ∷ dss) [] = tt
ports_rise table wires q (ds ∷ dss) (p ∷ ps) =
    driver_rises table wires q p (served wires ds) (ports_put table wires (suc q) dss ps) (ports_from_here table wires (suc q) dss ps) (ports_rise table wires (suc q) dss ps)
