-- In the clock in which a step's writes are made the ports write those of its events.
-- Each write of an operation is that of the port that it uses, since its user asks there, and alone; and each port that
-- writes is served for an operation of the step, and writes what that one does. So both are the same writes, with rising
-- ports, and leave the same memories. In any other clock no user that writes asks.
use Rattle.std.proofs.Common.{◌≡◌, ℕ, zero, suc, ◌+◌, ◌<◌, inl, inr, Some, None, Bool, true, false, if◌then◌else◌, List, length, refl, sym, ap, subst, ◌∙◌, arith}
use Rattle.std.specs.Prelude.{[], ◌∷◌, ◌++◌, Option, slice_get, slice_index}
use Rattle.std.proofs.lemmas.Option.{slice_get_cases, slice_get_within}
use Rattle.dh_tree.specs.Elements.{Spot, dims_at, position_in_bank}
use Rattle.dh_tree.specs.declared.tables.MemEntry.{MemEntry}
use Rattle.dh_value.specs.declared.words.Word.{Word}
use Rattle.dh_net.specs.BankPorts.{ports_of}
use Rattle.dh_net.specs.Clock.{served, position_of_row, is_active, written_by, memories_after, with_row}
use Rattle.dh_net.specs.declared.nets.Driver.{Driver}
use Rattle.dh_net.specs.declared.ports.Port.{Port}
use Rattle.dh_plan.specs.declared.operations.Operation.{Operation}
use Rattle.dh_plan.specs.declared.operations.OperationForm.{OperationForm}
use Rattle.dh_plan.specs.declared.operations.OperationForm.TheVariants.{Constant, Old, Compute, Convert, Select, Check, Probe, Read, Write, Set}
use Rattle.dh_plan.specs.declared.operations.Reach.{Reach}
use Rattle.dh_plan.specs.Blocks.{StepStart, is_on, word_at, spot_of_reach, fails_unless, fails_outside, puts_inside, operation_form_events, operation_events, block_events, Put, puts_of, all_put}
use Rattle.dh_plan.specs.BlockLaws.{SameAt, SameAtAll}
use Rattle.dh_plan.specs.BoundPorts.{Uses}
use Rattle.dh_plan.specs.LegalSchedules.{Timing, clocks_in}
use Rattle.dh_plan.specs.Ordered.{one_or_none, form_takes}
use Rattle.dh_plan.specs.PlainPlans.{PlainPlan, first_in, operations_in}
use Rattle.dh_plan.specs.PlanRuns.{start_at, block_values, events_of_block, step_events}
use Rattle.dh_plan.specs.SoundPlans.{IsOneOf, use_in}
use Rattle.dh_plan.proofs.Appends.{puts_behind}
use Rattle.dh_plan.proofs.ValuesAlike.{all_right}
use Rattle.dh_lower.specs.KeyedPuts.{KeyedPut, puts_in, IsAmongPuts}
use Rattle.dh_lower.specs.PortUsers.{User, HasUser, Moment, form_asks, SaysForm, DrivesFor, DriveFor}
use Rattle.dh_lower.specs.ShownWords.{port_bound}
use Rattle.dh_lower.specs.StepFacts.{HasPortUsers, Acts, IsMoment}
use Rattle.dh_lower.specs.StepLaws.{PortsWriteStep}
use Rattle.dh_lower.specs.StepPuts.{keyed, spot_puts, form_puts, operation_puts, operations_put, blocks_put, driver_puts, ports_put}
use Rattle.dh_lower.proofs.AsksMeant.{write_asks, both}
use Rattle.dh_lower.proofs.BoundPortFacts.{bound_port}
use Rattle.dh_lower.proofs.OnePortServed.{active_asks, Served, nobody, somebody, which_served}
use Rattle.dh_lower.proofs.OperationWrites.{IsOperationPut, from_blocks, put_leads, step_rises}
use Rattle.dh_lower.proofs.PortWrites.{WritesRows, IsDriverPut, driver_put, driver_put_there, put_left, put_right, which_put, ports_write, ports_rise}
use Rattle.dh_lower.proofs.PutsByPlace.{puts_commute}
use Rattle.dh_lower.proofs.ReadsMade.{Asked, asked, port_at_place}
use Rattle.dh_lower.proofs.UsersAlone.{LeadsToRow, one_user_acts, own_reach}

-- Writes with their ports are those of events.

map_behind : (ks ls : List KeyedPut) → puts_in (ks ++ ls) ≡ puts_in ks ++ puts_in ls
map_behind [] ls = refl
map_behind (k ∷ ks) ls = ap (λ (ps : List Put). k.put ∷ ps) (map_behind ks ls)

module _ (plan : PlainPlan) (u : Uses) (s : StepStart) where
  spot_writes : (block i : ℕ) (r : Reach) (bits : ℕ) (x : Option Spot) → puts_in (spot_puts plan u block i r bits x) ≡ puts_of (puts_inside bits x)
  spot_writes block i r bits None = refl
  spot_writes block i r bits (Some spot) = refl

  none_unless : (fault : ℕ) (ok : Bool) → [] ≡ puts_of (fails_unless fault ok)
  none_unless fault true = refl
  none_unless fault false = refl

  none_outside : (fault : ℕ) (x : Option Spot) → [] ≡ puts_of (fails_outside fault x)
  none_outside fault None = refl
  none_outside fault (Some spot) = refl

  form_writes : (block i : ℕ) (ws : List Word) (f : OperationForm) → puts_in (form_puts plan u s block i ws f) ≡ puts_of (operation_form_events s (first_in plan block) ws f)
  form_writes block i ws (Constant word) = refl
  form_writes block i ws (Old register) = refl
  form_writes block i ws (Compute op left right) = refl
  form_writes block i ws (Convert inner to) = refl
  form_writes block i ws (Select test a b) = refl
  form_writes block i ws (Check ok fault) = none_unless fault _
  form_writes block i ws (Probe r fault) = none_outside fault _
  form_writes block i ws (Read r) = refl
  form_writes block i ws (Write r value) = spot_writes block i r _ (spot_of_reach s (first_in plan block) ws r)
  form_writes block i ws (Set register value) = refl

  operation_writes : (block i : ℕ) (ws : List Word) (o : Operation) → puts_in (operation_puts plan u s block i ws o) ≡ puts_of (operation_events s (first_in plan block) ws o)
  operation_writes block i ws o = by (is_on (first_in plan block) ws o.guard)
    where
      by : (t : Bool) → puts_in (if t then form_puts plan u s block i ws o.form else []) ≡ puts_of (if t then operation_form_events s (first_in plan block) ws o.form else [])
      by true = form_writes block i ws o.form
      by false = refl

  operations_write : (block i : ℕ) (ws : List Word) (os : List Operation) → puts_in (operations_put plan u s block i ws os) ≡ puts_of (block_events s (first_in plan block) ws os)
  operations_write block i ws [] = refl
  operations_write block i ws (o ∷ os) =
      map_behind (operation_puts plan u s block i ws o) (operations_put plan u s block (suc i) ws os)
      ∙ (ap (λ (ps : List Put). ps ++ puts_in (operations_put plan u s block (suc i) ws os)) (operation_writes block i ws o)
      ∙ (ap (λ (ps : List Put). puts_of (operation_events s (first_in plan block) ws o) ++ ps) (operations_write block (suc i) ws os)
      ∙ sym (puts_behind (operation_events s (first_in plan block) ws o) (block_events s (first_in plan block) ws os))))

  pub blocks_write : (blocks : List ℕ) → puts_in (blocks_put plan u s blocks) ≡ puts_of (step_events plan s blocks)
  blocks_write [] = refl
  blocks_write (b ∷ bs) =
      map_behind (operations_put plan u s b 0 (block_values plan s b) (operations_in plan b)) (blocks_put plan u s bs)
      ∙ (ap (λ (ps : List Put). ps ++ puts_in (blocks_put plan u s bs)) (operations_write b 0 (block_values plan s b) (operations_in plan b))
      ∙ (ap (λ (ps : List Put). puts_of (events_of_block plan s b) ++ ps) (blocks_write bs)
      ∙ sym (puts_behind (events_of_block plan s b) (step_events plan s bs))))

  -- An operation's write among those of its block, and of blocks.

  put_at : (block : ℕ) (ws : List Word) (k : KeyedPut) (i : ℕ) (os : List Operation) (n : ℕ) (o : Operation) → slice_get os n ≡ Some o
      → IsAmongPuts k (operation_puts plan u s block (i + n) ws o) → IsAmongPuts k (operations_put plan u s block i ws os)
  put_at block ws k i [] n o at h = absurd (cc)
  put_at block ws k i (p ∷ os) zero o at h =
      let same : o ≡ p = cc in
      put_left k (operation_puts plan u s block i ws p) _
      (subst (λ (x : Operation). IsAmongPuts k (operation_puts plan u s block i ws x)) same (subst (λ (n : ℕ). IsAmongPuts k (operation_puts plan u s block n ws o)) (plain i) h))
    where
      plain : (i : ℕ) → i + 0 ≡ i
      plain i = omega arith
  put_at block ws k i (p ∷ os) (suc n) o at h =
      put_right k (operation_puts plan u s block i ws p) _ (put_at block ws k (suc i) os n o at (subst (λ (x : ℕ). IsAmongPuts k (operation_puts plan u s block x ws o)) (moved i n) h))
    where
      moved : (i n : ℕ) → i + suc n ≡ suc i + n
      moved i n = omega arith

  own_put : (block i : ℕ) (ws : List Word) (k : KeyedPut) → (h : IsOperationPut plan u s block i ws k) → IsAmongPuts k (operation_puts plan u s block i ws h.operation)
  own_put block i ws k h =
      let is : operation_puts plan u s block i ws h.operation ≡ keyed (port_bound plan u block i h.spot.bank h.reach) h.spot (word_at (first_in plan block) ws h.value).bits ∷ []
      = ap (λ (b : Bool). if b then form_puts plan u s block i ws h.operation.form else []) h.on
      ∙ (ap (λ (f : OperationForm). form_puts plan u s block i ws f) h.form
      ∙ ap (λ (x : Option Spot). spot_puts plan u block i h.reach (word_at (first_in plan block) ws h.value).bits x) h.leads) in
      subst (λ (l : List KeyedPut). IsAmongPuts k l) (sym is) (inl h.put_is)

  block_put : (block i : ℕ) (ws : List Word) (k : KeyedPut) → IsOperationPut plan u s block i ws k → IsAmongPuts k (operations_put plan u s block 0 ws (operations_in plan block))
  block_put block i ws k h =
      put_at block ws k 0 (operations_in plan block) i h.operation h.there (subst (λ (n : ℕ). IsAmongPuts k (operation_puts plan u s block n ws h.operation)) (plain i) (own_put block i ws k h))
    where
      plain : (i : ℕ) → i ≡ 0 + i
      plain i = omega arith

  step_put : (bs : List ℕ) (block i : ℕ) (k : KeyedPut) → IsOneOf block bs → IsOperationPut plan u s block i (block_values plan s block) k → IsAmongPuts k (blocks_put plan u s bs)
  step_put [] block i k there h = elim there [ ]
  step_put (b ∷ bs) block i k there h = elim there [
    | inl here ↦ put_left k (operations_put plan u s b 0 (block_values plan s b) (operations_in plan b)) (blocks_put plan u s bs)
        (subst (λ (c : ℕ). IsAmongPuts k (operations_put plan u s c 0 (block_values plan s c) (operations_in plan c))) here (block_put block i (block_values plan s block) k h))
    | inr later ↦ put_right k (operations_put plan u s b 0 (block_values plan s b) (operations_in plan b)) (blocks_put plan u s bs) (step_put bs block i k later h)
  ]

  -- an operation has one write
  one_write_each : (block i : ℕ) (ws : List Word) (k l : KeyedPut) → IsOperationPut plan u s block i ws k → IsOperationPut plan u s block i ws l → k ≡ l
  one_write_each block i ws k l h g =
      let both_there : Some h.operation ≡ Some g.operation = sym h.there ∙ g.there in
      let operation : h.operation ≡ g.operation = cc in
      let forms : Write h.reach h.value ≡ Write g.reach g.value = sym h.form ∙ (ap (λ (o : Operation). o.form) operation ∙ g.form) in
      let reach : h.reach ≡ g.reach = cc in
      let value : h.value ≡ g.value = cc in
      let spots : Some h.spot ≡ Some g.spot = sym h.leads ∙ (ap (λ (r : Reach). spot_of_reach s (first_in plan block) ws r) reach ∙ g.leads) in
      let spot : h.spot ≡ g.spot = cc in
      let is : keyed (port_bound plan u block i h.spot.bank h.reach) h.spot (word_at (first_in plan block) ws h.value).bits
      ≡ keyed (port_bound plan u block i g.spot.bank g.reach) g.spot (word_at (first_in plan block) ws g.value).bits
      = λ n. keyed (port_bound plan u block i (spot n).bank (reach n)) (spot n) (word_at (first_in plan block) ws (value n)).bits in
      h.put_is ∙ (is ∙ sym g.put_is)

-- Writes of ports, by the port.

module _ (table : List MemEntry) (wires : List ℕ) where
  record AtPort (first : ℕ) (dss : List (List Driver)) (ps : List Port) (k : KeyedPut) : Type 0 where
    pub place : ℕ
    pub drivers : List Driver
    pub port : Port
    pub drivers_there : slice_get dss place ≡ Some drivers
    pub port_there : slice_get ps place ≡ Some port
    pub own : IsDriverPut table wires (first + place) port (served wires drivers) k

  from_ports : (first : ℕ) (dss : List (List Driver)) (ps : List Port) (k : KeyedPut) → IsAmongPuts k (ports_put table wires first dss ps) → AtPort first dss ps k
  from_ports first [] ps k h = elim h [ ]
  from_ports first (ds ∷ dss) [] k h = elim h [ ]
  from_ports first (ds ∷ dss) (p ∷ ps) k h =
      elim (which_put k (driver_puts table wires first p (served wires ds)) (ports_put table wires (suc first) dss ps) h) [
        | inl here ↦ record {
          place = 0;
          drivers = ds;
          port = p;
          drivers_there = refl;
          port_there = refl;
          own = subst (λ (q : ℕ). IsDriverPut table wires q p (served wires ds) k) (plain first) (driver_put table wires first p (served wires ds) k here);
        }
        | inr later ↦
            let found = from_ports (suc first) dss ps k later in
            record {
              place = suc found.place;
              drivers = found.drivers;
              port = found.port;
              drivers_there = found.drivers_there;
              port_there = found.port_there;
              own = subst (λ (q : ℕ). IsDriverPut table wires q found.port (served wires found.drivers) k) (moved first found.place) found.own;
            }
      ]
    where
      plain : (n : ℕ) → n ≡ n + 0
      plain n = omega arith

      moved : (n i : ℕ) → suc n + i ≡ n + suc i
      moved n i = omega arith

  to_ports : (first : ℕ) (dss : List (List Driver)) (ps : List Port) (q : ℕ) (ds : List Driver) (p : Port) (k : KeyedPut) → slice_get dss q ≡ Some ds → slice_get ps q ≡ Some p
      → IsAmongPuts k (driver_puts table wires (first + q) p (served wires ds)) → IsAmongPuts k (ports_put table wires first dss ps)
  to_ports first [] ps q ds p k a b h = absurd (cc)
  to_ports first (x ∷ dss) [] q ds p k a b h = absurd (cc)
  to_ports first (x ∷ dss) (y ∷ ps) zero ds p k a b h =
      let same : ds ≡ x = cc in
      let port : p ≡ y = cc in
      put_left k (driver_puts table wires first y (served wires x)) _
      (subst (λ (l : List Driver). IsAmongPuts k (driver_puts table wires first y (served wires l))) same
      (subst (λ (z : Port). IsAmongPuts k (driver_puts table wires first z (served wires ds))) port
      (subst (λ (n : ℕ). IsAmongPuts k (driver_puts table wires n p (served wires ds))) (plain first) h)))
    where
      plain : (n : ℕ) → n + 0 ≡ n
      plain n = omega arith
  to_ports first (x ∷ dss) (y ∷ ps) (suc q) ds p k a b h =
      put_right k (driver_puts table wires first y (served wires x)) _
      (to_ports (suc first) dss ps q ds p k a b (subst (λ (n : ℕ). IsAmongPuts k (driver_puts table wires n p (served wires ds))) (moved first q) h))
    where
      moved : (n i : ℕ) → n + suc i ≡ suc n + i
      moved n i = omega arith

  -- where no driver that is served writes
  one_kept : (p : Port) (x : Option Driver) (memories : List (List ℕ)) → ((d : Driver) → x ≡ Some d → d.write ≡ true → ⊥) → written_by table wires p x memories ≡ memories
  one_kept p None memories h = refl
  one_kept p (Some d) memories h = by d.write refl
    where
      by : (t : Bool) → d.write ≡ t → (if t then with_row table p memories (slice_index wires d.row) (slice_index wires d.data_) else memories) ≡ memories
      by true e = absurd (h d refl e)
      by false e = refl

  pub all_kept : (dss : List (List Driver)) (ps : List Port) (memories : List (List ℕ))
      → ((q : ℕ) (ds : List Driver) (p : Port) (d : Driver) → slice_get dss q ≡ Some ds → slice_get ps q ≡ Some p → served wires ds ≡ Some d → d.write ≡ true → ⊥)
      → memories_after table wires dss ps memories ≡ memories
  all_kept [] ps memories h = refl
  all_kept (ds ∷ dss) [] memories h = refl
  all_kept (ds ∷ dss) (p ∷ ps) memories h =
      ap (λ (l : List (List ℕ)). memories_after table wires dss ps l) (one_kept p (served wires ds) memories (λ d is w. h 0 ds p d refl refl is w))
      ∙ all_kept dss ps memories (λ q es r d a b is w. h (suc q) es r d a b is w)

-- The step.

-- a form that a driver says which writes is a write
record IsWriteSaid (wires : List ℕ) (first : ℕ) (us : List Word) (d : Driver) (f : OperationForm) : Type 0 where
  pub reach : Reach
  pub value : ℕ
  pub form : f ≡ Write reach value
  pub bits : slice_index wires d.data_ ≡ (word_at first us value).bits

write_said : (p : Port) (wires : List ℕ) (first : ℕ) (us : List Word) (d : Driver) (f : OperationForm) → d.write ≡ true → SaysForm p wires first us d f → IsWriteSaid wires first us d f
write_said p wires first us d (Constant word) w h = elim h [ ]
write_said p wires first us d (Old register) w h = elim h [ ]
write_said p wires first us d (Compute op left right) w h = elim h [ ]
write_said p wires first us d (Convert inner to) w h = elim h [ ]
write_said p wires first us d (Select test a b) w h = elim h [ ]
write_said p wires first us d (Check ok fault) w h = elim h [ ]
write_said p wires first us d (Probe r fault) w h = elim h [ ]
write_said p wires first us d (Read r) w h = absurd (let reads = h.reads in cc)
write_said p wires first us d (Write r value) w h = record { reach = r; value = value; form = refl; bits = h.bits }
write_said p wires first us d (Set register value) w h = elim h [ ]

-- the driver of a user
user_at : (plan : PlainPlan) (t : Timing) (words : (block : ℕ) → List Word) (m : Moment) (p : Port) (wires : List ℕ) (ds : List Driver) (vs : List User)
    → DriveFor plan t words m p wires ds vs → (i : ℕ) (d : Driver) → slice_get ds i ≡ Some d → (v : User) × (HasUser v vs × DrivesFor plan t words m p wires d v)
user_at plan t words m p wires [] vs h i d at = absurd (cc)
user_at plan t words m p wires (x ∷ ds) [] h i d at = elim h [ ]
user_at plan t words m p wires (x ∷ ds) (v ∷ vs) h zero d at =
    let same : x ≡ d = cc in
    (v, (inl refl, subst (λ (y : Driver). DrivesFor plan t words m p wires y v) same h.0))
user_at plan t words m p wires (x ∷ ds) (v ∷ vs) h (suc i) d at =
    let found = user_at plan t words m p wires ds vs h.1 i d at in
    (found.0, (inr found.1.0, found.1.1))

module _ (plan : PlainPlan) (t : Timing) (u : Uses) (users : (port : ℕ) → List User) (has : HasPortUsers plan u users) (registers : List ℕ) (memories : List (List ℕ)) (held : List ℕ)
    (words : (block : ℕ) → List Word) (m : Moment) (now : IsMoment plan t u registers memories held words m) (wires : List ℕ) (dss : List (List Driver))
    (many : length dss ≡ length (ports_of plan.table))
    (drives : (q : ℕ) (ds : List Driver) (p : Port) → slice_get dss q ≡ Some ds → slice_get (ports_of plan.table) q ≡ Some p → DriveFor plan t words m p wires ds (users q)) where
  abbrev start : StepStart
  start = start_at plan registers memories

  abbrev meant : (block : ℕ) → List Word
  meant block = block_values plan start block

  abbrev AskedAt : (q : ℕ) (p : Port) (d : Driver) (v : User) → Type 0
  AskedAt q p d v = Asked plan t u users has registers memories held words m now wires dss many drives q p d v

  -- the write of a driver
  abbrev port_put : (q : ℕ) (p : Port) (d : Driver) → KeyedPut
  port_put q p d =
      keyed q (record { memory = p.memory; bank = p.bank; row = slice_index wires d.row; position = position_of_row plan.table p (slice_index wires d.row) }) (slice_index wires d.data_)

  abbrev said : (q : ℕ) (p : Port) (d : Driver) (v : User) (a : AskedAt q p d v) → d.write ≡ true → IsWriteSaid wires (first_in plan v.block) (words v.block) d a.own.operation.form
  said q p d v a w = write_said p wires (first_in plan v.block) (words v.block) d a.own.operation.form w a.says

  position_is : (table : List MemEntry) (memory bank : ℕ) (z : _) (spot : Spot) → LeadsToRow table memory bank z spot → position_in_bank (dims_at table spot.memory) spot.bank spot.row ≡ spot.position
  position_is table memory bank z spot h = subst (λ (x : Spot). position_in_bank (dims_at table x.memory) x.bank x.row ≡ x.position) h.spot_is refl

  -- is that of its operation
  write_of : (q : ℕ) (p : Port) (d : Driver) (v : User) → HasUser v (users q) → AskedAt q p d v → d.write ≡ true → IsOperationPut plan u start v.block v.place (meant v.block) (port_put q p d)
  write_of q p d v user a w =
      let first = first_in plan v.block in
      let us = words v.block in
      let vs = meant v.block in
      let x = said q p d v a w in
      let reaches : Some x.reach ≡ Some a.own.reach = sym (ap (λ (f : OperationForm). use_in f) x.form) ∙ a.own.acts.uses in
      let reach : a.own.reach ≡ x.reach = cc in
      let P = SameAt first us vs in
      let taken : SameAtAll first us vs (form_takes (Write x.reach x.value))
      = subst (λ (f : OperationForm). SameAtAll first us vs (form_takes f)) x.form (all_right P (one_or_none a.own.operation.guard) (form_takes a.own.operation.form) a.own.same) in
      let memory : p.memory ≡ a.spot.memory = a.bound.memory ∙ ap (λ (y : Spot). y.memory) a.leads.to_row.spot_is in
      let bank : p.bank ≡ a.spot.bank = a.bound.bank_is ∙ ap (λ (y : Spot). y.bank) a.leads.to_row.spot_is in
      let row : slice_index wires d.row ≡ a.spot.row = a.row in
      let place : position_in_bank (dims_at plan.table p.memory) p.bank (slice_index wires d.row) ≡ a.spot.position
      = (λ n. position_in_bank (dims_at plan.table (memory n)) (bank n) (row n)) ∙ position_is plan.table a.own.reach.memory v.bank _ a.spot a.leads.to_row in
      let spot : record { memory = p.memory; bank = p.bank; row = slice_index wires d.row; position = position_of_row plan.table p (slice_index wires d.row) } ≡ a.spot
      = λ n. record { memory = memory n; bank = bank n; row = row n; position = place n } in
      let bits : slice_index wires d.data_ ≡ (word_at first vs x.value).bits = x.bits ∙ ap (λ (y : Word). y.bits) taken.0 in
      let own_bank : v.bank ≡ a.spot.bank = ap (λ (y : Spot). y.bank) a.leads.to_row.spot_is in
      let number : q ≡ port_bound plan u v.block v.place a.spot.bank x.reach
      = sym (own_reach plan u users has registers memories m.active now.kept q v a.own.operation a.own.reach user a.own.acts) ∙ (λ n. port_bound plan u v.block v.place (own_bank n) (reach n)) in
      record {
        operation = a.own.operation;
        reach = x.reach;
        value = x.value;
        spot = a.spot;
        there = a.own.acts.there;
        form = x.form;
        on = a.own.acts.on;
        leads = sym (ap (λ (r : Reach). spot_of_reach start first vs r) reach) ∙ a.leads.reaches.leads;
        put_is = λ n. keyed (number n) (spot n) (bits n);
      }

  -- a user of a driver that writes asks where writes are made
  commits_where : (q : ℕ) (p : Port) (d : Driver) (v : User) → AskedAt q p d v → d.write ≡ true → m.commits ≡ true
  commits_where q p d v a w =
      let x = said q p d v a w in
      let asks = subst (λ (f : OperationForm). form_asks (first_in plan v.block) (words v.block) v.bank (slice_index (clocks_in plan t v.block) v.place) m f ≡ true) x.form a.own.form in
      (both m.commits _ asks).0

  -- a driver that is served
  record ServedFor (q : ℕ) (p : Port) (d : Driver) : Type 0 where
    pub user : User
    pub there : HasUser user (users q)
    pub ask : AskedAt q p d user

  served_for : (q : ℕ) (ds : List Driver) (p : Port) (d : Driver) → slice_get dss q ≡ Some ds → slice_get (ports_of plan.table) q ≡ Some p → served wires ds ≡ Some d → ServedFor q p d
  served_for q ds p d at port is = by (which_served plan t words m p wires ds (users q) (drives q ds p at port))
    where
      by : Served plan t words m p wires ds (users q) → ServedFor q p d
      by (nobody none all) = absurd (cc)
      by (somebody x v found there e drive) =
          let same_some : Some x ≡ Some d = sym found ∙ is in
          let same : x ≡ d = cc in
          record {
            user = v;
            there = there;
            ask = asked plan t u users has registers memories held words m now wires dss many drives q p d v port there e (subst (λ (y : Driver). DrivesFor plan t words m p wires y v) same drive);
          }

  rows_written : WritesRows plan.table wires dss (ports_of plan.table)
  rows_written q ds p d at port is w =
      let a = (served_for q ds p d at port is).ask in
      subst (λ (n : ℕ). n < p.rows) (sym a.row) a.below

  from_port : (k : KeyedPut) → IsAmongPuts k (ports_put plan.table wires 0 dss (ports_of plan.table)) → IsAmongPuts k (blocks_put plan u start m.active)
  from_port k h =
      let found = from_ports plan.table wires 0 dss (ports_of plan.table) k h in
      let s = served_for found.place found.drivers found.port found.own.driver found.drivers_there found.port_there found.own.is in
      let own = write_of found.place found.port found.own.driver s.user s.there s.ask found.own.writes in
      let is : port_put found.place found.port found.own.driver ≡ k = sym (found.own.put_is ∙ ap (λ (q : ℕ). port_put q found.port found.own.driver) (plain found.place)) in
      step_put plan u start m.active s.user.block s.user.place k s.ask.own.acts.active (subst (λ (x : KeyedPut). IsOperationPut plan u start s.user.block s.user.place (meant s.user.block) x) is own)
    where
      plain : (n : ℕ) → 0 + n ≡ n
      plain n = omega arith

  drivers_of_port : (q : ℕ) (p : Port) → slice_get (ports_of plan.table) q ≡ Some p → (ds : List Driver) × (slice_get dss q ≡ Some ds)
  drivers_of_port q p at =
      elim (slice_get_cases dss q).1 [
        | inl found ↦ (found.0, found.2)
        | inr past ↦ absurd (let inside = slice_get_within (ports_of plan.table) q p at in let beyond = past.0 in omega (arith, inside, beyond, many))
      ]

  -- the port of a write of an operation serves it
  port_writes : (q : ℕ) (p : Port) (ds : List Driver) (v : User) (o : Operation) (r : Reach) (value : ℕ) (k : KeyedPut) → m.commits ≡ true → o.form ≡ Write r value
      → Acts plan registers memories m.active v o r → IsOperationPut plan u start v.block v.place (meant v.block) k → slice_get (ports_of plan.table) q ≡ Some p → HasUser v (users q)
      → Served plan t words m p wires ds (users q) → IsAmongPuts k (driver_puts plan.table wires q p (served wires ds))
  port_writes q p ds v o r value k commits form acts own port user (nobody none all) =
      let same : Acts plan registers memories m.active v (record { guard = o.guard; form = Write r value }) r
      = subst (λ (f : OperationForm). Acts plan registers memories m.active v (record { guard = o.guard; form = f }) r) form acts in
      let asks = write_asks plan t u registers memories held words m now v o.guard r value same commits in
      absurd (let none_asks = all v user in cc)
  port_writes q p ds v o r value k commits form acts own port user (somebody d w is there e drive) =
      let b = asked plan t u users has registers memories held words m now wires dss many drives q p d w port there e drive in
      let same : w ≡ v = one_user_acts plan u users has registers memories m.active now.kept q w v b.own.operation o b.own.reach r there user b.own.acts acts in
      let a : AskedAt q p d v = subst (λ (x : User). AskedAt q p d x) same b in
      let operations : Some a.own.operation ≡ Some o = sym a.own.acts.there ∙ acts.there in
      let operation : a.own.operation ≡ o = cc in
      let says : SaysForm p wires (first_in plan v.block) (words v.block) d (Write r value)
      = subst (λ (f : OperationForm). SaysForm p wires (first_in plan v.block) (words v.block) d f) (ap (λ (x : Operation). x.form) operation ∙ form) a.says in
      let one = one_write_each plan u start v.block v.place (meant v.block) (port_put q p d) k (write_of q p d v user a says.writes) own in
      subst (λ (x : KeyedPut). IsAmongPuts x (driver_puts plan.table wires q p (served wires ds))) one (driver_put_there plan.table wires q p (served wires ds) d is says.writes)

  from_operation : m.commits ≡ true → (k : KeyedPut) → IsAmongPuts k (blocks_put plan u start m.active) → IsAmongPuts k (ports_put plan.table wires 0 dss (ports_of plan.table))
  from_operation commits k h =
      let found = from_blocks plan u users has registers memories m.active now.kept m.active k h in
      let own = found.own in
      let lead = put_leads plan u users has registers memories m.active now.kept k found.block found.place (record { active = found.among; own = own }) in
      let v : User = record { block = found.block; place = found.place; bank = own.spot.bank } in
      let q = port_bound plan u found.block found.place own.spot.bank own.reach in
      let bound = bound_port plan u has.formed has.ports found.block found.place own.spot.bank lead.place own.reach lead.user lead.listed in
      let user = has.laid.all found.block found.place own.spot.bank lead.place own.reach lead.user lead.listed in
      let ds = drivers_of_port q bound.0 bound.1.there in
      let acts : Acts plan registers memories m.active v own.operation own.reach
      = record { active = found.among; there = own.there; uses = ap (λ (f : OperationForm). use_in f) own.form; on = own.on; picks = lead.picks } in
      let put = port_writes q bound.0 ds.0 v own.operation own.reach own.value k commits own.form acts own bound.1.there user
      (which_served plan t words m bound.0 wires ds.0 (users q) (drives q ds.0 bound.0 ds.1 bound.1.there)) in
      to_ports plan.table wires 0 dss (ports_of plan.table) q ds.0 bound.0 k ds.1 bound.1.there (subst (λ (n : ℕ). IsAmongPuts k (driver_puts plan.table wires n bound.0 (served wires ds.0))) (plain q) put)
    where
      plain : (n : ℕ) → n ≡ 0 + n
      plain n = omega arith

  active_writes_last : (q i : ℕ) (ds : List Driver) (d : Driver) → slice_get dss q ≡ Some ds → slice_get ds i ≡ Some d → d.write ≡ true → is_active wires d ≡ true → m.commits ≡ true
  active_writes_last q i ds d at here w active =
      let port = port_at_place plan t u users has registers memories held words m now wires dss many drives q ds at in
      let found = user_at plan t words m port.0 wires ds (users q) (drives q ds port.0 at port.1) i d here in
      let asks = sym (active_asks plan t words m port.0 wires d found.0 found.1.1) ∙ active in
      commits_where q port.0 d found.0 (asked plan t u users has registers memories held words m now wires dss many drives q port.0 d found.0 port.1 found.1.0 asks found.1.1) w

  pub ports_write_step : PortsWriteStep plan registers memories m wires dss
  ports_write_step =
      record {
        made = λ commits.
            ports_write plan.table wires 0 dss (ports_of plan.table) memories rows_written
            ∙ (puts_commute (ports_put plan.table wires 0 dss (ports_of plan.table)) (blocks_put plan u start m.active) memories (ports_rise plan.table wires 0 dss (ports_of plan.table))
            (step_rises plan u users has registers memories m.active now.kept) (record { first_in_second = from_port; second_in_first = from_operation commits })
            ∙ ap (λ (ps : List Put). all_put ps memories) (blocks_write plan u start m.active));
        kept = λ waits. all_kept plan.table wires dss (ports_of plan.table) memories λ q ds p d at port is w.
            let commits = commits_where q p d (served_for q ds p d at port is).user (served_for q ds p d at port is).ask w in
            cc;
        last = active_writes_last;
      }
