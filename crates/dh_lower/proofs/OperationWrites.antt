-- The writes of a step by its operations: they are the writes of its events, and of one element their ports rise.
-- Two writes of one element are in one bank. The later one there is of a later access that may meet the first one's,
-- or of the same with a greater place: so its port is the higher one, by the binding.
use Rattle.std.proofs.Common.{◌≡◌, ℕ, zero, suc, ◌+◌, ◌*◌, ◌<◌, ◌≤◌, inl, inr, Some, None, Bool, true, false, if◌then◌else◌, List, length, ℤ, pos, negsuc, unsigned_abs, refl, sym, ap, subst, ◌∙◌, arith}
use Rattle.std.specs.Prelude.{[], ◌∷◌, ◌++◌, Option, slice_get, int_le, int_lt}
use Rattle.std.specs.List.{AllByRecursion}
use Rattle.std.proofs.lemmas.Int.{ints}
use Rattle.dh_tree.specs.Elements.{Spot, dims_at, rows_of, banks_of, ports_at, position_in_bank, entry_dims}
use Rattle.dh_tree.specs.Shapes.{IsDim, IsMemory}
use Rattle.dh_tree.specs.declared.tables.Dim.{Dim}
use Rattle.dh_tree.specs.declared.tables.MemEntry.{MemEntry}
use Rattle.dh_value.specs.declared.words.Word.{Word}
use Rattle.dh_value.specs.Words.{value_of}
use Rattle.dh_meaning.specs.Effects.{is_row, spot_by_row}
use Rattle.dh_net.specs.BankPorts.{first_port}
use Rattle.dh_net.specs.declared.ports.Port.{Port}
use Rattle.dh_plan.specs.declared.operations.Operation.{Operation}
use Rattle.dh_plan.specs.declared.operations.OperationForm.{OperationForm}
use Rattle.dh_plan.specs.declared.operations.OperationForm.TheVariants.{Constant, Old, Compute, Convert, Select, Check, Probe, Read, Write, Set}
use Rattle.dh_plan.specs.declared.operations.Reach.{Reach}
use Rattle.dh_plan.specs.Blocks.{StepStart, is_on, word_at, bank_picked, spot_in_row, spot_of_reach}
use Rattle.dh_plan.specs.BoundPorts.{Uses, IsLaterUse, port_used}
use Rattle.dh_plan.specs.PlainPlans.{PlainPlan, first_in, operations_in}
use Rattle.dh_plan.specs.PlanRuns.{start_at, block_values}
use Rattle.dh_plan.specs.SoundPlans.{HasUse, IsListed, IsOneOf, Reaches, InOneBank, WritesAt, writes_memory, ComesBefore, OperationBefore, use_in}
use Rattle.dh_lower.specs.KeyedPuts.{KeyedPut, WriteOne, RisesBefore, PortsRise, IsAmongPuts}
use Rattle.dh_lower.specs.PortUsers.{User}
use Rattle.dh_lower.specs.ShownWords.{port_bound, port_or_first}
use Rattle.dh_lower.specs.StepFacts.{HasPortUsers, StepIsKept}
use Rattle.dh_lower.specs.StepPuts.{keyed, spot_puts, form_puts, operation_puts, operations_put, blocks_put}
use Rattle.dh_lower.proofs.AsksMeant.{both}
use Rattle.dh_lower.proofs.BanksSpread.{one_bank_row}
use Rattle.dh_lower.proofs.BoundPortFacts.{IsBound, bound_port, reach_suits, listed_bank, entry_there}
use Rattle.dh_lower.proofs.PortWrites.{which_put}
use Rattle.dh_lower.proofs.UsersAlone.{leads_to_row, row_of_form}

-- a write of an operation
pub record IsOperationPut (plan : PlainPlan) (u : Uses) (s : StepStart) (block i : ℕ) (ws : List Word) (k : KeyedPut) : Type 0 where
  pub operation : Operation
  pub reach : Reach
  pub value : ℕ
  pub spot : Spot
  pub there : slice_get (operations_in plan block) i ≡ Some operation
  pub form : operation.form ≡ Write reach value
  pub on : is_on (first_in plan block) ws operation.guard ≡ true
  pub leads : spot_of_reach s (first_in plan block) ws reach ≡ Some spot
  pub put_is : k ≡ keyed (port_bound plan u block i spot.bank reach) spot (word_at (first_in plan block) ws value).bits

module _ (plan : PlainPlan) (u : Uses) (s : StepStart) (block : ℕ) (ws : List Word) where
  -- from the write of a form to its operation
  record IsFormPut (i : ℕ) (f : OperationForm) (k : KeyedPut) : Type 0 where
    pub reach : Reach
    pub value : ℕ
    pub spot : Spot
    pub form : f ≡ Write reach value
    pub leads : spot_of_reach s (first_in plan block) ws reach ≡ Some spot
    pub put_is : k ≡ keyed (port_bound plan u block i spot.bank reach) spot (word_at (first_in plan block) ws value).bits

  spot_put : (i : ℕ) (r : Reach) (value : ℕ) (x : Option Spot) (k : KeyedPut) → spot_of_reach s (first_in plan block) ws r ≡ x
      → IsAmongPuts k (spot_puts plan u block i r (word_at (first_in plan block) ws value).bits x) → IsFormPut i (Write r value) k
  spot_put i r value None k e h = elim h [ ]
  spot_put i r value (Some spot) k e h = record {
    reach = r;
    value = value;
    spot = spot;
    form = refl;
    leads = e;
    put_is = elim h [
      | inl here ↦ here
      | inr later ↦ elim later [ ]
    ];
  }

  form_put : (i : ℕ) (f : OperationForm) (k : KeyedPut) → IsAmongPuts k (form_puts plan u s block i ws f) → IsFormPut i f k
  form_put i (Constant word) k h = elim h [ ]
  form_put i (Old register) k h = elim h [ ]
  form_put i (Compute op left right) k h = elim h [ ]
  form_put i (Convert inner to) k h = elim h [ ]
  form_put i (Select test a b) k h = elim h [ ]
  form_put i (Check ok fault) k h = elim h [ ]
  form_put i (Probe r fault) k h = elim h [ ]
  form_put i (Read r) k h = elim h [ ]
  form_put i (Write r value) k h = spot_put i r value (spot_of_reach s (first_in plan block) ws r) k refl h
  form_put i (Set register value) k h = elim h [ ]

  operation_put : (i : ℕ) (o : Operation) (k : KeyedPut) → slice_get (operations_in plan block) i ≡ Some o → IsAmongPuts k (operation_puts plan u s block i ws o) → IsOperationPut plan u s block i ws k
  operation_put i o k at = by (is_on (first_in plan block) ws o.guard) refl
    where
      by : (t : Bool) → is_on (first_in plan block) ws o.guard ≡ t → IsAmongPuts k (if t then form_puts plan u s block i ws o.form else []) → IsOperationPut plan u s block i ws k
      by true e h =
          let f = form_put i o.form k h in
          record { operation = o; reach = f.reach; value = f.value; spot = f.spot; there = at; form = f.form; on = e; leads = f.leads; put_is = f.put_is }
      by false e h = elim h [ ]

  -- operations behind so many
  abbrev StandsBehind : (i : ℕ) → List Operation → Type 0
  StandsBehind i os = (n : ℕ) (o : Operation) → slice_get os n ≡ Some o → slice_get (operations_in plan block) (i + n) ≡ Some o

  behind_next : (i : ℕ) (o : Operation) (os : List Operation) → StandsBehind i (o ∷ os) → StandsBehind (suc i) os
  behind_next i o os h n p at = subst (λ (k : ℕ). slice_get (operations_in plan block) k ≡ Some p) (moved i n) (h (suc n) p at)
    where
      moved : (i n : ℕ) → i + suc n ≡ suc i + n
      moved i n = omega arith

  here_first : (i : ℕ) (o : Operation) (os : List Operation) → StandsBehind i (o ∷ os) → slice_get (operations_in plan block) i ≡ Some o
  here_first i o os h = subst (λ (k : ℕ). slice_get (operations_in plan block) k ≡ Some o) (plain i) (h 0 o refl)
    where
      plain : (i : ℕ) → i + 0 ≡ i
      plain i = omega arith

  pub operations_from : (i : ℕ) (os : List Operation) (k : KeyedPut) → StandsBehind i os → IsAmongPuts k (operations_put plan u s block i ws os) → (j : ℕ) × ((i ≤ j) × IsOperationPut plan u s block j ws k)
  operations_from i [] k h put = elim put [ ]
  operations_from i (o ∷ os) k h put =
      elim (which_put k (operation_puts plan u s block i ws o) (operations_put plan u s block (suc i) ws os) put) [
        | inl here ↦ (i, (omega arith, operation_put i o k (here_first i o os h) here))
        | inr later ↦
            let found = operations_from (suc i) os k (behind_next i o os h) later in
            let more = found.1.0 in
            (found.0, (omega (arith, more), found.1.1))
      ]

module _ (plan : PlainPlan) (u : Uses) (users : (port : ℕ) → List User) (has : HasPortUsers plan u users) (registers : List ℕ) (memories : List (List ℕ)) (blocks : List ℕ)
    (kept : StepIsKept plan registers memories blocks) where
  abbrev start : StepStart
  start = start_at plan registers memories

  abbrev meant : (block : ℕ) → List Word
  meant block = block_values plan start block

  -- a write of the step
  pub record IsStepPut (k : KeyedPut) (block i : ℕ) : Type 0 where
    pub active : IsOneOf block blocks
    pub own : IsOperationPut plan u start block i (meant block) k

  uses_write : (f : OperationForm) (r : Reach) (value : ℕ) → f ≡ Write r value → use_in f ≡ Some r
  uses_write f r value e = ap use_in e

  -- where a write leads
  pub record PutLeads (k : KeyedPut) (block i : ℕ) (r : Reach) (spot : Spot) : Type 0 where
    pub reaches : Reaches plan start blocks block i r spot
    pub user : HasUse plan block i r
    pub place : ℕ
    pub listed : IsListed spot.bank place r.banks
    pub memory : r.memory ≡ spot.memory
    pub picks : bank_picked (first_in plan block) (meant block) r.banks r.select ≡ spot.bank
    pub bank_below : spot.bank < banks_of (dims_at plan.table r.memory)
    pub row_below : spot.row < rows_of (dims_at plan.table r.memory)
    pub position : position_in_bank (dims_at plan.table r.memory) spot.bank spot.row ≡ spot.position

  row_small : (dims : List Dim) (z : ℤ) → is_row dims z ≡ true → unsigned_abs z < rows_of dims
  row_small dims (pos n) e = let h : int_lt (pos n) (pos (rows_of dims)) ≡ true = (both (int_le (pos 0) (pos n)) (int_lt (pos n) (pos (rows_of dims))) e).1 in omega (arith, ints, h)
  row_small dims (negsuc n) e = absurd (cc)

  pub put_leads : (k : KeyedPut) (block i : ℕ) → (h : IsStepPut k block i) → PutLeads k block i h.own.reach h.own.spot
  put_leads k block i h =
      let own = h.own in
      let first = first_in plan block in
      let vs = meant block in
      let uses = uses_write own.operation.form own.reach own.value own.form in
      let row = row_of_form own.operation.form own.reach uses (has.addressed.forms block i own.operation own.there) in
      let by_row : spot_by_row plan.table own.reach.memory (bank_picked first vs own.reach.banks own.reach.select) (value_of (word_at first vs row.0)) ≡ Some own.spot
      = sym (ap (λ (x : Option ℕ). spot_in_row start first vs own.reach x) row.1) ∙ own.leads in
      let lead = leads_to_row plan.table own.reach.memory (bank_picked first vs own.reach.banks own.reach.select) (value_of (word_at first vs row.0)) own.spot by_row in
      let reaches : Reaches plan start blocks block i own.reach own.spot
      = record { active = h.active; operation = own.operation; there = own.there; uses = uses; on = own.on; leads = own.leads } in
      let used : HasUse plan block i own.reach = record { operation = own.operation; there = own.there; uses = uses } in
      let found = kept.banks.listed block i own.reach own.spot reaches in
      let suits = reach_suits plan has.formed block i own.reach used in
      let memory : own.reach.memory ≡ own.spot.memory = ap (λ (x : Spot). x.memory) lead.spot_is in
      let bank : bank_picked first vs own.reach.banks own.reach.select ≡ own.spot.bank = ap (λ (x : Spot). x.bank) lead.spot_is in
      let row_is : unsigned_abs (value_of (word_at first vs row.0)) ≡ own.spot.row = ap (λ (x : Spot). x.row) lead.spot_is in
      record {
        reaches = reaches;
        user = used;
        place = found.0;
        listed = found.1;
        memory = memory;
        picks = bank;
        bank_below = listed_bank own.reach.banks (banks_of (dims_at plan.table own.reach.memory)) own.spot.bank found.0 suits.banks.there found.1;
        row_below = subst (λ (n : ℕ). n < rows_of (dims_at plan.table own.reach.memory)) row_is (row_small (dims_at plan.table own.reach.memory) (value_of (word_at first vs row.0)) lead.is_one);
        position = subst (λ (x : Spot). position_in_bank (dims_at plan.table own.reach.memory) x.bank x.row ≡ x.position) lead.spot_is refl;
      }

  -- dimensions of a memory of the plan
  entries_at : (table : List MemEntry) (memory : ℕ) (e : MemEntry) → AllByRecursion IsMemory table → slice_get table memory ≡ Some e → IsMemory e
  entries_at [] memory e h at = absurd (cc)
  entries_at (x ∷ xs) zero e h at = let same : x ≡ e = cc in subst (λ (y : MemEntry). IsMemory y) same h.0
  entries_at (x ∷ xs) (suc n) e h at = entries_at xs n e h.1 at

  good_dims : (memory : ℕ) → memory < length plan.table → AllByRecursion IsDim (dims_at plan.table memory)
  good_dims memory h =
      let entry = entry_there plan.table memory h in
      subst (λ (d : List Dim). AllByRecursion IsDim d) (sym (ap entry_dims entry.1)) (entries_at plan.table memory entry.0 has.formed.table.entries entry.1).shape.dims

  is_write : (f : OperationForm) (r : Reach) (value : ℕ) → f ≡ Write r value → writes_memory f
  is_write f r value e = subst (λ (g : OperationForm). writes_memory g) (sym e) tt

  module _ (k l : KeyedPut) (b i c j : ℕ) (x : IsStepPut k b i) (y : IsStepPut l c j) (before : OperationBefore blocks b i c j) (one : WriteOne k l) where
    r : Reach
    r = x.own.reach

    s : Reach
    s = y.own.reach

    a : PutLeads k b i x.own.reach x.own.spot
    a = put_leads k b i x

    d : PutLeads l c j y.own.reach y.own.spot
    d = put_leads l c j y

    spot_memory : x.own.spot.memory ≡ y.own.spot.memory
    spot_memory = sym (ap (λ (z : KeyedPut). z.put.spot.memory) x.own.put_is) ∙ (one.memory ∙ ap (λ (z : KeyedPut). z.put.spot.memory) y.own.put_is)

    spot_position : x.own.spot.position ≡ y.own.spot.position
    spot_position = sym (ap (λ (z : KeyedPut). z.put.spot.position) x.own.put_is) ∙ (one.position ∙ ap (λ (z : KeyedPut). z.put.spot.position) y.own.put_is)

    same_memory : x.own.reach.memory ≡ y.own.reach.memory
    same_memory = a.memory ∙ (spot_memory ∙ sym d.memory)

    same_row : (x.own.spot.bank ≡ y.own.spot.bank) × (x.own.spot.row ≡ y.own.spot.row)
    same_row =
        let suits = reach_suits plan has.formed b i x.own.reach a.user in
        let dims = dims_at plan.table x.own.reach.memory in
        let back : dims_at plan.table y.own.reach.memory ≡ dims = ap (λ (n : ℕ). dims_at plan.table n) (sym same_memory) in
        one_bank_row dims (good_dims x.own.reach.memory suits.memory) x.own.spot.bank x.own.spot.row y.own.spot.bank y.own.spot.row a.bank_below a.row_below
        (subst (λ (q : List Dim). y.own.spot.bank < banks_of q) back d.bank_below) (subst (λ (q : List Dim). y.own.spot.row < rows_of q) back d.row_below)
        (a.position ∙ (spot_position ∙ sym (subst (λ (q : List Dim). position_in_bank q y.own.spot.bank y.own.spot.row ≡ y.own.spot.position) back d.position)))

    in_one : InOneBank x.own.spot y.own.spot
    in_one = record { memory = spot_memory; bank = same_row.0 }

    first_write : WritesAt plan b i
    first_write = record { operation = x.own.operation; there = x.own.there; writes = is_write x.own.operation.form x.own.reach x.own.value x.own.form }

    second_write : WritesAt plan c j
    second_write = record { operation = y.own.operation; there = y.own.there; writes = is_write y.own.operation.form y.own.reach y.own.value y.own.form }

    second_listed : IsListed x.own.spot.bank d.place y.own.reach.banks
    second_listed = subst (λ (n : ℕ). IsListed n d.place y.own.reach.banks) (sym same_row.0) d.listed

    later : IsLaterUse plan a.place d.place x.own.reach y.own.reach
    later =
        elim (kept.banks.ordered b i c j x.own.reach y.own.reach x.own.spot y.own.spot a.reaches d.reaches in_one first_write second_write before) [
          | inl access ↦ inl (access, λ apart. kept.banks.never b i c j x.own.reach y.own.reach x.own.spot y.own.spot a.reaches d.reaches apart)
          | inr both ↦ inr (both.0, both.1 a.place d.place a.listed second_listed)
        ]

    first_bound : (p : Port) × IsBound plan u b i x.own.spot.bank x.own.reach p
    first_bound = bound_port plan u has.formed has.ports b i x.own.spot.bank a.place x.own.reach a.user a.listed

    second_bound : (p : Port) × IsBound plan u c j y.own.spot.bank y.own.reach p
    second_bound = bound_port plan u has.formed has.ports c j y.own.spot.bank d.place y.own.reach d.user d.listed

    rising : first_bound.0.port < second_bound.0.port
    rising =
        has.ports.rising b i c j x.own.spot.bank a.place d.place first_bound.0.port second_bound.0.port x.own.reach y.own.reach
        (record { first = a.user; second = d.user; memory = same_memory; in_first = a.listed; in_second = second_listed }) first_write second_write first_bound.1.used
        (ap (λ (n : ℕ). port_used plan u c j n) same_row.0 ∙ second_bound.1.used) later

    -- by their numbers
    first_number : port_bound plan u b i x.own.spot.bank x.own.reach ≡ first_port plan.table x.own.reach.memory + (x.own.spot.bank * ports_at plan.table x.own.reach.memory + first_bound.0.port)
    first_number = ap (λ (o : Option ℕ). first_port plan.table x.own.reach.memory + (x.own.spot.bank * ports_at plan.table x.own.reach.memory + port_or_first o)) first_bound.1.used

    second_number : port_bound plan u c j y.own.spot.bank y.own.reach ≡ first_port plan.table x.own.reach.memory + (x.own.spot.bank * ports_at plan.table x.own.reach.memory + second_bound.0.port)
    second_number =
        ap (λ (o : Option ℕ). first_port plan.table y.own.reach.memory + (y.own.spot.bank * ports_at plan.table y.own.reach.memory + port_or_first o)) second_bound.1.used
        ∙ (ap (λ (n : ℕ). first_port plan.table n + (y.own.spot.bank * ports_at plan.table n + second_bound.0.port)) (sym same_memory)
        ∙ ap (λ (n : ℕ). first_port plan.table x.own.reach.memory + (n * ports_at plan.table x.own.reach.memory + second_bound.0.port)) (sym same_row.0))

    pub ports_rise_here : k.port < l.port
    ports_rise_here =
        let e : k.port ≡ port_bound plan u b i x.own.spot.bank x.own.reach = ap (λ (z : KeyedPut). z.port) x.own.put_is in
        let f : l.port ≡ port_bound plan u c j y.own.spot.bank y.own.reach = ap (λ (z : KeyedPut). z.port) y.own.put_is in
        let m = first_number in
        let n = second_number in
        let less = rising in
        numbers k.port l.port (first_port plan.table x.own.reach.memory) (x.own.spot.bank * ports_at plan.table x.own.reach.memory) first_bound.0.port second_bound.0.port (e ∙ m) (f ∙ n) less
      where
        numbers : (a b f g p q : ℕ) → a ≡ f + (g + p) → b ≡ f + (g + q) → p < q → a < b
        numbers a b f g p q e h l = omega (arith, e, h, l)

  -- All of them.

  -- a list of rising ports behind another
  higher_all : (k : KeyedPut) (ls : List KeyedPut) → ((l : KeyedPut) → IsAmongPuts l ls → WriteOne k l → k.port < l.port) → RisesBefore k ls
  higher_all k [] h = tt
  higher_all k (l ∷ ls) h = (h l (inl refl), higher_all k ls (λ j there. h j (inr there)))

  before_both : (k : KeyedPut) (ks ls : List KeyedPut) → RisesBefore k ks → RisesBefore k ls → RisesBefore k (ks ++ ls)
  before_both k [] ls h g = g
  before_both k (j ∷ ks) ls h g = (h.0, before_both k ks ls h.1 g)

  rises_append : (ks ls : List KeyedPut) → PortsRise ks → PortsRise ls → ((k l : KeyedPut) → IsAmongPuts k ks → IsAmongPuts l ls → WriteOne k l → k.port < l.port) → PortsRise (ks ++ ls)
  rises_append [] ls h g cross = g
  rises_append (k ∷ ks) ls h g cross =
      (before_both k ks ls h.0 (higher_all k ls (λ l there. cross k l (inl refl) there)), rises_append ks ls h.1 g (λ j l a b. cross j l (inr a) b))

  spot_rises : (block i : ℕ) (r : Reach) (bits : ℕ) (x : Option Spot) → PortsRise (spot_puts plan u block i r bits x)
  spot_rises block i r bits None = tt
  spot_rises block i r bits (Some spot) = (tt, tt)

  form_rises : (block i : ℕ) (ws : List Word) (f : OperationForm) → PortsRise (form_puts plan u start block i ws f)
  form_rises block i ws (Constant word) = tt
  form_rises block i ws (Old register) = tt
  form_rises block i ws (Compute op left right) = tt
  form_rises block i ws (Convert inner to) = tt
  form_rises block i ws (Select test a b) = tt
  form_rises block i ws (Check ok fault) = tt
  form_rises block i ws (Probe r fault) = tt
  form_rises block i ws (Read r) = tt
  form_rises block i ws (Write r value) = spot_rises block i r (word_at (first_in plan block) ws value).bits (spot_of_reach start (first_in plan block) ws r)
  form_rises block i ws (Set register value) = tt

  operation_rises : (block i : ℕ) (ws : List Word) (o : Operation) → PortsRise (operation_puts plan u start block i ws o)
  operation_rises block i ws o = by (is_on (first_in plan block) ws o.guard)
    where
      by : (t : Bool) → PortsRise (if t then form_puts plan u start block i ws o.form else [])
      by true = form_rises block i ws o.form
      by false = tt

  operations_rise : (block : ℕ) → IsOneOf block blocks → (i : ℕ) (os : List Operation) → StandsBehind plan u start block (meant block) i os
      → PortsRise (operations_put plan u start block i (meant block) os)
  operations_rise block active i [] h = tt
  operations_rise block active i (o ∷ os) h =
      rises_append (operation_puts plan u start block i (meant block) o) (operations_put plan u start block (suc i) (meant block) os) (operation_rises block i (meant block) o)
      (operations_rise block active (suc i) os (behind_next plan u start block (meant block) i o os h)) λ k l there later one.
      let first = operation_put plan u start block (meant block) i o k (here_first plan u start block (meant block) i o os h) there in
      let second = operations_from plan u start block (meant block) (suc i) os l (behind_next plan u start block (meant block) i o os h) later in
      let more = second.1.0 in
      ports_rise_here k l block i block second.0 (record { active = active; own = first }) (record { active = active; own = second.1.1 }) (inr (refl, omega (arith, more))) one

  whole_block : (block : ℕ) → StandsBehind plan u start block (meant block) 0 (operations_in plan block)
  whole_block block n o at = subst (λ (k : ℕ). slice_get (operations_in plan block) k ≡ Some o) (plain n) at
    where
      plain : (n : ℕ) → n ≡ 0 + n
      plain n = omega arith

  -- the operation of a write of blocks
  pub record FromBlocks (bs : List ℕ) (k : KeyedPut) : Type 0 where
    pub block : ℕ
    pub place : ℕ
    pub among : IsOneOf block bs
    pub own : IsOperationPut plan u start block place (meant block) k

  pub from_blocks : (bs : List ℕ) (k : KeyedPut) → IsAmongPuts k (blocks_put plan u start bs) → FromBlocks bs k
  from_blocks [] k h = elim h [ ]
  from_blocks (b ∷ bs) k h =
      elim (which_put k (operations_put plan u start b 0 (meant b) (operations_in plan b)) (blocks_put plan u start bs) h) [
        | inl here ↦
            let found = operations_from plan u start b (meant b) 0 (operations_in plan b) k (whole_block b) here in
            record { block = b; place = found.0; among = inl refl; own = found.1.1 }
        | inr later ↦
            let found = from_blocks bs k later in
            record { block = found.block; place = found.place; among = inr found.among; own = found.own }
      ]

  blocks_rise : (bs : List ℕ) → ((c : ℕ) → IsOneOf c bs → IsOneOf c blocks) → ((b c : ℕ) → ComesBefore b c bs → ComesBefore b c blocks) → PortsRise (blocks_put plan u start bs)
  blocks_rise [] all order = tt
  blocks_rise (b ∷ bs) all order =
      rises_append (operations_put plan u start b 0 (meant b) (operations_in plan b)) (blocks_put plan u start bs) (operations_rise b (all b (inl refl)) 0 (operations_in plan b) (whole_block b))
      (blocks_rise bs (λ c h. all c (inr h)) (λ x y h. order x y (inr h))) λ k l there later one.
      let first = operations_from plan u start b (meant b) 0 (operations_in plan b) k (whole_block b) there in
      let second = from_blocks bs l later in
      ports_rise_here k l b first.0 second.block second.place (record { active = all b (inl refl); own = first.1.1 }) (record { active = all second.block (inr second.among); own = second.own })
      (inl (order b second.block (inl (refl, second.among)))) one

  -- the ports of a step's writes rise
  pub step_rises : PortsRise (blocks_put plan u start blocks)
  step_rises = blocks_rise blocks (λ c h. h) (λ b c h. h)
