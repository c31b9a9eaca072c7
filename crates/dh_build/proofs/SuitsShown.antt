-- Wires that show a plan suit what control and drivers ask of them.
use Rattle.std.proofs.Common.{◌≡◌, ℕ, zero, suc, ◌+◌, ◌*◌, ◌^◌, ◌<◌, ◌≤◌, inl, inr, Some, None, List, [], ◌∷◌, ◌++◌, length, map, refl, sym, ap, subst, ◌∙◌, arith}
use Rattle.std.specs.Prelude.{Option, slice_get, slice_index, slice_index_or}
use Rattle.std.specs.List.{AllByRecursion}
use Rattle.std.proofs.lemmas.List.{get_or-map, length-append}
use Rattle.std.proofs.lemmas.Option.{slice_get_cases, slice_get_within}
use Rattle.dh_value.specs.declared.kinds.Kind.{Kind}
use Rattle.dh_value.specs.declared.kinds.Kind.TheVariants as kind
use Rattle.dh_value.specs.Words.{IsWidth, width_of}
use Rattle.dh_tree.specs.declared.tables.MemEntry.{MemEntry}
use Rattle.dh_tree.specs.Elements.{rows_of, entry_dims}
use Rattle.dh_tree.specs.Shapes.{IsMemory, IsProgramTable}
use Rattle.dh_tree.specs.Tables.{elements_of, elements_in}
use Rattle.dh_net.specs.BankPorts.{port_count, memory_ports, ports_from, ports_of}
use Rattle.dh_net.specs.RowWidths.{row_width_of}
use Rattle.dh_extents.proofs.DimSizes.{rows_fit}
use Rattle.dh_net.proofs.PortLists.{memory_ports_long}
use Rattle.dh_net.proofs.RowWidths.{row_width_met}
use Rattle.dh_plan.specs.declared.operations.Operation.{Operation}
use Rattle.dh_plan.specs.declared.operations.OperationForm.{OperationForm}
use Rattle.dh_plan.specs.declared.operations.OperationForm.TheVariants.{Constant, Old, Compute, Convert, Select, Check, Probe, Read, Write, Set}
use Rattle.dh_plan.specs.declared.operations.PlanBlock.{PlanBlock}
use Rattle.dh_plan.specs.declared.operations.Reach.{Reach}
use Rattle.dh_plan.specs.Blocks.{kind_at}
use Rattle.dh_plan.specs.BoundPorts.{Uses, ArePorts}
use Rattle.dh_plan.specs.Ordered.{one_or_none, offsets_taken, operation_takes, form_takes, reach_takes}
use Rattle.dh_plan.specs.PlainPlans.{PlainPlan, first_in, operations_in, block_operations}
use Rattle.dh_plan.specs.PlanKinds.{kind_of_value, kinds_of, FormSuits, IsTruth}
use Rattle.dh_plan.specs.SoundPlans.{use_in, HasUse, IsListed, IsFormed, FormAddressed, IsAddressed}
use Rattle.dh_plan.proofs.ValuesAlike.{all_map}
use Rattle.dh_cells.specs.PlainCircuits.{PlainCircuit}
use Rattle.dh_cells.specs.Settled.{IsWire}
use Rattle.dh_lower.specs.ShownWords.{port_bound}
use Rattle.dh_lower.proofs.BoundPortFacts.{bound_port}
use Rattle.dh_datapath.specs.declared.blocks.PlanWires.{PlanWires}
use Rattle.dh_datapath.specs.BlockWires.{part_in, ShowsPlan}
use Rattle.dh_datapath.specs.ShownNumbers.{IsShownNumber}
use Rattle.dh_datapath.proofs.PlanWiresKept.{taken_are_shown}
use Rattle.dh_control.specs.declared.driving.MemoryPorts.{MemoryPorts}
use Rattle.dh_control.specs.AllBlocks.{ChecksSuit, SetsSuit}
use Rattle.dh_control.specs.DriverWires.{HasValue, port_key}
use Rattle.dh_control.specs.FaultTests.{CheckSuits, CheckHasWire}
use Rattle.dh_control.specs.RegisterSets.{SetSuits, SetHasWire}
use Rattle.dh_control.specs.UseWires.{FormUseSuits, UseSuits, memory_ports_at}
use Rattle.dh_control.specs.UseWires as driven
use Rattle.dh_control.specs.ValuesShown.{HasWire, GuardHasWire}
use Rattle.dh_control.proofs.ListFacts.{all_front, all_back}
use Rattle.dh_build.specs.DrivenUsers.{UsesSuit}
use Rattle.dh_build.specs.MemoryTables.{AreMemoryPorts, row_bits_of}
use Rattle.dh_build.proofs.MemoriesListed.{few_ports}
use Rattle.dh_build.proofs.UsersDriven.{key_is}

-- A table has few ports.

ports_long : (memory : ℕ) (es : List MemEntry) → AllByRecursion IsMemory es → length (ports_from memory es) ≤ 8 * elements_in es
ports_long memory [] h = omega arith
ports_long memory (e ∷ es) h =
    let rest = ports_long (memory + 1) es h.1 in
    let here = few_ports e h.0 in
    let long = memory_ports_long memory e 0 (port_count e) in
    let both = length-append (memory_ports memory e 0 (port_count e)) (ports_from (memory + 1) es) in
    omega (arith, rest, here, long, both)

few_in_all : (table : List MemEntry) → IsProgramTable table → length (ports_of table) < 2 ^ 64
few_in_all table h = let most = ports_long 0 table h.entries in let few = h.elements in omega (arith, most, few)

-- Row numbers have a width.

memory_of : (es : List MemEntry) (memory : ℕ) (e : MemEntry) → AllByRecursion IsMemory es → slice_get es memory ≡ Some e → IsMemory e × (elements_of e.shape.dims ≤ elements_in es)
memory_of [] memory e h at = absurd (let f : None ≡ Some e = at in cc)
memory_of (x ∷ es) zero e h at =
    let same : x ≡ e = (let f : Some x ≡ Some e = at in cc) in
    subst (λ (y : MemEntry). IsMemory y × (elements_of y.shape.dims ≤ elements_in (x ∷ es))) same (h.0, omega arith)
memory_of (x ∷ es) (suc memory) e h at = let p = memory_of es memory e h.1 at in let most = p.1 in (p.0, omega (arith, most))

rows_width : (table : List MemEntry) (memory : ℕ) → IsProgramTable table → memory < length table → IsWidth (row_bits_of table memory)
rows_width table memory h less =
    elim (slice_get_cases table memory).1 [
      | inl found ↦
          let p = memory_of table memory found.0 h.entries found.2 in
          let rows = rows_fit found.0.shape.dims p.0.shape.dims in
          let most = p.1 in
          let few = h.elements in
          let met = row_width_met (rows_of found.0.shape.dims) in
          subst (λ (n : ℕ). IsWidth n) (sym (ap (λ (o : Option MemEntry). row_width_of (rows_of (entry_dims o))) found.2)) (met.least, met.none_less 64 (omega arith) (omega (arith, rows, most, few)))
      | inr past ↦ absurd (let beyond = past.0 in omega (arith, beyond, less))
    ]

all_listed : (P : ℕ → Type 0) (banks : List (ℕ × ℕ)) → ((bank place : ℕ) → IsListed bank place banks → P bank) → AllByRecursion (λ (b : ℕ × ℕ). P b.0) banks
all_listed P [] h = tt
all_listed P (b ∷ bs) h = (h b.0 b.1 (inl (refl, refl)), all_listed P bs (λ bank place there. h bank place (inr there)))

module _ (d : PlainCircuit) (plan : PlainPlan) (u : Uses) (w : PlanWires) (shows : ShowsPlan d plan u w) (formed : IsFormed plan) (addressed : IsAddressed plan) where
  -- values that are taken

  has_wire : (block : ℕ) (k : Kind) (number : ℕ) → IsShownNumber d plan w block number → kind_of_value (first_in plan block) (kinds_of plan block) number ≡ k → HasWire d w.values (width_of k) number
  has_wire block k number h is = (h.there, subst (λ (j : Kind). IsWire d (slice_index w.values number) (width_of j)) (h.kind_is ∙ is) h.wire)

  has_value : (block number : ℕ) → IsShownNumber d plan w block number → HasValue d w.kinds w.values number
  has_value block number h = (let there = h.there in let a = shows.all_values in let b = shows.all_kinds in omega (arith, there, a, b), (h.there, h.wire))

  guard_has : (block : ℕ) (guard : Option ℕ) → AllByRecursion (IsShownNumber d plan w block) (one_or_none guard) → AllByRecursion (IsTruth plan (first_in plan block) (kinds_of plan block)) (one_or_none guard) → GuardHasWire d w.values guard
  guard_has block None h g = tt
  guard_has block (Some v) h g = (has_wire block kind.Bool v h.0 g.0, tt)

  module _ (block i : ℕ) (o : Operation) (at : slice_get (operations_in plan block) i ≡ Some o) where
    taken : AllByRecursion (IsShownNumber d plan w block) (operation_takes o)
    taken = taken_are_shown d plan u w shows formed block i o at

    by_guard : AllByRecursion (IsShownNumber d plan w block) (one_or_none o.guard)
    by_guard = all_front (IsShownNumber d plan w block) (one_or_none o.guard) (form_takes o.form) taken

    by_form : AllByRecursion (IsShownNumber d plan w block) (form_takes o.form)
    by_form = all_back (IsShownNumber d plan w block) (one_or_none o.guard) (form_takes o.form) taken

    guard_suits : GuardHasWire d w.values o.guard
    guard_suits = guard_has block o.guard by_guard ((formed.blocks block).suits i o at).guard

  -- sets

  register_width : (register : ℕ) → register < length plan.registers → width_of (kind_at plan.registers register) ≡ slice_index (map width_of plan.registers) register
  register_width register less = sym (get_or-map width_of plan.registers register kind.Bool 0 less)

  set_form : (block : ℕ) (f : OperationForm) → AllByRecursion (IsShownNumber d plan w block) (form_takes f) → FormSuits plan (first_in plan block) (kinds_of plan block) f → SetHasWire d (map width_of plan.registers) w.values f
  set_form block (Constant word) h s = tt
  set_form block (Old register) h s = tt
  set_form block (Compute op left right) h s = tt
  set_form block (Convert inner to) h s = tt
  set_form block (Select test a b) h s = tt
  set_form block (Check ok fault) h s = tt
  set_form block (Probe r fault) h s = tt
  set_form block (Read r) h s = tt
  set_form block (Write r value) h s = tt
  set_form block (Set register value) h s = subst (λ (n : ℕ). HasWire d w.values n value) (register_width register s.0) (has_wire block (kind_at plan.registers register) value h.0 s.1)

  set_suits : (block i : ℕ) (o : Operation) → slice_get (operations_in plan block) i ≡ Some o → SetSuits d (map width_of plan.registers) w.values o
  set_suits block i o at = record { guard = guard_suits block i o at; value = set_form block o.form (by_form block i o at) ((formed.blocks block).suits i o at).form }

  -- checks

  module _ (few : length plan.faults < 2 ^ 32) where
    check_form : (block : ℕ) (f : OperationForm) → AllByRecursion (IsShownNumber d plan w block) (form_takes f) → FormSuits plan (first_in plan block) (kinds_of plan block) f → FormAddressed f → CheckHasWire d w.values f
    check_form block (Constant word) h s a = tt
    check_form block (Old register) h s a = tt
    check_form block (Compute op left right) h s a = tt
    check_form block (Convert inner to) h s a = tt
    check_form block (Select test x y) h s a = tt
    check_form block (Check ok fault) h s a = (has_wire block kind.Bool ok h.0 s.0, (let less = s.1 in omega (arith, less, few)))
    check_form block (Probe r fault) h s a = a
    check_form block (Read r) h s a = tt
    check_form block (Write r value) h s a = tt
    check_form block (Set register value) h s a = tt

    check_suits : (block i : ℕ) (o : Operation) → slice_get (operations_in plan block) i ≡ Some o → CheckSuits d w.values o
    check_suits block i o at = record { guard = guard_suits block i o at; check = check_form block o.form (by_form block i o at) ((formed.blocks block).suits i o at).form (addressed.forms block i o at) }

  -- all operations of all blocks

  all_operations : (P : Operation → Type 0) (os all : List Operation) (from : ℕ) → ((i n : ℕ) (o : Operation) → n ≡ from + i → slice_get os i ≡ Some o → slice_get all n ≡ Some o) → ((n : ℕ) (o : Operation) → slice_get all n ≡ Some o → P o)
      → AllByRecursion P os
  all_operations P [] all from at h = tt
  all_operations P (o ∷ os) all from at h =
      (h from o (at 0 from o (let n : from ≡ from + 0 = omega arith in n) refl), all_operations P os all (suc from) (λ i n p is there. at (suc i) n p (let same : n ≡ from + suc i = omega (arith, is) in same) there) h)

  all_blocks : (P : Operation → Type 0) (bs : List PlanBlock) (from : ℕ) → ((i n : ℕ) (b : PlanBlock) → n ≡ from + i → slice_get bs i ≡ Some b → slice_get plan.blocks n ≡ Some b)
      → ((block i : ℕ) (o : Operation) → slice_get (operations_in plan block) i ≡ Some o → P o) → AllByRecursion (λ (b : PlanBlock). AllByRecursion P b.operations) bs
  all_blocks P [] from at h = tt
  all_blocks P (b ∷ bs) from at h =
      let here : slice_get plan.blocks from ≡ Some b = at 0 from b (let n : from ≡ from + 0 = omega arith in n) refl in
      let own : b.operations ≡ operations_in plan from = sym (ap block_operations here) in (
        all_operations P b.operations b.operations 0 (λ i n p is there. let same : i ≡ n = omega (arith, is) in subst (λ (k : ℕ). slice_get b.operations k ≡ Some p) same there)
            (λ n p there. h from n p (ap (λ (l : List Operation). slice_get l n) (sym own) ∙ there)),
        all_blocks P bs (suc from) (λ i n c is there. at (suc i) n c (let same : n ≡ from + suc i = omega (arith, is) in same) there) h,
      )

  all_of : (P : Operation → Type 0) → ((block i : ℕ) (o : Operation) → slice_get (operations_in plan block) i ≡ Some o → P o) → AllByRecursion (λ (b : PlanBlock). AllByRecursion P b.operations) plan.blocks
  all_of P h = all_blocks P plan.blocks 0 (λ i n b is there. let same : i ≡ n = omega (arith, is) in subst (λ (k : ℕ). slice_get plan.blocks k ≡ Some b) same there) h

  pub sets_suit : SetsSuit d (map width_of plan.registers) w.values plan.blocks
  sets_suit = all_of (SetSuits d (map width_of plan.registers) w.values) set_suits

  pub checks_suit : length plan.faults < 2 ^ 32 → ChecksSuit d w.values plan.blocks
  checks_suit few = all_of (CheckSuits d w.values) (check_suits few)

  -- reads and writes

  module _ (ports : ArePorts plan u) (ms : List MemoryPorts) (memories : AreMemoryPorts plan.table ms) where
    abbrev ports_at_place : (block i : ℕ) → List (ℕ × ℕ)
    ports_at_place block i = slice_index_or (part_in plan u.ports block) i []

    by_banks : (block i : ℕ) (r : Reach) → HasUse plan block i r → r.memory < length plan.table
        → AllByRecursion (λ (b : ℕ × ℕ). port_key (memory_ports_at ms r.memory).first (memory_ports_at ms r.memory).count (ports_at_place block i) b.0 < 2 ^ 64) r.banks
    by_banks block i r use_there less =
        all_listed (λ bank. port_key (memory_ports_at ms r.memory).first (memory_ports_at ms r.memory).count (ports_at_place block i) bank < 2 ^ 64) r.banks
        (λ bank place listed.
        let bound = bound_port plan u formed ports block i bank place r use_there listed in
        let within = slice_get_within (ports_of plan.table) (port_bound plan u block i bank r) bound.0 bound.1.there in
        let few = few_in_all plan.table formed.table in
        let key = key_is plan u ms memories block i bank r less (slice_get_within (operations_in plan block) i use_there.operation use_there.there) in
        omega (arith, within, few, key))

    reach_can : (block i : ℕ) (r : Reach) → HasUse plan block i r → r.memory < length plan.table → AllByRecursion (IsShownNumber d plan w block) (reach_takes r)
        → driven.ReachSuits d w.kinds w.values (memory_ports_at ms r.memory) (ports_at_place block i) r
    reach_can block i r use_there less h =
        let behind = all_back (IsShownNumber d plan w block) (offsets_taken r.steps) (one_or_none r.select ++ one_or_none r.row)
        (all_back (IsShownNumber d plan w block) r.indices (offsets_taken r.steps ++ (one_or_none r.select ++ one_or_none r.row)) h) in
        record {
          bits = subst (λ (m : MemoryPorts). IsWidth m.bits) (sym (memories.each r.memory less)) (rows_width plan.table r.memory formed.table less);
          row =
              all_map (IsShownNumber d plan w block) (HasValue d w.kinds w.values) (one_or_none r.row) (λ number. has_value block number)
              (all_back (IsShownNumber d plan w block) (one_or_none r.select) (one_or_none r.row) behind);
          select =
              all_map (IsShownNumber d plan w block) (HasValue d w.kinds w.values) (one_or_none r.select) (λ number. has_value block number)
              (all_front (IsShownNumber d plan w block) (one_or_none r.select) (one_or_none r.row) behind);
          small = by_banks block i r use_there less;
        }

    form_can : (block i : ℕ) (o : Operation) (f : OperationForm) → slice_get (operations_in plan block) i ≡ Some o → o.form ≡ f → AllByRecursion (IsShownNumber d plan w block) (form_takes f)
        → FormSuits plan (first_in plan block) (kinds_of plan block) f → FormUseSuits d w.kinds w.values ms (ports_at_place block i) f
    form_can block i o (Constant word) at is h s = tt
    form_can block i o (Old register) at is h s = tt
    form_can block i o (Compute op left right) at is h s = tt
    form_can block i o (Convert inner to) at is h s = tt
    form_can block i o (Select test a b) at is h s = tt
    form_can block i o (Check ok fault) at is h s = tt
    form_can block i o (Probe r fault) at is h s = tt
    form_can block i o (Set register value) at is h s = tt
    form_can block i o (Read r) at is h s =
        let less = s.0.memory in
        let long = memories.long in
        (omega (arith, less, long), reach_can block i r (record { operation = o; there = at; uses = ap use_in is }) less h)
    form_can block i o (Write r value) at is h s =
        let less = s.0.memory in
        let long = memories.long in
        (h.0.there, (omega (arith, less, long), reach_can block i r (record { operation = o; there = at; uses = ap use_in is }) less h.1))

    pub uses_suit : UsesSuit d plan u w.kinds w.values ms
    uses_suit block i o at = record {
      guard = guard_suits block i o at;
      form = form_can block i o o.form at refl (by_form block i o at) ((formed.blocks block).suits i o at).form;
    }
