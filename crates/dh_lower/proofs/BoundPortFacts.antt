-- The port that an operation uses of a bank, among all ports of the table: it is there, it is one of that memory and
-- bank, and two that go by one number are one port of one bank.
use Rattle.std.proofs.Common.{◌≡◌, ℕ, ◌+◌, ◌-◌, ◌*◌, ◌%◌, ◌<◌, ◌≤◌, inl, inr, Some, List, length, refl, sym, ap, subst, ◌∙◌, arith}
use Rattle.std.specs.Prelude.{[], ◌∷◌, Option, slice_get}
use Rattle.std.specs.List.{AllByRecursion}
use Rattle.std.proofs.lemmas.Nat.{div-mul-add, mod-mul-add}
use Rattle.std.proofs.lemmas.Option.{slice_get_cases}
use Rattle.dh_tree.specs.declared.tables.Dim.{Dim}
use Rattle.dh_tree.specs.declared.tables.MemEntry.{MemEntry}
use Rattle.dh_tree.specs.Elements.{banks_of, rows_of, dims_at, ports_at, entry_dims, entry_ports}
use Rattle.dh_meaning.specs.Effects.{entry_kind, kind_in}
use Rattle.dh_value.specs.Words.{width_of}
use Rattle.dh_net.specs.BankPorts.{port_count, port_of, ports_of, first_port, port_number}
use Rattle.dh_net.specs.RowWidths.{row_width_of}
use Rattle.dh_net.specs.declared.ports.Port.{Port}
use Rattle.dh_net.proofs.PortLists.{port_at}
use Rattle.dh_plan.specs.declared.operations.OperationForm.{OperationForm}
use Rattle.dh_plan.specs.declared.operations.OperationForm.TheVariants.{Constant, Old, Compute, Convert, Select, Check, Probe, Read, Write, Set}
use Rattle.dh_plan.specs.declared.operations.Reach.{Reach}
use Rattle.dh_plan.specs.BoundPorts.{Uses, ArePorts, port_used}
use Rattle.dh_plan.specs.PlainPlans.{PlainPlan, first_in}
use Rattle.dh_plan.specs.PlanKinds.{kinds_of, FormSuits, ReachSuits}
use Rattle.dh_plan.specs.SoundPlans.{HasUse, IsListed, IsFormed, use_in}
use Rattle.dh_lower.specs.ShownWords.{port_bound, port_or_first}

-- what an operation uses suits the plan
reach_of_form : (plan : PlainPlan) (first : ℕ) (kinds : _) (f : OperationForm) (r : Reach) → use_in f ≡ Some r → FormSuits plan first kinds f → ReachSuits plan first kinds r
reach_of_form plan first kinds (Constant word) r e h = absurd (cc)
reach_of_form plan first kinds (Old register) r e h = absurd (cc)
reach_of_form plan first kinds (Compute op left right) r e h = absurd (cc)
reach_of_form plan first kinds (Convert inner to) r e h = absurd (cc)
reach_of_form plan first kinds (Select test a b) r e h = absurd (cc)
reach_of_form plan first kinds (Check ok fault) r e h = absurd (cc)
reach_of_form plan first kinds (Probe x fault) r e h = absurd (cc)
reach_of_form plan first kinds (Read x) r e h = let same : x ≡ r = cc in subst (λ (y : Reach). ReachSuits plan first kinds y) same h.0
reach_of_form plan first kinds (Write x value) r e h = let same : x ≡ r = cc in subst (λ (y : Reach). ReachSuits plan first kinds y) same h.0
reach_of_form plan first kinds (Set register value) r e h = absurd (cc)

pub reach_suits : (plan : PlainPlan) → IsFormed plan → (block i : ℕ) (r : Reach) → HasUse plan block i r → ReachSuits plan (first_in plan block) (kinds_of plan block) r
reach_suits plan formed block i r h =
    reach_of_form plan (first_in plan block) (kinds_of plan block) h.operation.form r h.uses ((formed.blocks block).suits i h.operation h.there).form

-- a bank that is listed is one of the memory's
pub listed_bank : (banks : List (ℕ × ℕ)) (count bank place : ℕ) → AllByRecursion (λ (b : ℕ × ℕ). b.0 < count) banks → IsListed bank place banks → bank < count
listed_bank [] count bank place a h = elim h [ ]
listed_bank (b ∷ bs) count bank place a h = elim h [
  | inl here ↦ subst (λ (n : ℕ). n < count) here.0 a.0
  | inr later ↦ listed_bank bs count bank place a.1 later
]

pub entry_there : (table : List MemEntry) (memory : ℕ) → memory < length table → (e : MemEntry) × (slice_get table memory ≡ Some e)
entry_there table memory h =
    elim (slice_get_cases table memory).1 [
      | inl found ↦ (found.0, found.2)
      | inr past ↦ absurd (let beyond = past.0 in omega (arith, beyond, h))
    ]

-- a port of a bank is one of its memory
times_more : (c a d b : ℕ) → b ≡ a + d → a * c ≤ b * c
times_more c a d b e =
    let x : b * c ≡ (a + d) * c = ap (λ n. n * c) e in
    let y : (a + d) * c ≡ a * c + d * c = omega arith in
    omega (arith, x, y)

in_memory : (bank port banks ports : ℕ) → bank < banks → port < ports → bank * ports + port < banks * ports
in_memory bank port banks ports b p =
    let more : (bank + 1) * ports ≤ banks * ports = times_more ports (bank + 1) (banks - (bank + 1)) banks (omega (arith, b)) in
    let first : (bank + 1) * ports ≡ bank * ports + ports = omega arith in
    omega (arith, more, first, p)

-- the port of a bank that an operation uses
pub record IsBound (plan : PlainPlan) (u : Uses) (block i bank : ℕ) (r : Reach) (p : Port) : Type 0 where
  pub there : slice_get (ports_of plan.table) (port_bound plan u block i bank r) ≡ Some p
  pub used : port_used plan u block i bank ≡ Some p.port
  pub memory : p.memory ≡ r.memory
  pub bank_is : p.bank ≡ bank
  pub rows : p.rows ≡ rows_of (dims_at plan.table r.memory)
  pub row_width : p.row_width ≡ row_width_of (rows_of (dims_at plan.table r.memory))
  pub width : p.width ≡ width_of (kind_in plan.table r.memory)

pub bound_port : (plan : PlainPlan) (u : Uses) → IsFormed plan → ArePorts plan u → (block i bank place : ℕ) (r : Reach) → HasUse plan block i r → IsListed bank place r.banks
    → (p : Port) × IsBound plan u block i bank r p
bound_port plan u formed ports block i bank place r h listed =
    let suits = reach_suits plan formed block i r h in
    let entry = entry_there plan.table r.memory suits.memory in
    let e = entry.0 in
    let dims : dims_at plan.table r.memory ≡ e.shape.dims = ap entry_dims entry.1 in
    let many : ports_at plan.table r.memory ≡ e.shape.ports = ap entry_ports entry.1 in
    let below = listed_bank r.banks (banks_of (dims_at plan.table r.memory)) bank place suits.banks.there listed in
    let bank_below : bank < banks_of e.shape.dims = subst (λ (d : _). bank < banks_of d) dims below in
    let port = ports.there block i r bank place h listed in
    let port_below : port.0 < e.shape.ports = subst (λ (n : ℕ). port.0 < n) many port.1.1 in
    let k = bank * e.shape.ports + port.0 in
    let inside : k < port_count e = in_memory bank port.0 (banks_of e.shape.dims) e.shape.ports bank_below port_below in
    let number : port_bound plan u block i bank r ≡ first_port plan.table r.memory + k
    = ap (λ (o : Option ℕ). port_number plan.table r.memory bank (port_or_first o)) port.1.0 ∙ ap (λ (n : ℕ). first_port plan.table r.memory + (bank * n + port.0)) many in
    let own_port : port.0 ≡ k % e.shape.ports = sym (mod-mul-add bank e.shape.ports port.0 port_below) in (
      port_of r.memory e k,
      record {
        there = ap (λ (n : ℕ). slice_get (ports_of plan.table) n) number ∙ port_at plan.table r.memory k e entry.1 inside;
        used = port.1.0 ∙ ap (λ (n : ℕ). Some n) own_port;
        memory = refl;
        bank_is = div-mul-add bank e.shape.ports port.0 port_below;
        rows = ap rows_of (sym dims);
        row_width = ap (λ (d : List Dim). row_width_of (rows_of d)) (sym dims);
        width = ap (λ (o : Option MemEntry). width_of (entry_kind o)) (sym entry.1);
      },
    )

-- two uses of one port are of one bank of one memory
pub one_bank : (plan : PlainPlan) (u : Uses) (b i c j bank other : ℕ) (r s : Reach) (p q : Port) → IsBound plan u b i bank r p → IsBound plan u c j other s q
    → port_bound plan u b i bank r ≡ port_bound plan u c j other s → p ≡ q
one_bank plan u b i c j bank other r s p q x y same =
    let both : Some p ≡ Some q = sym x.there ∙ (ap (λ (n : ℕ). slice_get (ports_of plan.table) n) same ∙ y.there) in
    cc
