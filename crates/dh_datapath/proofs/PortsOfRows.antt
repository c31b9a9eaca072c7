-- Each block of a plan is a row of operations that have what they need to have wires: its values are of the kinds that
-- they need, and of the banks that a read lists it uses ports that are there.
use Rattle.std.proofs.Common.{◌≡◌, ℕ, zero, suc, ◌+◌, ◌<◌, inl, inr, Some, List, drop, length, refl, sym, ap, subst, ◌∙◌, arith}
use Rattle.std.specs.Prelude.{[], ◌∷◌, slice_get, slice_index_or}
use Rattle.std.specs.List.{AllByRecursion}
use Rattle.std.proofs.lemmas.List.{get_or-take, get_or-drop}
use Rattle.std.proofs.lemmas.Option.{slice_get_within}
use Rattle.dh_value.specs.declared.kinds.Kind.{Kind}
use Rattle.dh_value.specs.declared.kinds.Kind.TheVariants as kind
use Rattle.dh_value.specs.Words.{IsInteger, IsKind, width_of}
use Rattle.dh_tree.specs.declared.tables.Dim.{Dim}
use Rattle.dh_tree.specs.declared.tables.MemEntry.{MemEntry}
use Rattle.dh_tree.specs.Elements.{banks_of, dims_at, ports_at, entry_dims, entry_ports}
use Rattle.dh_tree.specs.Shapes.{IsMemory}
use Rattle.dh_meaning.specs.Effects.{kind_in, entry_kind}
use Rattle.dh_plan.specs.declared.operations.Operation.{Operation}
use Rattle.dh_plan.specs.declared.operations.OperationForm.{OperationForm}
use Rattle.dh_plan.specs.declared.operations.OperationForm.TheVariants.{Constant, Old, Compute, Convert, Select, Check, Probe, Read, Write, Set}
use Rattle.dh_plan.specs.declared.operations.Reach.{Reach}
use Rattle.dh_plan.specs.BoundPorts.{Uses, ArePorts, port_used}
use Rattle.dh_plan.specs.PlainPlans.{PlainPlan, first_in, operations_in}
use Rattle.dh_plan.specs.PlanKinds.{kinds_of, FormSuits}
use Rattle.dh_plan.specs.SoundPlans.{HasUse, IsListed, IsFormed, use_in}
use Rattle.dh_lower.specs.ShownWords.{port_or_first}
use Rattle.dh_lower.proofs.BoundPortFacts.{reach_suits, listed_bank, entry_there}
use Rattle.dh_datapath.specs.BlockWires.{CanShow, IsFormedRow, part_in}
use Rattle.dh_datapath.specs.BlockWires as wires
use Rattle.dh_datapath.specs.ReadWires.{HasPort, HavePorts}

-- kinds of memories are kinds
integer_sized : (k : Kind) → IsInteger k → IsKind k
integer_sized kind.Bool h = absurd h
integer_sized (kind.Unsigned w) h = h
integer_sized (kind.Signed w) h = h

kind_sized : (table : List MemEntry) (memory : ℕ) → AllByRecursion IsMemory table → memory < length table → IsKind (kind_in table memory)
kind_sized [] memory all inside = absurd (omega (arith, inside))
kind_sized (e ∷ es) zero all inside = integer_sized e.shape.kind all.0.shape.integer
kind_sized (e ∷ es) (suc memory) all inside = kind_sized es memory all.1 (omega (arith, inside))

-- the ports that an operation of a block uses, by its place there
pub used_at : (plan : PlainPlan) (ports : List (List (ℕ × ℕ))) (block i : ℕ) → i < length (operations_in plan block)
    → wires.operation_ports (part_in plan ports block) i ≡ slice_index_or ports (first_in plan block + i) []
used_at plan ports block i inside = get_or-take (length (operations_in plan block)) (drop (first_in plan block) ports) i [] inside ∙ get_or-drop (first_in plan block) ports i []

have_ports : (table : List MemEntry) (memory width : ℕ) (ports banks : List (ℕ × ℕ)) → ((bank place : ℕ) → IsListed bank place banks → HasPort table memory width ports bank)
    → HavePorts table memory width ports banks
have_ports table memory width ports [] each = tt
have_ports table memory width ports (b ∷ bs) each = (each b.0 b.1 (inl (refl, refl)), have_ports table memory width ports bs (λ bank place listed. each bank place (inr listed)))

module _ (plan : PlainPlan) (u : Uses) (formed : IsFormed plan) (ports : ArePorts plan u) (block : ℕ) where
  used_there : (i : ℕ) (r : Reach) → HasUse plan block i r → (bank place : ℕ) → IsListed bank place r.banks
      → HasPort plan.table r.memory (width_of (kind_in plan.table r.memory)) (slice_index_or u.ports (first_in plan block + i) []) bank
  used_there i r h bank place listed =
      let suits = reach_suits plan formed block i r h in
      let entry = entry_there plan.table r.memory suits.memory in
      let e = entry.0 in
      let dims : dims_at plan.table r.memory ≡ e.shape.dims = ap entry_dims entry.1 in
      let many : ports_at plan.table r.memory ≡ e.shape.ports = ap entry_ports entry.1 in
      let below = listed_bank r.banks (banks_of (dims_at plan.table r.memory)) bank place suits.banks.there listed in
      let port = ports.there block i r bank place h listed in
      let own : port_or_first (port_used plan u block i bank) ≡ port.0 = ap port_or_first port.1.0 in
      record {
        entry = e;
        there = entry.1;
        bank_there = subst (λ (d : List Dim). bank < banks_of d) dims below;
        port_there = subst (λ (n : ℕ). n < e.shape.ports) (sym own) (subst (λ (n : ℕ). port.0 < n) many port.1.1);
        wide = ap (λ (k : Kind). width_of k) (sym (ap entry_kind entry.1));
      }

  read_ports : (i : ℕ) (r : Reach) → HasUse plan block i r
      → HavePorts plan.table r.memory (width_of (kind_in plan.table r.memory)) (wires.operation_ports (part_in plan u.ports block) i) r.banks
  read_ports i r h =
      subst (λ (l : List (ℕ × ℕ)). HavePorts plan.table r.memory (width_of (kind_in plan.table r.memory)) l r.banks)
      (sym (used_at plan u.ports block i (slice_get_within (operations_in plan block) i h.operation h.there)))
      (have_ports plan.table r.memory (width_of (kind_in plan.table r.memory)) (slice_index_or u.ports (first_in plan block + i) []) r.banks (used_there i r h))

  can_show : (i : ℕ) (o : Operation) → slice_get (operations_in plan block) i ≡ Some o → (f : OperationForm) → o.form ≡ f → FormSuits plan (first_in plan block) (kinds_of plan block) f
      → CanShow plan (wires.operation_ports (part_in plan u.ports block) i) (first_in plan block) (kinds_of plan block) f
  can_show i o at (Constant word) is h = h
  can_show i o at (Old register) is h = h
  can_show i o at (Compute op left right) is h = h
  can_show i o at (Convert inner to) is h = h
  can_show i o at (Select test a b) is h = h
  can_show i o at (Check ok fault) is h = tt
  can_show i o at (Probe r fault) is h = tt
  can_show i o at (Read r) is h = (
    kind_sized plan.table r.memory formed.table.entries h.0.memory,
    read_ports i r (record { operation = o; there = at; uses = ap use_in is }),
  )
  can_show i o at (Write r value) is h = tt
  can_show i o at (Set register value) is h = tt

  pub formed_row : IsFormedRow plan (part_in plan u.ports block) (first_in plan block) (operations_in plan block)
  formed_row = record {
    ordered = (formed.blocks block).ordered;
    guards = λ i o at. ((formed.blocks block).suits i o at).guard;
    forms = λ i o at. can_show i o at o.form refl ((formed.blocks block).suits i o at).form;
  }
