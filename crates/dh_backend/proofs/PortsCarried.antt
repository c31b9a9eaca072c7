-- The plan of a program that keeps its ports keeps its own: a set of accesses of which any two may meet in the plan is
-- one of the program, where each charges no less; and no access charges a memory that is not there.
use Rattle.std.proofs.Common.{◌≡◌, inl, inr, ℕ, suc, ◌<◌, ◌≤◌, ◌==◌, ◌&&◌, max, Bool, true, false, if◌then◌else◌, List, [], ◌∷◌, length, Option, Some, None, option_map, refl, sym, ap, ◌∙◌, subst, arith}
use Rattle.std.specs.Prelude.{slice_get}
use Rattle.std.proofs.lemmas.List.{length-map}
use Rattle.std.proofs.lemmas.Option.{slice_get-map, slice_get_cases}
use Rattle.std.proofs.lemmas.Bool.Decides.{nat_tests}
use Rattle.dh_value.specs.declared.kinds.Kind.{Kind}
use Rattle.dh_tree.specs.declared.tables.MemEntry.{MemEntry}
use Rattle.dh_tree.specs.Elements.{entry_ports, ports_at}
use Rattle.dh_tree.specs.Meets.{Meets, Together, total}
use Rattle.dh_tree.specs.Memories.{Memory, memories_of, entry_of, table_of}
use Rattle.dh_tree.specs.PlainTrees.{Program}
use Rattle.dh_meets.specs.Charges.{charge}
use Rattle.dh_meets.specs.MayMeet.{meets_in}
use Rattle.dh_meets.specs.Ports.{ports_or_zero, ports_of_entity, KeepsPorts}
use Rattle.dh_plan.specs.declared.operations.Operation.{Operation}
use Rattle.dh_plan.specs.declared.operations.OperationForm.{OperationForm}
use Rattle.dh_plan.specs.declared.operations.OperationForm.TheVariants.{Constant, Old, Compute, Convert, Select, Check, Probe, Read, Write, Set}
use Rattle.dh_plan.specs.declared.operations.PlanBlock.{PlanBlock}
use Rattle.dh_plan.specs.declared.operations.Reach.{Reach}
use Rattle.dh_plan.specs.DoneProgram.{MeetsAs, IsPlanOf}
use Rattle.dh_plan.specs.PlainPlans.{PlainPlan, first_in, block_operations, operations_in}
use Rattle.dh_plan.specs.PlanKinds.{FormSuits, IsFormedBlock, kinds_of}
use Rattle.dh_plan.specs.SoundPlans.{use_in, place_charge, use_charge, operations_charge, blocks_charge, plan_charge}
use Rattle.dh_backend.specs.PlanLaws.{PlansKeepPorts, AddressesKeepPorts}
use Rattle.dh_backend.proofs.MemoriesRise.{IsOfEntity, memory_of_place}
use Rattle.dh_backend.proofs.TotalsWithin.{both_true, has_in, less_total, none_total, chosen_in, within_total}

-- Memories that are not there.

-- what an operation reads or writes is of a memory that is there
form_used : (plan : PlainPlan) (first : ℕ) (kinds : List Kind) (f : OperationForm) → FormSuits plan first kinds f
    → (r : Reach) → use_in f ≡ Some r → r.memory < length plan.table
form_used plan first kinds (Constant word) h r e = absurd cc
form_used plan first kinds (Old register) h r e = absurd cc
form_used plan first kinds (Compute op left right) h r e = absurd cc
form_used plan first kinds (Convert inner to) h r e = absurd cc
form_used plan first kinds (Select test a b) h r e = absurd cc
form_used plan first kinds (Check ok fault) h r e = absurd cc
form_used plan first kinds (Probe s fault) h r e = absurd cc
form_used plan first kinds (Read s) h r e = let same : s ≡ r = cc in subst (λ (x : Reach). x.memory < length plan.table) same h.0.memory
form_used plan first kinds (Write s value) h r e = let same : s ≡ r = cc in subst (λ (x : Reach). x.memory < length plan.table) same h.0.memory
form_used plan first kinds (Set register value) h r e = absurd cc

never_other : (x : Bool) (n : ℕ) → (if x && false then n else 0) ≡ 0
never_other true n = refl
never_other false n = refl

use_none : (access memory bank long : ℕ) (used : Option Reach) → ((r : Reach) → used ≡ Some r → r.memory < long) → long ≤ memory → use_charge access memory bank used ≡ 0
use_none access memory bank long None h past = refl
use_none access memory bank long (Some r) h past =
    let inside = h r refl in
    let t : (r.memory == memory) ≡ false = grind (arith, nat_tests, inside, past) in
    ap (λ x. if (r.access == access) && x then place_charge bank r.banks else 0) t ∙ never_other (r.access == access) (place_charge bank r.banks)

operations_none : (access memory bank : ℕ) (os : List Operation) → ((i : ℕ) (o : Operation) → slice_get os i ≡ Some o → use_charge access memory bank (use_in o.form) ≡ 0)
    → operations_charge access memory bank os ≡ 0
operations_none access memory bank [] h = refl
operations_none access memory bank (o ∷ os) h =
    let x = h 0 o refl in
    let y = operations_none access memory bank os (λ i p e. h (suc i) p e) in
    let z : max 0 0 ≡ 0 = refl in
    ap (λ n. max n (operations_charge access memory bank os)) x ∙ (ap (max 0) y ∙ z)

blocks_none : (access memory bank : ℕ) (bs : List PlanBlock) → ((b : ℕ) → operations_charge access memory bank (block_operations (slice_get bs b)) ≡ 0)
    → blocks_charge access memory bank bs ≡ 0
blocks_none access memory bank [] h = refl
blocks_none access memory bank (b ∷ bs) h =
    let x = h 0 in
    let y = blocks_none access memory bank bs (λ i. h (suc i)) in
    let z : max 0 0 ≡ 0 = refl in
    ap (λ n. max n (blocks_charge access memory bank bs)) x ∙ (ap (max 0) y ∙ z)

pub past_none : (plan : PlainPlan) → ((block : ℕ) → IsFormedBlock plan block) → (memory bank : ℕ) → length plan.table ≤ memory → (access : ℕ) → plan_charge plan memory bank access ≡ 0
past_none plan formed memory bank past access =
    blocks_none access memory bank plan.blocks (λ b. operations_none access memory bank (operations_in plan b)
    (λ i o e. use_none access memory bank (length plan.table) (use_in o.form)
    (form_used plan (first_in plan b) (kinds_of plan b) o.form ((formed b).suits i o e).form) past))

-- Sets of accesses.

-- a set of the plan is one of the program
in_program : (p : Program) (plan : PlainPlan) → MeetsAs p plan → (chosen : ℕ → Bool) → Together plan.meets chosen → Together (meets_in p) (chosen_in chosen plan.meets)
in_program p plan meets chosen together a b x y apart =
    let l = both_true (chosen a) _ x in
    let r = both_true (chosen b) _ y in
    together a b l.0 r.0 ((meets.apart a b (has_in a plan.meets l.1) (has_in b plan.meets r.1)).1 apart)

-- the ports of a memory by its place, and by its entity
ports_alike : (p : Program) (table : List MemEntry) → table ≡ table_of p → (memory : ℕ) (m : Memory) → slice_get (memories_of p) memory ≡ Some m
    → (of : IsOfEntity 0 memory m (memories_of p)) → ports_of_entity p of.entity ≡ ports_at table memory
ports_alike p table same memory m e of =
    ap ports_or_zero of.found
    ∙ sym (ap (λ (t : List MemEntry). ports_at t memory) same
    ∙ ap entry_ports (slice_get-map entry_of (memories_of p) memory ∙ ap (option_map entry_of) e))

inside_kept : (p : Program) (plan : PlainPlan) → KeepsPorts p → IsPlanOf p plan → (memory : ℕ) (m : Memory) → slice_get (memories_of p) memory ≡ Some m
    → IsOfEntity 0 memory m (memories_of p) → (chosen : ℕ → Bool) → Together plan.meets chosen → (bank : ℕ)
    → total (plan_charge plan memory bank) chosen plan.meets ≤ ports_at plan.table memory
inside_kept p plan keeps of memory m e entity chosen together bank =
    let c = charge p entity.entity bank in
    let less = less_total (plan_charge plan memory bank) c (λ a. of.charges entity.entity memory bank a entity.number) chosen plan.meets in
    let within = within_total c chosen (meets_in p) plan.meets of.sound.formed.distinct of.meets.known in
    let most = keeps (chosen_in chosen plan.meets) (in_program p plan of.meets chosen together) entity.entity bank in
    let ports = ports_alike p plan.table of.table memory m e entity in
    omega (arith, less, within, most, ports)

pub outside_kept : (plan : PlainPlan) → ((block : ℕ) → IsFormedBlock plan block) → (memory : ℕ) → length plan.table ≤ memory
    → (chosen : ℕ → Bool) → (bank : ℕ) → total (plan_charge plan memory bank) chosen plan.meets ≤ ports_at plan.table memory
outside_kept plan formed memory past chosen bank =
    let less = less_total (plan_charge plan memory bank) (λ a. 0) (λ a. let x = past_none plan formed memory bank past a in omega (arith, x)) chosen plan.meets in
    let none = none_total chosen plan.meets in
    omega (arith, less, none)

pub plans_keep_ports : (p : Program) → PlansKeepPorts p
plans_keep_ports p plan ready rules of chosen together memory bank =
    elim (slice_get_cases (memories_of p) memory).1 [
      | inl (m, within, there, is) ↦ inside_kept p plan rules.ports of memory m there (memory_of_place p ready memory m there) chosen together bank
      | inr (past, none) ↦ (
          let long = ap length of.table in
          let mapped = length-map (memories_of p) entry_of in
          outside_kept plan of.sound.formed.blocks memory (omega (arith, long, mapped, past)) chosen bank)
    ]

pub addresses_keep_ports : AddressesKeepPorts
addresses_keep_ports plan q a keeps chosen together memory bank =
    let less = less_total (plan_charge q memory bank) (plan_charge plan memory bank) (λ n. let e = a.charges memory bank n in omega (arith, e)) chosen q.meets in
    let most = keeps chosen (subst (λ (t : Meets). Together t chosen) a.meets together) memory bank in
    let moved = ap (total (plan_charge plan memory bank) chosen) a.meets in
    let ports = ap (λ (t : List MemEntry). ports_at t memory) a.table in
    omega (arith, less, most, moved, ports)
