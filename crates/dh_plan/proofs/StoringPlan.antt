-- The plan of three stores does the phases of its program, runs as it, and keeps its banks: so none of these
-- definitions is empty. All values are constants, so that each fact is computed, whatever registers and memories hold.
use Rattle.std.proofs.Common.{◌≡◌, ℕ, zero, suc, ◌<◌, ◌≤◌, inl, inr, Some, None, List, refl, sym, ap, subst, ◌∙◌, arith}
use Rattle.std.specs.Prelude.{[], ◌∷◌, ◌||◌, Bool, true, false, slice_get, Option}
use Rattle.dh_base.specs.declared.outcomes.Outcome.TheVariants.{Going, Ended, Stuck}
use Rattle.dh_tree.specs.Elements.{Spot}
use Rattle.dh_meaning.specs.Runs.{RunState, next_state, run_state}
use Rattle.dh_plan.specs.declared.operations.Operation.{Operation}
use Rattle.dh_plan.specs.declared.operations.OperationForm.{OperationForm}
use Rattle.dh_plan.specs.declared.operations.OperationForm.TheVariants.{Old, Set}
use Rattle.dh_plan.specs.declared.operations.Reach.{Reach}
use Rattle.dh_plan.specs.Blocks.{spot_of_reach}
use Rattle.dh_plan.specs.DoneProgram.{NeverStuck, RunsAs}
use Rattle.dh_plan.specs.ExamplePlans.{by_indices, one_bank}
use Rattle.dh_plan.specs.ExamplePrograms.{storing_program, storing_plan, no_slots}
use Rattle.dh_plan.specs.PlainPlans.{operations_in, first_in}
use Rattle.dh_plan.specs.PlanPhases.{DoesPhases}
use Rattle.dh_plan.specs.PlanRuns.{start_at, block_values}
use Rattle.dh_plan.specs.SoundPlans.{use_in, IsListed, KeepsBanks, Reaches, StepsKeepBanks}
use Rattle.dh_plan.proofs.SourceMoves.{or_left, or_right}
use Rattle.dh_plan.proofs.JointSteps.{phases_make_runs}

-- Operations that a block has not.

abbrev pub any_of : (Operation → Bool) → List Operation → Bool
any_of t [] = false
any_of t (o ∷ os) = t o || any_of t os

pub absent : (t : Operation → Bool) (os : List Operation) → any_of t os ≡ false → (i : ℕ) (o : Operation) → slice_get os i ≡ Some o → t o ≡ false
absent t [] h i o e = absurd (cc)
absent t (p ∷ os) h zero o e =
    let same : Some p ≡ Some o = e in
    let here : p ≡ o = cc in
    subst (λ (q : Operation). t q ≡ false) here (or_left (t p) (any_of t os) h)
absent t (p ∷ os) h (suc i) o e = absent t os (or_right (t p) (any_of t os) h) i o e

abbrev pub form_old : OperationForm → Bool
form_old (Old register) = true
form_old _ = false

abbrev pub form_set : OperationForm → Bool
form_set (Set register value) = true
form_set _ = false

pub never_old : (i : ℕ) (guard : Option ℕ) (register : ℕ) → slice_get (operations_in storing_plan 0) i ≡ Some (record { guard = guard; form = Old register }) → ⊥
never_old i guard register e =
    let f : true ≡ false = absent (λ (o : Operation). form_old o.form) (operations_in storing_plan 0) refl i (record { guard = guard; form = Old register }) e in
    (cc)

pub never_set : (block i : ℕ) (guard : Option ℕ) (register value : ℕ) → slice_get (operations_in storing_plan block) i ≡ Some (record { guard = guard; form = Set register value }) → ⊥
never_set zero i guard register value e =
    let f : true ≡ false = absent (λ (o : Operation). form_set o.form) (operations_in storing_plan 0) refl i (record { guard = guard; form = Set register value }) e in
    (cc)
never_set (suc block) i guard register value e = absurd (cc)

-- Phases and runs.

pub storing_phases : DoesPhases storing_plan no_slots storing_program.phases
storing_phases = (
  (
    refl,
    (
      record { iterator = λ path. refl; counter_apart = λ entity path h. (cc); own_counter = λ h. h; own_iterator = λ h. h },
      (
        (
          (λ registers memories variables st. record { fault = tt; writes = λ none. refl; fit = λ none. st.fit; holding = λ none entity path r slot. absurd (cc) }),
          record {
            sees = λ i guard register e. absurd (never_old i guard register e);
            sets = λ i guard register value e. absurd (never_set 0 i guard register value e);
            spares = λ entity h. refl;
          },
        ),
        tt,
      ),
    ),
  ),
  tt,
)

pub over_since : (memories : List (List ℕ)) (n : ℕ) → run_state storing_program memories (suc (suc (suc n))) ≡ run_state storing_program memories 3
over_since memories zero = refl
over_since memories (suc n) = ap (λ (s : RunState). next_state storing_program.table s) (over_since memories n)

pub storing_goes : NeverStuck storing_program
storing_goes memories zero memory bank p e = (let f : Going ≡ Stuck memory bank p = e in cc)
storing_goes memories (suc zero) memory bank p e = (let f : Going ≡ Stuck memory bank p = e in cc)
storing_goes memories (suc (suc zero)) memory bank p e = (let f : Going ≡ Stuck memory bank p = e in cc)
storing_goes memories (suc (suc (suc n))) memory bank p e =
    (let f : Ended ≡ Stuck memory bank p = sym (ap (λ (s : RunState). s.outcome) (over_since memories n)) ∙ e in cc)

pub storing_runs : RunsAs storing_program storing_plan
storing_runs =
    phases_make_runs storing_program storing_plan no_slots refl
    (((let small : 0 < 1 = omega arith in small), (2, (refl, (let few : 3 ≤ 4 = omega arith in few)))), tt)
    ((λ block i guard value e. never_set block i guard 0 value e), tt)
    storing_phases storing_goes

-- Banks.

abbrev pub the_write : Reach
the_write = by_indices 0 0 (1 ∷ []) one_bank

-- an operation without a use, and one with this use
pub none_used : (p o : Operation) (r : Reach) → Some p ≡ Some o → use_in p.form ≡ None → use_in o.form ≡ Some r → ⊥
none_used p o r e none u =
    let here : p ≡ o = cc in
    let f : None ≡ Some r = sym none ∙ (ap (λ (q : Operation). use_in q.form) here ∙ u) in
    (cc)

pub write_is : (p o : Operation) (r : Reach) → Some p ≡ Some o → use_in p.form ≡ Some the_write → use_in o.form ≡ Some r → the_write ≡ r
write_is p o r e used u =
    let here : p ≡ o = cc in
    let f : Some the_write ≡ Some r = sym used ∙ (ap (λ (q : Operation). use_in q.form) here ∙ u) in
    (cc)

pub write_found : (i : ℕ) (o : Operation) (r : Reach) → slice_get (operations_in storing_plan 0) i ≡ Some o → use_in o.form ≡ Some r → (i ≡ 3) × (the_write ≡ r)
write_found zero o r e u = absurd (none_used _ o r e refl u)
write_found (suc zero) o r e u = absurd (none_used _ o r e refl u)
write_found (suc (suc zero)) o r e u = absurd (none_used _ o r e refl u)
write_found (suc (suc (suc zero))) o r e u = (refl, write_is _ o r e refl u)
write_found (suc (suc (suc (suc i)))) o r e u = absurd (cc)

-- an operation that reaches a bank is the write, of block 0
pub record IsTheWrite (b i : ℕ) (r : Reach) (spot : Spot) : Type 0 where
  pub block : b ≡ 0
  pub place : i ≡ 3
  pub reach : the_write ≡ r
  pub bank : spot.bank ≡ 0

pub bank_is : (a b : Spot) → Some a ≡ Some b → a.bank ≡ b.bank
bank_is a b e =
    let here : a ≡ b = cc in
    ap (λ (x : Spot). x.bank) here

-- where the write leads
pub write_leads : (registers : List ℕ) (memories : List (List ℕ)) (spot : Spot)
    → spot_of_reach (start_at storing_plan registers memories) 0 (block_values storing_plan (start_at storing_plan registers memories) 0) the_write ≡ Some spot → spot.bank ≡ 0
write_leads registers memories spot e = sym (bank_is _ spot e)

pub reaches_by_write : (registers : List ℕ) (memories : List (List ℕ)) (b i : ℕ) (r : Reach) (spot : Spot)
    → Reaches storing_plan (start_at storing_plan registers memories) (0 ∷ []) b i r spot → IsTheWrite b i r spot
reaches_by_write registers memories b i r spot x =
    let s = start_at storing_plan registers memories in
    let here : b ≡ 0 = (elim x.active [ inl same ↦ same | inr none ↦ absurd none ]) in
    let there = subst (λ (c : ℕ). slice_get (operations_in storing_plan c) i ≡ Some x.operation) here x.there in
    let found = write_found i x.operation r there x.uses in
    let leads = subst (λ (c : ℕ). spot_of_reach s (first_in storing_plan c) (block_values storing_plan s c) r ≡ Some spot) here x.leads in
    let leads_so = subst (λ (q : Reach). spot_of_reach s 0 (block_values storing_plan s 0) q ≡ Some spot) (sym found.1) leads in
    record { block = here; place = found.0; reach = found.1; bank = write_leads registers memories spot leads_so }

pub keeps_banks : (registers : List ℕ) (memories : List (List ℕ)) → KeepsBanks storing_plan (start_at storing_plan registers memories) (0 ∷ [])
keeps_banks registers memories =
    let w = reaches_by_write registers memories in
    record {
      listed = λ b i r spot x.
          (0, subst (λ (q : Reach). IsListed spot.bank 0 q.banks) (w b i r spot x).reach (subst (λ (k : ℕ). IsListed k 0 the_write.banks) (sym (w b i r spot x).bank) (inl (refl, refl))));
      never = λ b i c j r t x y first second apart. apart;
      placed = λ b i c j place r t x y first second same bank in_first in_second.
          ((w b i r x first).block ∙ sym (w c j t y second).block, (w b i r x first).place ∙ sym (w c j t y second).place);
      ordered = λ b i c j r t x y first second bank write_first write_second before.
          absurd (elim before [
            | inl blocks ↦ elim blocks [ inl a ↦ a.1 | inr none ↦ none ]
            | inr places ↦ (let p = (w b i r x first).place in let q = (w c j t y second).place in let less = places.1 in omega (arith, p, q, less))
          ]);
    }

pub storing_keeps_banks : StepsKeepBanks storing_plan
storing_keeps_banks blocks loops h registers memories fit fits below =
    let one : blocks ≡ 0 ∷ [] = (elim h [
      | inl inside ↦ elim inside [ inl here ↦ here.0 | inr none ↦ absurd none ]
      | inr none ↦ absurd none
    ]) in
    subst (λ (bs : List ℕ). KeepsBanks storing_plan (start_at storing_plan registers memories) bs) (sym one) (keeps_banks registers memories)
