-- What well-formed blocks do keeps kinds: each register is set to a value of its own kind, and each write puts a value
-- of its memory's kind where its access leads, which is in that memory. So registers and memories fit behind a step.
use Rattle.std.proofs.Common.{◌≡◌, ℕ, zero, suc, ◌-◌, ◌<◌, ◌^◌, Some, None, List, refl, sym, subst, ◌∙◌}
use Rattle.std.specs.Prelude.{[], ◌∷◌, ◌++◌, slice_get, slice_set, slice_index_or, Option}
use Rattle.std.specs.List.{AllByRecursion}
use Rattle.std.proofs.lemmas.List.{length-set}
use Rattle.dh_value.specs.declared.kinds.Kind.{Kind}
use Rattle.dh_value.specs.declared.words.Word.{Word}
use Rattle.dh_value.specs.Operations.{is_true}
use Rattle.dh_value.specs.Words.{width_of}
use Rattle.dh_tree.specs.declared.tables.MemEntry.{MemEntry}
use Rattle.dh_tree.specs.Elements.{Spot}
use Rattle.dh_tree.specs.Tables.{Fits, FitsEntry}
use Rattle.dh_meaning.specs.Effects.{kind_in, put_element}
use Rattle.dh_plan.specs.declared.operations.Operation.{Operation}
use Rattle.dh_plan.specs.declared.operations.OperationForm.{OperationForm}
use Rattle.dh_plan.specs.declared.operations.OperationForm.TheVariants.{Constant, Old, Compute, Convert, Select, Check, Probe, Read, Write, Set}
use Rattle.dh_plan.specs.PlainPlans.{PlainPlan, first_in, operations_in}
use Rattle.dh_plan.specs.Blocks.{StepStart, kind_at, is_on, word_at, spot_of_reach, in_memories, BlockEvent, fails, puts, fails_outside, puts_inside, operation_form_events, operation_events, block_events, RegisterSet, form_sets, operation_sets, block_sets, Put, puts_of, all_put, all_set}
use Rattle.dh_plan.specs.Correspondence.{FitKinds}
use Rattle.dh_plan.specs.PlanKinds.{kind_of_value, kinds_of, FormSuits, OperationSuits, IsFormedBlock}
use Rattle.dh_plan.specs.PlanRuns.{start_at, block_values, events_of_block, sets_of_block, step_events, step_sets}
use Rattle.dh_plan.proofs.JointEnters.{set_fits}
use Rattle.dh_plan.proofs.FittingValues.{pick, LeadsIntoMemory, reach_leads, memories_look_fit, ArePaired, pair_at, block_paired}

pub all_joined : {A : Type 0} (P : A → Type 0) (xs ys : List A) → AllByRecursion P xs → AllByRecursion P ys → AllByRecursion P (xs ++ ys)
all_joined P [] ys h g = g
all_joined P (x ∷ xs) ys h g = (h.0, all_joined P xs ys h.1 g)

-- What is set and put is small.

abbrev pub SetFits : List Kind → RegisterSet → Type 0
SetFits kinds s = s.bits < 2 ^ width_of (kind_at kinds s.register)

abbrev pub EventFits : List MemEntry → BlockEvent → Type 0
EventFits table (fails fault) = Unit {0}
EventFits table (puts spot bits) = bits < 2 ^ width_of (kind_in table spot.memory)

abbrev pub PutFits : List MemEntry → Put → Type 0
PutFits table p = p.bits < 2 ^ width_of (kind_in table p.spot.memory)

-- the bits of a value that has a kind
of_kind : (k l : Kind) (w : Word) → k ≡ l → w.bits < 2 ^ width_of k → w.bits < 2 ^ width_of l
of_kind k l w same small = subst (λ (x : Kind). w.bits < 2 ^ width_of x) same small

put_there : (table : List MemEntry) (memory bits : ℕ) (o : Option Spot) → LeadsIntoMemory memory o → bits < 2 ^ width_of (kind_in table memory) → AllByRecursion (EventFits table) (puts_inside bits o)
put_there table memory bits None h small = tt
put_there table memory bits (Some spot) h small = (subst (λ (m : ℕ). bits < 2 ^ width_of (kind_in table m)) (sym h) small, tt)

outside_fits : (table : List MemEntry) (fault : ℕ) (o : Option Spot) → AllByRecursion (EventFits table) (fails_outside fault o)
outside_fits table fault None = (tt, tt)
outside_fits table fault (Some spot) = tt

module _ (plan : PlainPlan) (s : StepStart) (first : ℕ) (kinds : List Kind) (ws : List Word) (h : ArePaired kinds ws) where
  form_sets_fit : (f : OperationForm) → FormSuits plan first kinds f → AllByRecursion (SetFits plan.registers) (form_sets first ws f)
  form_sets_fit (Constant word) suits = tt
  form_sets_fit (Old register) suits = tt
  form_sets_fit (Compute op left right) suits = tt
  form_sets_fit (Convert inner to) suits = tt
  form_sets_fit (Select test a b) suits = tt
  form_sets_fit (Check ok fault) suits = tt
  form_sets_fit (Probe r fault) suits = tt
  form_sets_fit (Read r) suits = tt
  form_sets_fit (Write r value) suits = tt
  form_sets_fit (Set register value) suits =
      (of_kind (kind_of_value first kinds value) (kind_at plan.registers register) (word_at first ws value) suits.1 (pair_at kinds ws h (value - first)).small, tt)

  pub sets_fit : (os : List Operation) → ((i : ℕ) (o : Operation) → slice_get os i ≡ Some o → OperationSuits plan first kinds o) → AllByRecursion (SetFits plan.registers) (block_sets first ws os)
  sets_fit [] suits = tt
  sets_fit (o ∷ os) suits =
      all_joined (SetFits plan.registers) (operation_sets first ws o) (block_sets first ws os)
      (pick (AllByRecursion (SetFits plan.registers)) (is_on first ws o.guard) (form_sets first ws o.form) [] (form_sets_fit o.form (suits 0 o refl).form) tt)
      (sets_fit os (λ i p there. suits (suc i) p there))

  form_events_fit : (f : OperationForm) → FormSuits plan first kinds f → AllByRecursion (EventFits plan.table) (operation_form_events s first ws f)
  form_events_fit (Constant word) suits = tt
  form_events_fit (Old register) suits = tt
  form_events_fit (Compute op left right) suits = tt
  form_events_fit (Convert inner to) suits = tt
  form_events_fit (Select test a b) suits = tt
  form_events_fit (Check ok fault) suits = pick (AllByRecursion (EventFits plan.table)) (is_true (word_at first ws ok)) [] (fails fault ∷ []) tt (tt, tt)
  form_events_fit (Probe r fault) suits = outside_fits plan.table fault (spot_of_reach s first ws r)
  form_events_fit (Read r) suits = tt
  form_events_fit (Write r value) suits =
      put_there plan.table r.memory (word_at first ws value).bits (spot_of_reach s first ws r) (reach_leads s first ws r)
      (of_kind (kind_of_value first kinds value) (kind_in plan.table r.memory) (word_at first ws value) suits.1.1 (pair_at kinds ws h (value - first)).small)
  form_events_fit (Set register value) suits = tt

  pub events_fit : (os : List Operation) → ((i : ℕ) (o : Operation) → slice_get os i ≡ Some o → OperationSuits plan first kinds o) → AllByRecursion (EventFits plan.table) (block_events s first ws os)
  events_fit [] suits = tt
  events_fit (o ∷ os) suits =
      all_joined (EventFits plan.table) (operation_events s first ws o) (block_events s first ws os)
      (pick (AllByRecursion (EventFits plan.table)) (is_on first ws o.guard) (operation_form_events s first ws o.form) [] (form_events_fit o.form (suits 0 o refl).form) tt)
      (events_fit os (λ i p there. suits (suc i) p there))

-- Steps of several blocks.

module _ (plan : PlainPlan) (formed : (block : ℕ) → IsFormedBlock plan block) (registers : List ℕ) (memories : List (List ℕ))
    (fit : FitKinds plan.registers registers) (fits : Fits plan.table memories) where
  paired : (block : ℕ) → ArePaired (kinds_of plan block) (block_values plan (start_at plan registers memories) block)
  paired block =
      block_paired plan block registers memories (in_memories (start_at plan registers memories) (first_in plan block)) (formed block) fit
      (memories_look_fit plan registers memories (first_in plan block) fits)

  pub step_sets_fit : (blocks : List ℕ) → AllByRecursion (SetFits plan.registers) (step_sets plan (start_at plan registers memories) blocks)
  step_sets_fit [] = tt
  step_sets_fit (b ∷ bs) =
      all_joined (SetFits plan.registers) (sets_of_block plan (start_at plan registers memories) b) (step_sets plan (start_at plan registers memories) bs)
      (sets_fit plan (start_at plan registers memories) (first_in plan b) (kinds_of plan b) (block_values plan (start_at plan registers memories) b) (paired b) (operations_in plan b) (formed b).suits)
      (step_sets_fit bs)

  pub step_events_fit : (blocks : List ℕ) → AllByRecursion (EventFits plan.table) (step_events plan (start_at plan registers memories) blocks)
  step_events_fit [] = tt
  step_events_fit (b ∷ bs) =
      all_joined (EventFits plan.table) (events_of_block plan (start_at plan registers memories) b) (step_events plan (start_at plan registers memories) bs)
      (events_fit plan (start_at plan registers memories) (first_in plan b) (kinds_of plan b) (block_values plan (start_at plan registers memories) b) (paired b) (operations_in plan b) (formed b).suits)
      (step_events_fit bs)

-- Registers and memories behind them.

pub all_set_fit : (kinds : List Kind) (ss : List RegisterSet) (registers : List ℕ) → AllByRecursion (SetFits kinds) ss → FitKinds kinds registers → FitKinds kinds (all_set ss registers)
all_set_fit kinds [] registers h fit = fit
all_set_fit kinds (s ∷ ss) registers h fit = all_set_fit kinds ss (slice_set registers s.register s.bits) h.1 (set_fits kinds registers s.register s.bits fit h.0)

pub puts_fit : (table : List MemEntry) (es : List BlockEvent) → AllByRecursion (EventFits table) es → AllByRecursion (PutFits table) (puts_of es)
puts_fit table [] h = tt
puts_fit table (fails fault ∷ es) h = puts_fit table es h.1
puts_fit table (puts spot bits ∷ es) h = (h.0, puts_fit table es h.1)

items_below : (m : ℕ) (xs : List ℕ) → AllByRecursion (λ v. v < m) xs → (i v : ℕ) → v < m → AllByRecursion (λ v. v < m) (slice_set xs i v)
items_below m [] all i v small = all
items_below m (x ∷ xs) all zero v small = (small, all.1)
items_below m (x ∷ xs) all (suc i) v small = (all.0, items_below m xs all.1 i v small)

-- a memory with one element set is as long, and its elements fit
element_put : (e : MemEntry) (values : List ℕ) (position v : ℕ) → v < 2 ^ width_of e.shape.kind → FitsEntry e values → FitsEntry e (slice_set values position v)
element_put e values position v small h =
    record { long = length-set values position v ∙ h.long; small = items_below (2 ^ width_of e.shape.kind) values h.small position v small }

-- memories with one element set to a value of its memory's kind; what is no element changes nothing
put_in : (table : List MemEntry) (memories : List (List ℕ)) (m position v : ℕ) → v < 2 ^ width_of (kind_in table m) → Fits table memories
    → Fits table (slice_set memories m (slice_set (slice_index_or memories m []) position v))
put_in [] [] m position v small fits = tt
put_in [] (x ∷ xs) m position v small fits = absurd fits
put_in (e ∷ es) [] m position v small fits = absurd fits
put_in (e ∷ es) (x ∷ xs) zero position v small fits = (element_put e x position v small fits.0, fits.1)
put_in (e ∷ es) (x ∷ xs) (suc m) position v small fits = (fits.0, put_in es xs m position v small fits.1)

pub all_put_fit : (table : List MemEntry) (ps : List Put) (memories : List (List ℕ)) → AllByRecursion (PutFits table) ps → Fits table memories → Fits table (all_put ps memories)
all_put_fit table [] memories h fits = fits
all_put_fit table (p ∷ ps) memories h fits =
    all_put_fit table ps (put_element memories p.spot p.bits) h.1 (put_in table memories p.spot.memory p.spot.position p.bits h.0 fits)
