-- Choices and registers that are set, and counts of a whole block.
use Rattle.std.proofs.Common.{◌≡◌, ℕ, ◌≤◌, List, None, refl, sym, ◌∙◌, subst, arith}
use Rattle.std.specs.Prelude.{max}
use Rattle.std.specs.List.{AllByRecursion}
use Rattle.std.proofs.lemmas.List.{append_cancel_left}
use Rattle.dh_value.specs.declared.kinds.Kind.TheVariants as kind
use Rattle.dh_plan.specs.declared.operations.Operation.{Operation}
use Rattle.dh_plan.specs.declared.operations.OperationForm.{OperationForm}
use Rattle.dh_plan.specs.declared.operations.OperationForm.TheVariants.{Constant, Old, Compute, Convert, Select, Check, Probe, Read, Write, Set}
use Rattle.dh_plan.specs.declared.operations.Reach.{Reach}
use Rattle.dh_plan.specs.DoneProgram.{block_products, operations_using, probes_among}
use Rattle.dh_plan.specs.PlainPlans.{PlainPlan, operations_in}
use Rattle.dh_expressions.specs.declared.drafts.Draft.{Draft}
use Rattle.dh_expressions.specs.Drafted.{Pushes}
use Rattle.dh_expressions.proofs.Pushing.{pushed_extends}
use Rattle.dh_formed.specs.Commanded.{CommandIs, ConstantsForm, PartsAreCounted, SelectsCount, SelectsForm, SelectsInTime, SetsCount, SetsForm, SetsInTime, WholeCounts}
use Rattle.dh_formed.specs.Counted.{Counts, FormIs, nothing}
use Rattle.dh_formed.specs.Timed.{clock_of}
use Rattle.dh_formed.specs.WholeBlocks.{IsCut}
use Rattle.dh_formed.proofs.PartsCounted.{counts_pushed, counts_same}
use Rattle.dh_formed.proofs.ValuesFormed.{between, constant_forms, forms_pushed, pushed_forms}
use Rattle.dh_formed.proofs.ValuesTimed.{pushed_clock, pushed_within, timed_pushed}

pub constants_form : ConstantsForm
constants_form old new v word fits p = constant_forms old new v word (λ x. Unit {0}) (λ x. word.kind) p (λ x w. fits) (λ x w. refl)

pub selects_form : SelectsForm
selects_form old new v test a b k p =
    forms_pushed old new v (Select test a b) _ k p
    (λ x w. record {
      takes = (between x old kind.Bool test w.0, (between x old (k x) a w.1.0, (between x old (k x) b w.1.1, tt)));
      suits = record { guard = tt; form = (w.0.kind_is, w.1.0.kind_is ∙ sym w.1.1.kind_is) };
    }) (λ x w. w.1.0.kind_is)

pub sets_form : SetsForm
sets_form old new n register value p = record {
  extends = pushed_extends old new n None (Set register value) p;
  forms = λ x a s within h.
      pushed_forms old new n None (Set register value) p x (record { takes = (between x old _ value h, tt); suits = record { guard = tt; form = (within, h.kind_is) } });
}

-- Counts.

pub form_of_command : (Sees Sets : ℕ → Type 0) (Probes Reads Writes : Reach → Type 0) (o : OperationForm) → FormIs Sees Probes Reads Writes o → CommandIs Sees Sets Probes Reads Writes o
form_of_command Sees Sets Probes Reads Writes (Constant word) h = tt
form_of_command Sees Sets Probes Reads Writes (Old register) h = h
form_of_command Sees Sets Probes Reads Writes (Compute o a b) h = tt
form_of_command Sees Sets Probes Reads Writes (Convert inner to) h = tt
form_of_command Sees Sets Probes Reads Writes (Select test a b) h = tt
form_of_command Sees Sets Probes Reads Writes (Check ok fault) h = h
form_of_command Sees Sets Probes Reads Writes (Probe r fault) h = h
form_of_command Sees Sets Probes Reads Writes (Read r) h = h
form_of_command Sees Sets Probes Reads Writes (Write r value) h = h
form_of_command Sees Sets Probes Reads Writes (Set register value) h = absurd h

pub command_counts : (Sees Sets : ℕ → Type 0) (Probes Reads Writes : Reach → Type 0) (old new : Draft) (p : ℕ) (f u : ℕ → ℕ) → Counts old new (FormIs Sees Probes Reads Writes) p f u
    → Counts old new (CommandIs Sees Sets Probes Reads Writes) p f u
command_counts Sees Sets Probes Reads Writes old new p f u h =
    counts_same old new (FormIs Sees Probes Reads Writes) (CommandIs Sees Sets Probes Reads Writes) p p f f u u (λ o w. form_of_command Sees Sets Probes Reads Writes o w) (omega arith) (λ m. refl) (λ m. refl) h

pub parts_are_counted : PartsAreCounted
parts_are_counted old new p f u h = command_counts (λ register. ⊥) (λ register. ⊥) (λ r. ⊥) (λ r. ⊥) (λ r. ⊥) old new p f u h

pub select_counts : (Sees Sets : ℕ → Type 0) (Probes Reads Writes : Reach → Type 0) (old new : Draft) (v test a b : ℕ) → Pushes old new v None (Select test a b)
    → Counts old new (CommandIs Sees Sets Probes Reads Writes) 0 nothing nothing
select_counts Sees Sets Probes Reads Writes old new v test a b p = counts_pushed old new v None (Select test a b) (CommandIs Sees Sets Probes Reads Writes) 0 nothing nothing p tt (omega arith) (λ m. refl) (λ m. refl)

pub set_counts : (Sees Sets : ℕ → Type 0) (Probes Reads Writes : Reach → Type 0) (old new : Draft) (n register value : ℕ) → Sets register → Pushes old new n None (Set register value)
    → Counts old new (CommandIs Sees Sets Probes Reads Writes) 0 nothing nothing
set_counts Sees Sets Probes Reads Writes old new n register value sets p = counts_pushed old new n None (Set register value) (CommandIs Sees Sets Probes Reads Writes) 0 nothing nothing p sets (omega arith) (λ m. refl) (λ m. refl)

pub selects_count : SelectsCount
selects_count old new v test a b p = select_counts (λ register. ⊥) (λ register. ⊥) (λ r. ⊥) (λ r. ⊥) (λ r. ⊥) old new v test a b p

pub sets_count : SetsCount
sets_count old new n register value p = set_counts (λ other. ⊥) (λ other. other ≡ register) (λ r. ⊥) (λ r. ⊥) (λ r. ⊥) old new n register value refl p

-- what was put down since a block began is the block
pub whole_is : (plan : PlainPlan) (block : ℕ) (old new : Draft) (Is : OperationForm → Type 0) (p : ℕ) (f u : ℕ → ℕ) → IsCut plan block old new → (h : Counts old new Is p f u) → h.more ≡ operations_in plan block
whole_is plan block old new Is p f u cut h = append_cancel_left old.operations.items h.more (operations_in plan block) (sym h.adds ∙ cut.operations)

pub whole_counts : (plan : PlainPlan) (block : ℕ) (old new : Draft) (Is : OperationForm → Type 0) (p : ℕ) (f u : ℕ → ℕ) → IsCut plan block old new → Counts old new Is p f u → WholeCounts plan block p f u
whole_counts plan block old new Is p f u cut h =
    let is = whole_is plan block old new Is p f u cut h in
    record {
      products_few = subst (λ (os : List Operation). block_products os ≤ p) is h.products_few;
      probes_are = λ m. subst (λ (os : List Operation). probes_among m os ≡ f m) is (h.probes_are m);
      uses_are = λ m. subst (λ (os : List Operation). operations_using m os ≡ u m) is (h.uses_are m);
    }

pub whole_each : (plan : PlainPlan) (block : ℕ) (old new : Draft) (Is : OperationForm → Type 0) (p : ℕ) (f u : ℕ → ℕ) → IsCut plan block old new → Counts old new Is p f u
    → AllByRecursion (λ o. Is o.form) (operations_in plan block)
whole_each plan block old new Is p f u cut h = subst (λ (os : List Operation). AllByRecursion (λ o. Is o.form) os) (whole_is plan block old new Is p f u cut h) h.each

-- Clocks.

pub selects_in_time : SelectsInTime
selects_in_time old new v test a b i j k p =
    timed_pushed old new v (Select test a b) _ (λ c. max (i c) (max (j c) (k c))) p refl
    (λ c w. three (clock_of c test) (clock_of c a) (clock_of c b) (i c) (j c) (k c) w.0 w.1.0 w.1.1)
  where
    three : (l m n x y z : ℕ) → l ≡ x → m ≡ y → n ≡ z → max l (max m (max n 0)) ≡ max x (max y z)
    three l m n x y z e f g = omega (arith, e, f, g)

pub sets_in_time : SetsInTime
sets_in_time old new n register value c level p agree started at =
    pushed_within old new n None (Set register value) p c level (few (clock_of c n) (clock_of c value) (pushed_clock old new n None (Set register value) p c agree started) at)
  where
    few : (m v : ℕ) → m ≡ max v 0 → v ≡ level → m ≤ level
    few m v e f = omega (arith, e, f)
