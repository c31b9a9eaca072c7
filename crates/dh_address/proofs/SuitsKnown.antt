-- That an operation suits the kinds of what it takes depends on these kinds alone.
use Rattle.std.proofs.Common.{◌≡◌, ℕ, Some, None, List, sym, subst, ◌∙◌}
use Rattle.std.specs.Prelude.{[], ◌∷◌, ◌++◌, Option, slice_get}
use Rattle.std.specs.List.{AllByRecursion}
use Rattle.dh_value.specs.declared.kinds.Kind.{Kind}
use Rattle.dh_value.specs.declared.kinds.Kind.TheVariants as kind
use Rattle.dh_value.specs.Words.{IsInteger}
use Rattle.dh_value.specs.Operations.{Suits}
use Rattle.dh_tree.specs.declared.tables.Dim.{Dim}
use Rattle.dh_plan.specs.declared.operations.Operation.{Operation}
use Rattle.dh_plan.specs.declared.operations.OperationForm.{OperationForm}
use Rattle.dh_plan.specs.declared.operations.OperationForm.TheVariants.{Constant, Old, Compute, Convert, Select, Check, Probe, Read, Write, Set}
use Rattle.dh_plan.specs.declared.operations.Reach.{Reach}
use Rattle.dh_plan.specs.declared.operations.ReachStep.{ReachStep}
use Rattle.dh_tree.specs.declared.viewing.ViewMap.{ViewMap}
use Rattle.dh_plan.specs.Ordered.{one_or_none, offsets_taken, reach_takes, form_takes, operation_takes}
use Rattle.dh_plan.specs.PlainPlans.{PlainPlan}
use Rattle.dh_plan.specs.PlanKinds.{kind_of_value, IsCount, StepFits, AreSteps, NamesElement, ReachSuits, PicksBank, FormSuits, OperationSuits}
use Rattle.dh_plan.proofs.ValuesAlike.{all_left, all_right}

-- of each one, what follows from two facts
pub all_two : {A : Type 0} (P Q R : A → Type 0) (xs : List A) → ((a : A) → P a → Q a → R a) → AllByRecursion P xs → AllByRecursion Q xs → AllByRecursion R xs
all_two P Q R [] f h k = tt
all_two P Q R (x ∷ xs) f h k = (f x h.0 k.0, all_two P Q R xs f h.1 k.1)

module _ (p : PlainPlan) (first : ℕ) (ks ls : List Kind) where
  abbrev pub SameKind : ℕ → Type 0
  SameKind v = kind_of_value first ls v ≡ kind_of_value first ks v

  number_known : (v : ℕ) → IsInteger (kind_of_value first ks v) → SameKind v → IsInteger (kind_of_value first ls v)
  number_known v h e = subst (λ (k : Kind). IsInteger k) (sym e) h

  count_known : (v : ℕ) → IsCount p first ks v → SameKind v → IsCount p first ls v
  count_known v h e = (h.0, e ∙ h.1)

  truth_known : (v : ℕ) → kind_of_value first ks v ≡ kind.Bool → SameKind v → kind_of_value first ls v ≡ kind.Bool
  truth_known v h e = e ∙ h

  steps_known : (memory : ℕ) (steps : List ReachStep) (dims : List Dim) → AreSteps p first ks memory steps dims → AreSteps p first ls memory steps dims
  steps_known memory [] dims h = h
  steps_known memory (s ∷ ss) dims h = fits (slice_get p.views s.view) h (λ ds. steps_known memory ss ds)
    where
      fits : (o : Option ViewMap) → StepFits p first ks s.offsets o dims (AreSteps p first ks memory ss)
          → ((ds : List Dim) → AreSteps p first ks memory ss ds → AreSteps p first ls memory ss ds) → StepFits p first ls s.offsets o dims (AreSteps p first ls memory ss)
      fits None h more = absurd h
      fits (Some v) h more = (h.0, (h.1.0, more v.parent.dims h.1.1))

  element_known : (r : Reach) (row : Option ℕ) → NamesElement p first ks r row → NamesElement p first ls r row
  element_known r None h = (h.0, (h.1.0, steps_known r.memory r.steps h.0 h.1.1))
  element_known r (Some row) h = h

  picks_known : (r : Reach) (row select : Option ℕ) → PicksBank p first ks r row select → PicksBank p first ls r row select
  picks_known r None select h = h
  picks_known r (Some row) None h = h
  picks_known r (Some row) (Some v) h = tt

  both_parts : (xs ys : List ℕ) → AllByRecursion SameKind xs → AllByRecursion SameKind ys → AllByRecursion SameKind (xs ++ ys)
  both_parts [] ys h k = k
  both_parts (x ∷ xs) ys h k = (h.0, both_parts xs ys h.1 k)

  pub reach_known : (r : Reach) → ReachSuits p first ks r → AllByRecursion SameKind (reach_takes r) → ReachSuits p first ls r
  reach_known r h e =
      let behind = all_right SameKind r.indices _ e in
      let last = all_right SameKind (offsets_taken r.steps) _ behind in
      record {
        memory = h.memory;
        banks = record { there = h.banks.there; once = h.banks.once };
        indices = all_two (λ v. IsInteger (kind_of_value first ks v)) SameKind (λ v. IsInteger (kind_of_value first ls v)) (r.indices ++ offsets_taken r.steps) number_known h.indices
            (both_parts r.indices (offsets_taken r.steps) (all_left SameKind r.indices _ e) (all_left SameKind (offsets_taken r.steps) _ behind));
        select = all_two (IsCount p first ks) SameKind (IsCount p first ls) (one_or_none r.select) count_known h.select (all_left SameKind (one_or_none r.select) (one_or_none r.row) last);
        row = all_two (λ v. IsInteger (kind_of_value first ks v)) SameKind (λ v. IsInteger (kind_of_value first ls v)) (one_or_none r.row) number_known h.row
            (all_right SameKind (one_or_none r.select) (one_or_none r.row) last);
        element = element_known r r.row h.element;
      }

  form_known : (f : OperationForm) → FormSuits p first ks f → AllByRecursion SameKind (form_takes f) → FormSuits p first ls f
  form_known (Constant word) h e = h
  form_known (Old register) h e = h
  form_known (Compute op left right) h e =
      subst (λ (k : Kind). Suits op k (kind_of_value first ls right)) (sym e.0) (subst (λ (l : Kind). Suits op (kind_of_value first ks left) l) (sym e.1.0) h)
  form_known (Convert inner to) h e = h
  form_known (Select test a b) h e = (truth_known test h.0 e.0, e.1.0 ∙ (h.1 ∙ sym e.1.1.0))
  form_known (Check ok fault) h e = (truth_known ok h.0 e.0, h.1)
  form_known (Probe r fault) h e = (reach_known r h.0 e, h.1)
  form_known (Read r) h e = (reach_known r h.0 e, picks_known r r.row r.select h.1)
  form_known (Write r value) h e = (reach_known r h.0 e.1, (picks_known r r.row r.select h.1.0, e.0 ∙ h.1.1))
  form_known (Set register value) h e = (h.0, e.0 ∙ h.1)

  pub suits_known : (o : Operation) → OperationSuits p first ks o → AllByRecursion SameKind (operation_takes o) → OperationSuits p first ls o
  suits_known o h e = record {
    guard = all_two (λ v. kind_of_value first ks v ≡ kind.Bool) SameKind (λ v. kind_of_value first ls v ≡ kind.Bool) (one_or_none o.guard) truth_known h.guard
        (all_left SameKind (one_or_none o.guard) (form_takes o.form) e);
    form = form_known o.form h.form (all_right SameKind (one_or_none o.guard) (form_takes o.form) e);
  }
