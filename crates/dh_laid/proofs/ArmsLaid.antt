-- Guards of arms are truths of their block.
use Rattle.std.proofs.Common.{◌≡◌, ◌⊎◌, inl, inr, ℕ, zero, suc, List, Some, None, refl, sym, subst, length, arith}
use Rattle.std.specs.Prelude.{Bool as Truth, true, false, [], ◌∷◌, ◌++◌, Option, slice_get}
use Rattle.dh_value.specs.declared.kinds.Kind.TheVariants as kind
use Rattle.dh_value.specs.declared.operators.Op.TheVariants.{Both}
use Rattle.dh_value.specs.Words.{IsWord}
use Rattle.dh_value.specs.Operations.{Suits, truth}
use Rattle.dh_expressions.specs.declared.drafts.Draft.{Draft}
use Rattle.dh_expressions.specs.Drafted.{Extends}
use Rattle.dh_expressions.specs.Shown.{guard_of}
use Rattle.dh_expressions.proofs.ListPlaces.{place_of_more}
use Rattle.dh_expressions.proofs.Pushing.{extends_again, extends_self}
use Rattle.dh_formed.specs.Formed.{FormedBlock, FormsValue, HasKind, IsGuard}
use Rattle.dh_formed.proofs.CommandsFormed.{selects_form}
use Rattle.dh_formed.proofs.CopiesFormed.{guard_later, guard_there}
use Rattle.dh_formed.proofs.ValuesFormed.{agrees_before, compute_forms, constant_forms, forms_again, forms_none, forms_then, forms_there, forms_where, kind_later, started_later}
use Rattle.dh_commands.specs.MadeCommands.{MadeArmGuard, MadeGuard, MadeNot, MadeOutcome}
use Rattle.dh_laid.specs.Laid.{AreGuardsThere, ArmGuardsForm, FormsGuards}

truth_fits : (b : Truth) → IsWord (truth b)
truth_fits true = record { sized = (omega arith, omega arith); fits = omega arith }
truth_fits false = record { sized = (omega arith, omega arith); fits = omega arith }

both_suits : Suits Both kind.Bool kind.Bool
both_suits = tt

-- that a test fails
not_forms : (test : ℕ) (old new : Draft) (v : ℕ) → MadeNot test old new v → FormsValue old new v (λ x. HasKind x old kind.Bool test) (λ x. kind.Bool)
not_forms test old new v m =
    let no : FormsValue old m.first m.no_value (λ x. HasKind x old kind.Bool test) (λ x. kind.Bool) =
    constant_forms old m.first m.no_value (truth false) (λ x. HasKind x old kind.Bool test) (λ x. kind.Bool) m.no_made (λ x w. truth_fits false) (λ x w. refl) in
    let yes : FormsValue m.first m.second m.yes_value (λ x. HasKind x old kind.Bool test × HasKind x m.first kind.Bool m.no_value) (λ x. kind.Bool) =
    constant_forms m.first m.second m.yes_value (truth true) (λ x. HasKind x old kind.Bool test × HasKind x m.first kind.Bool m.no_value) (λ x. kind.Bool) m.yes_made (λ x w. truth_fits true) (λ x w. refl) in
    let chosen : FormsValue m.second new v (λ x. (HasKind x old kind.Bool test × HasKind x m.first kind.Bool m.no_value) × HasKind x m.second kind.Bool m.yes_value) (λ x. kind.Bool) =
    forms_where m.second new v (λ x. HasKind x m.second kind.Bool test × (HasKind x m.second kind.Bool m.no_value × HasKind x m.second kind.Bool m.yes_value))
    (λ x. (HasKind x old kind.Bool test × HasKind x m.first kind.Bool m.no_value) × HasKind x m.second kind.Bool m.yes_value) (λ x. kind.Bool) (λ x. kind.Bool)
    (λ x w. (kind_later x old m.second kind.Bool test (extends_again old m.first m.second no.extends yes.extends) w.0.0, (kind_later x m.first m.second kind.Bool m.no_value yes.extends w.0.1, w.1)))
    (λ x w. refl) (selects_form m.second new v test m.no_value m.yes_value (λ x. kind.Bool) m.pushes) in
    forms_then old m.first new m.no_value v (λ x. HasKind x old kind.Bool test) (λ x. kind.Bool) (λ x. kind.Bool) no
    (forms_then m.first m.second new m.yes_value v (λ x. HasKind x old kind.Bool test × HasKind x m.first kind.Bool m.no_value) (λ x. kind.Bool) (λ x. kind.Bool) yes chosen)

outcome_forms : (holds : Truth) (test : ℕ) (old new : Draft) (v : ℕ) → MadeOutcome holds test old new v → FormsValue old new v (λ x. HasKind x old kind.Bool test) (λ x. kind.Bool)
outcome_forms true test old new v m = forms_there old new test v (λ x. HasKind x old kind.Bool test) (λ x. kind.Bool) m (λ x w. w)
outcome_forms false test old new v m = not_forms test old new v m

-- a guard and a truth
joined_forms : (guard : Option ℕ) (t : ℕ) (old new : Draft) (v : ℕ) → MadeGuard guard t old new v → FormsValue old new v (λ x. IsGuard x old guard × HasKind x old kind.Bool t) (λ x. kind.Bool)
joined_forms None t old new v m = forms_there old new t v (λ x. IsGuard x old None × HasKind x old kind.Bool t) (λ x. kind.Bool) m (λ x w. w.1)
joined_forms (Some g) t old new v m =
    forms_where old new v (λ x. Suits Both kind.Bool kind.Bool × (HasKind x old kind.Bool g × HasKind x old kind.Bool t)) (λ x. IsGuard x old (Some g) × HasKind x old kind.Bool t) (λ x. kind.Bool) (λ x. kind.Bool)
    (λ x w. (both_suits, (w.0, w.1))) (λ x w. refl) (compute_forms old new v g t Both kind.Bool kind.Bool m)

-- the guard of an arm at a path
arm_guard_forms : (holds : Truth) (guard : Option ℕ) (test : ℕ) (old new : Draft) (v : ℕ) → MadeArmGuard holds guard test old new v
    → FormsValue old new v (λ x. IsGuard x old guard × HasKind x old kind.Bool test) (λ x. kind.Bool)
arm_guard_forms holds guard test old new v m =
    let outcome : FormsValue old m.middle m.outcome (λ x. IsGuard x old guard × HasKind x old kind.Bool test) (λ x. kind.Bool) =
    forms_where old m.middle m.outcome (λ x. HasKind x old kind.Bool test) (λ x. IsGuard x old guard × HasKind x old kind.Bool test) (λ x. kind.Bool) (λ x. kind.Bool) (λ x w. w.1) (λ x w. refl)
    (outcome_forms holds test old m.middle m.outcome m.comes_out) in
    forms_then old m.middle new m.outcome v (λ x. IsGuard x old guard × HasKind x old kind.Bool test) (λ x. kind.Bool) (λ x. kind.Bool) outcome
    (forms_where m.middle new v (λ x. IsGuard x m.middle guard × HasKind x m.middle kind.Bool m.outcome) (λ x. (IsGuard x old guard × HasKind x old kind.Bool test) × HasKind x m.middle kind.Bool m.outcome) (λ x. kind.Bool) (λ x. kind.Bool)
    (λ x w. (guard_later x old m.middle guard outcome.extends w.0.0, w.1)) (λ x w. refl) (joined_forms guard m.outcome m.middle new v m.joins))

guards_later : (x : FormedBlock) (old new : Draft) (guards : List (Option ℕ)) → Extends old new → AreGuardsThere x old guards → AreGuardsThere x new guards
guards_later x old new guards e all path guard at = guard_later x old new guard e (all path guard at)

-- the guards so far and one more
guards_more : (x : FormedBlock) (d : Draft) (arm before : List (Option ℕ)) (v : ℕ) → arm ≡ before ++ Some v ∷ [] → AreGuardsThere x d before → HasKind x d kind.Bool v → AreGuardsThere x d arm
guards_more x d arm before v is all one path guard at = by (place_of_more before (Some v) guard path (subst (λ (gs : List (Option ℕ)). slice_get gs path ≡ Some guard) is at))
  where
    by : (slice_get before path ≡ Some guard) ⊎ ((path ≡ length before) × (guard ≡ Some v)) → IsGuard x d guard
    by (inl h) = all path guard h
    by (inr h) = subst (λ (g : Option ℕ). IsGuard x d g) (sym h.1) one

pub arm_guards_form : ArmGuardsForm
arm_guards_form holds guards tests zero old new arm m = record {
  extends = subst (λ (d : Draft). Extends old d) (sym m.0) (extends_self old);
  forms = λ x a s g t. forms_none x old new m.0;
  gives = λ x a s g t. subst (λ (gs : List (Option ℕ)). AreGuardsThere x new gs) (sym m.1) (λ path guard at. absurd (nothing path guard at));
}
  where
    nothing : (path : ℕ) (guard : Option ℕ) → slice_get [] path ≡ Some guard → ⊥
    nothing zero guard at = absurd (cc)
    nothing (suc path) guard at = absurd (cc)
arm_guards_form holds guards tests (suc n) old new arm m =
    further (arm_guards_form holds guards tests n old m.0 m.1.0 m.1.1.1.1.0)
    (arm_guard_forms holds (guard_of guards n) m.1.1.0 m.0 new m.1.1.1.0 m.1.1.1.1.1.1.0)
  where
    further : FormsGuards old m.0 guards tests m.1.0
        → FormsValue m.0 new m.1.1.1.0 (λ x. IsGuard x m.0 (guard_of guards n) × HasKind x m.0 kind.Bool m.1.1.0) (λ x. kind.Bool) → FormsGuards old new guards tests arm
    further front one = record {
      extends = extends_again old m.0 new front.extends one.extends;
      forms = λ x a s g t.
          let before = agrees_before x m.0 new one.extends a in
          forms_again x old m.0 new one.extends (front.forms x before s g t)
          (one.forms x a (started_later x old m.0 front.extends s) (guard_there x m.0 guards n (guards_later x old m.0 guards front.extends g), kind_later x old m.0 kind.Bool m.1.1.0 front.extends (t n m.1.1.0 m.1.1.1.1.1.0)));
      gives = λ x a s g t.
          let before = agrees_before x m.0 new one.extends a in
          guards_more x new arm m.1.0 m.1.1.1.0 m.1.1.1.1.1.1.1 (guards_later x m.0 new m.1.0 one.extends (front.gives x before s g t))
          (one.gives x a (started_later x old m.0 front.extends s) (guard_there x m.0 guards n (guards_later x old m.0 guards front.extends g), kind_later x old m.0 kind.Bool m.1.1.0 front.extends (t n m.1.1.0 m.1.1.1.1.1.0)));
    }
