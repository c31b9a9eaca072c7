-- What variables were given stays of the kinds of their registers: where one is assigned, and where assignments are
-- taken back.
use Rattle.std.proofs.lemmas.Bool.{cases_lt}
use Rattle.std.proofs.Common.{◌≡◌, ◌⊎◌, inl, inr, ℕ, zero, suc, ◌<◌, ◌≤◌, List, Some, refl, sym, ap, subst, arith, length}
use Rattle.std.specs.Prelude.{[], ◌∷◌, ◌++◌, drop, take, false, Option, slice_get, slice_set}
use Rattle.std.specs.List.{AllByRecursion}
use Rattle.dh_value.specs.Words.{IsKind}
use Rattle.dh_code.specs.Slots.{held_at}
use Rattle.dh_plan.specs.Blocks.{kind_at}
use Rattle.dh_expressions.specs.declared.drafts.Draft.{Draft}
use Rattle.dh_expressions.specs.Drafted.{Extends}
use Rattle.dh_expressions.specs.Shown.{kind_written, register_at}
use Rattle.dh_expressions.proofs.ListPlaces.{some_same}
use Rattle.dh_expressions.proofs.Pushing.{extends_again}
use Rattle.dh_formed.specs.Formed.{FormedBlock, FormsTerm, FormsValue, HasKind, HeldSuits, AreNotedReads, TermSuits}
use Rattle.dh_formed.proofs.AccessesFormed.{noted_later}
use Rattle.dh_formed.proofs.TermsFormed.{formed}
use Rattle.dh_formed.proofs.ValuesFormed.{agrees_before, forms_again, held_forms, kind_later, kind_same, number_forms, started_later}
use Rattle.dh_commands.specs.declared.assignments.Change.{Change}
use Rattle.dh_commands.specs.declared.assignments.Values.{Values}
use Rattle.dh_commands.specs.Undone.{Assigns, change_at, given_at, undone}
use Rattle.dh_laid.specs.Laid.{AreHeld, ArmsEnd, AssignmentsForm, ClearingsForm, HadKind, HoldsKind}

-- an element of a list with one changed is that one, or was there
pub set_cases : {A : Type 0} (xs : List A) (n m : ℕ) (y z : A) → slice_get (slice_set xs n y) m ≡ Some z → ((m ≡ n) × (y ≡ z)) ⊎ (slice_get xs m ≡ Some z)
set_cases [] n m y z e = inr e
set_cases (x ∷ xs) zero zero y z e = inl (refl, some_same y z e)
set_cases (x ∷ xs) zero (suc m) y z e = inr e
set_cases (x ∷ xs) (suc n) zero y z e = inr e
set_cases (x ∷ xs) (suc n) (suc m) y z e = further (set_cases xs n m y z e)
  where
    further : ((m ≡ n) × (y ≡ z)) ⊎ (slice_get xs m ≡ Some z) → ((suc m ≡ suc n) × (y ≡ z)) ⊎ (slice_get xs m ≡ Some z)
    further (inl h) = inl (ap suc h.0, h.1)
    further (inr h) = inr h

-- a value that a register was given is there
pub given_there : (current : List (Option ℕ)) (r value : ℕ) → given_at current r ≡ Some value → slice_get current r ≡ Some (Some value)
given_there [] zero value e = absurd (cc)
given_there [] (suc r) value e = absurd (cc)
given_there (o ∷ os) zero value e = ap Some e
given_there (o ∷ os) (suc r) value e = given_there os r value e

all_append : (P : Change → Type 0) (xs ys : List Change) → AllByRecursion P xs → AllByRecursion P ys → AllByRecursion P (xs ++ ys)
all_append P [] ys a b = b
all_append P (c ∷ xs) ys a b = (a.0, all_append P xs ys a.1 b)

all_by : (P Q : Change → Type 0) → ((c : Change) → P c → Q c) → (xs : List Change) → AllByRecursion P xs → AllByRecursion Q xs
all_by P Q more [] a = tt
all_by P Q more (c ∷ cs) a = (more c a.0, all_by P Q more cs a.1)

pub all_drop : (P : Change → Type 0) (n : ℕ) (xs : List Change) → AllByRecursion P xs → AllByRecursion P (drop n xs)
all_drop P zero xs a = a
all_drop P (suc n) [] a = tt
all_drop P (suc n) (c ∷ cs) a = all_drop P n cs a.1

all_take : (P : Change → Type 0) (n : ℕ) (xs : List Change) → AllByRecursion P xs → AllByRecursion P (take n xs)
all_take P zero xs a = tt
all_take P (suc n) [] a = tt
all_take P (suc n) (c ∷ cs) a = (a.0, all_take P n cs a.1)

-- Operations are added.
pub held_later : (x : FormedBlock) (old new : Draft) (v : Values) → Extends old new → AreHeld x old v → AreHeld x new v
held_later x old new v e h = record {
  current = λ register value at. kind_later x old new _ value e (h.current register value at);
  log = all_by (HadKind x old) (HadKind x new) (λ c k value is. kind_later x old new _ value e (k value is)) v.log.items h.log;
}

-- what registers hold, of their kinds
abbrev pub AllHold : FormedBlock → Draft → List (Option ℕ) → Type 0
AllHold x d current = (register value : ℕ) → slice_get current register ≡ Some (Some value) → HasKind x d (kind_at x.plan.registers register) value

pub hold_set : (x : FormedBlock) (d : Draft) (current : List (Option ℕ)) (r : ℕ) (o : Option ℕ) → AllHold x d current → HoldsKind x d r o → AllHold x d (slice_set current r o)
hold_set x d current r o all one register value at = by (set_cases current r register o (Some value) at)
  where
    by : ((register ≡ r) × (o ≡ Some value)) ⊎ (slice_get current register ≡ Some (Some value)) → HasKind x d (kind_at x.plan.registers register) value
    by (inl h) = subst (λ (n : ℕ). HasKind x d (kind_at x.plan.registers n) value) (sym h.0) (one value h.1)
    by (inr h) = all register value h

-- a variable is assigned
pub held_assigned : (x : FormedBlock) (d : Draft) (old new : Values) (register path value : ℕ) → Assigns old new register path value → HasKind x d (kind_at x.plan.registers register) value → AreHeld x d old → AreHeld x d new
held_assigned x d old new register path value a k h = record {
  current =
      subst (λ (c : List (Option ℕ)). AllHold x d c) (sym a.current)
      (hold_set x d old.current.items register (Some value) h.current (λ v e. subst (λ (n : ℕ). HasKind x d (kind_at x.plan.registers register) n) (some_same value v e) k));
  log = by (cases_lt register (length old.current.items));
}
  where
    before : HadKind x d (change_at old.current.items register path)
    before v e = h.current register v (given_there old.current.items register v e)

    by : (register < length old.current.items) ⊎ (length old.current.items ≤ register) → AllByRecursion (HadKind x d) new.log.items
    by (inl less) =
        subst (λ (cs : List Change). AllByRecursion (HadKind x d) cs) (sym (a.log less))
        (all_append (HadKind x d) old.log.items (change_at old.current.items register path ∷ []) h.log (before, tt))
    by (inr far) = subst (λ (cs : List Change). AllByRecursion (HadKind x d) cs) (sym (a.past (λ less. omega (arith, less, far)))) h.log

-- assignments are taken back
pub hold_undone : (x : FormedBlock) (d : Draft) (cs : List Change) (current : List (Option ℕ)) → AllHold x d current → AllByRecursion (HadKind x d) cs → AllHold x d (undone cs current)
hold_undone x d [] current all had = all
hold_undone x d (c ∷ cs) current all had = hold_set x d (undone cs current) c.register c.before (hold_undone x d cs current all had.1) had.0

pub arms_end : ArmsEnd
arms_end x d old new floor lefts e h = record {
  current = subst (λ (c : List (Option ℕ)). AllHold x d c) (sym e.current) (hold_undone x d (drop floor old.log.items) old.current.items h.current (all_drop (HadKind x d) floor old.log.items h.log));
  log = subst (λ (cs : List Change). AllByRecursion (HadKind x d) cs) (sym e.log) (all_take (HadKind x d) floor old.log.items h.log);
}

-- One path.

pub assignments_form : AssignmentsForm
assignments_form scene lane first entity t old new next m few =
    let term : FormsTerm scene lane old.values.current.items old.draft m.middle old.accesses new.accesses m.value (λ x. TermSuits x scene lane first t) (kind_written t) =
    formed scene lane old.values.current.items t old.draft m.middle old.accesses new.accesses first next m.value m.term few in
    let value : FormsValue m.middle new.draft m.held (λ x. HeldSuits t (held_at scene.held.now entity).kind × HasKind x m.middle (kind_written t) m.value) (λ x. (held_at scene.held.now entity).kind) =
    held_forms t (held_at scene.held.now entity).kind m.value m.middle new.draft m.held m.holds in
    record {
      extends = extends_again old.draft m.middle new.draft term.part.extends value.extends;
      forms = λ x a s scope noted held w.
          let before = agrees_before x m.middle new.draft value.extends a in
          let given = term.gives x before s scope noted w.0.0 in
          let started = started_later x old.draft m.middle term.part.extends s in
          record {
            forms = forms_again x old.draft m.middle new.draft value.extends (term.part.forms x before s scope noted w.0.0) (value.forms x a started (w.0.1, given));
            notes = noted_later x m.middle new.draft new.accesses value.extends (term.part.notes x before s scope noted w.0.0);
            held =
                held_assigned x new.draft old.values new.values (register_at (held_at scene.held.now entity) lane) lane.number m.held m.sets
                (kind_same x new.draft _ _ m.held w.1 (value.gives x a started (w.0.1, given)))
                (held_later x old.draft new.draft old.values (extends_again old.draft m.middle new.draft term.part.extends value.extends) held);
          };
    }

pub clearings_form : ClearingsForm
clearings_form scene lane entity old new m =
    let value : FormsValue old.draft new.draft m.value (λ x. IsKind (held_at scene.held.now entity).kind) (λ x. (held_at scene.held.now entity).kind) =
    number_forms (held_at scene.held.now entity).kind false 0 old.draft new.draft m.value m.number in
    record {
      extends = value.extends;
      forms = λ x a s scope noted held w. record {
        forms = value.forms x a s w.0;
        notes = noted_later x old.draft new.draft new.accesses value.extends (subst (λ k. AreNotedReads x old.draft k) (sym m.same) noted);
        held =
            held_assigned x new.draft old.values new.values (register_at (held_at scene.held.now entity) lane) lane.number m.value m.sets
            (kind_same x new.draft _ _ m.value w.1 (value.gives x a s w.0)) (held_later x old.draft new.draft old.values value.extends held);
      };
    }
