-- What is formed at one path is formed at all, one behind the other.
use Rattle.std.proofs.Common.{◌≡◌, ◌⊎◌, inl, inr, ◌<◌, ◌≤◌, ℕ, zero, suc, List, Some, refl, sym, subst, length, arith}
use Rattle.std.specs.Prelude.{[], ◌∷◌, ◌++◌, Option, slice_get}
use Rattle.dh_value.specs.declared.kinds.Kind.TheVariants as kind
use Rattle.dh_value.specs.Words.{IsKind}
use Rattle.dh_code.specs.Slots.{held_at}
use Rattle.dh_expressions.specs.declared.drafts.Draft.{Draft}
use Rattle.dh_expressions.specs.declared.scenes.Around.{Around}
use Rattle.dh_expressions.specs.declared.scenes.Scene.{Scene}
use Rattle.dh_expressions.specs.Drafted.{Extends}
use Rattle.dh_expressions.specs.Shown.{kind_written}
use Rattle.dh_expressions.proofs.ListPlaces.{place_of_more}
use Rattle.dh_expressions.proofs.Pushing.{extends_again, extends_self}
use Rattle.dh_formed.specs.Formed.{FormedBlock, FormsTerm, HasKind, HeldSuits, AreNotedReads, IsScope, TermSuits}
use Rattle.dh_formed.proofs.CopiesFormed.{guard_later}
use Rattle.dh_formed.proofs.TermsFormed.{formed}
use Rattle.dh_formed.proofs.ValuesFormed.{agrees_before, forms_again, forms_none, kind_later, kind_same, started_later}
use Rattle.dh_commands.specs.declared.assignments.Values.{Values}
use Rattle.dh_commands.specs.declared.buildings.Building.{Building}
use Rattle.dh_commands.specs.LanesRun.{lane_of, paths_counted}
use Rattle.dh_commands.specs.MadeCommands.{MadeAssigned, MadeCleared, MadeLanes, MadeTested}
use Rattle.dh_laid.specs.Laid.{AllAssignmentsForm, AllClearingsForm, AreHeld, TestsAreTruths, FitsRegister, FormsAround, FormsAtPath, FormsTests, FormsThere, StandsRound, TestsForm}
use Rattle.dh_laid.proofs.ValuesLaid.{AllHold, assignments_form, clearings_form, held_later}

pub round_later : (x : FormedBlock) (old new : Draft) (scene : Scene) (around : Around) → Extends old new → StandsRound x old scene around → StandsRound x new scene around
round_later x old new scene around e h = record { guards = λ path guard at. guard_later x old new guard e (h.guards path guard at); scopes = h.scopes; low = h.low; few = h.few }

-- what stands round a path
pub scope_of : (x : FormedBlock) (d : Draft) (scene : Scene) (around : Around) (n : ℕ) (current : List (Option ℕ)) → StandsRound x d scene around → AllHold x d current → n < paths_counted around
    → IsScope x d scene (lane_of around n) current
scope_of x d scene around n current h all within = record { guards = h.guards; given = all; scopes = h.scopes; low = h.low; few = h.few; within = within }

pub there_same : (x : FormedBlock) (old new : Building) → new ≡ old → AreNotedReads x old.draft old.accesses → AreHeld x old.draft old.values → FormsThere x old new
there_same x old new same noted held =
    subst (λ (b : Building). FormsThere x old b) (sym same) (record { forms = forms_none x old.draft old.draft refl; notes = noted; held = held })

pub extends_same : (old new : Building) → new ≡ old → Extends old.draft new.draft
extends_same old new same = subst (λ (b : Building). Extends old.draft b.draft) (sym same) (extends_self old.draft)

pub paths_form : (scene : Scene) (around : Around) (One : ℕ → (b d : Building) → ℕ → Type 0) (Where : ℕ → FormedBlock → Type 0)
    → ((n : ℕ) (b d : Building) (k : ℕ) → One n b d k → FormsAtPath scene (lane_of around n) b d (Where n))
    → (count first : ℕ) (old new : Building) (next : ℕ) → count ≤ paths_counted around → MadeLanes One count first old new next
    → FormsAround scene around old new (λ x. (n : ℕ) → n < count → Where n x)
paths_form scene around One Where each zero first old new next within m = record { extends = extends_same old new m.0; forms = λ x a s round noted held w. there_same x old new m.0 noted held }
paths_form scene around One Where each (suc n) first old new next within m =
    further m.0 (paths_form scene around One Where each n first old m.0 m.1.0 (omega (arith, within)) m.1.1.0) (each n m.0 new next m.1.1.1)
  where
    further : (b : Building) → FormsAround scene around old b (λ x. (i : ℕ) → i < n → Where i x) → FormsAtPath scene (lane_of around n) b new (Where n) → FormsAround scene around old new (λ x. (i : ℕ) → i < suc n → Where i x)
    further b front one = record {
      extends = extends_again old.draft b.draft new.draft front.extends one.extends;
      forms = λ x a s round noted held w.
          let f = front.forms x (agrees_before x b.draft new.draft one.extends a) s round noted held (λ i less. w i (omega (arith, less))) in
          let g =
          one.forms x a (started_later x old.draft b.draft front.extends s) (scope_of x b.draft scene around n b.values.current.items (round_later x old.draft b.draft scene around front.extends round) f.held.current (omega (arith, within)))
          f.notes f.held (w n (omega arith)) in
          record { forms = forms_again x old.draft b.draft new.draft one.extends f.forms g.forms; notes = g.notes; held = g.held };
    }

pub all_assignments_form : AllAssignmentsForm
all_assignments_form scene around first entity t count old new next m few within =
    paths_form scene around (λ n b d k. MadeAssigned scene (lane_of around n) first entity t b d k)
    (λ n x. (TermSuits x scene (lane_of around n) first t × HeldSuits t (held_at scene.held.now entity).kind) × FitsRegister x scene (lane_of around n) entity)
    (λ n b d k one. assignments_form scene (lane_of around n) first entity t b d k one few) count first old new next within m

pub all_clearings_form : AllClearingsForm
all_clearings_form scene around first entity count old new next m within =
    paths_form scene around (λ n b d k. MadeCleared scene (lane_of around n) entity b d × (k ≡ first)) (λ n x. IsKind (held_at scene.held.now entity).kind × FitsRegister x scene (lane_of around n) entity)
    (λ n b d k one. clearings_form scene (lane_of around n) entity b d one.0) count first old new next within m

-- Tests.

truths_later : (x : FormedBlock) (old new : Draft) (tests : List ℕ) → Extends old new → TestsAreTruths x old tests → TestsAreTruths x new tests
truths_later x old new tests e all path test at = kind_later x old new kind.Bool test e (all path test at)

truths_more : (x : FormedBlock) (d : Draft) (tests before : List ℕ) (v : ℕ) → tests ≡ before ++ v ∷ [] → TestsAreTruths x d before → HasKind x d kind.Bool v → TestsAreTruths x d tests
truths_more x d tests before v is all one path test at = by (place_of_more before v test path (subst (λ (ts : List ℕ). slice_get ts path ≡ Some test) is at))
  where
    by : (slice_get before path ≡ Some test) ⊎ ((path ≡ length before) × (test ≡ v)) → HasKind x d kind.Bool test
    by (inl h) = all path test h
    by (inr h) = subst (λ (n : ℕ). HasKind x d kind.Bool n) (sym h.1) one

no_truths : (x : FormedBlock) (d : Draft) (tests : List ℕ) → tests ≡ [] → TestsAreTruths x d tests
no_truths x d tests none path test at = absurd (nothing path (subst (λ (ts : List ℕ). slice_get ts path ≡ Some test) none at))
  where
    nothing : (path : ℕ) → slice_get [] path ≡ Some test → ⊥
    nothing zero at = absurd (cc)
    nothing (suc path) at = absurd (cc)

pub tests_form : TestsForm
tests_form scene around first t zero old new next tests few bool within m = record {
  extends = extends_same old new m.0;
  forms = λ x a s round noted held w. record { there = there_same x old new m.0 noted held; truths = no_truths x new.draft tests m.1.1 };
}
tests_form scene around first t (suc n) old new next tests few bool within m =
    further m.0 m.1.1.0 m.1.1.1.0 m.1.1.1.1.1.0 m.1.1.1.1.1.1 (tests_form scene around first t n old m.0 m.1.0 m.1.1.0 few bool (omega (arith, within)) m.1.1.1.1.0)
  where
    further : (b : Building) (before : List ℕ) (v : ℕ) → MadeTested scene (lane_of around n) first t b new next v → tests ≡ before ++ v ∷ [] → FormsTests scene around first t n old b before → FormsTests scene around first t (suc n) old new tests
    further b before v m is front =
        let term : FormsTerm scene (lane_of around n) b.values.current.items b.draft new.draft b.accesses new.accesses v (λ x. TermSuits x scene (lane_of around n) first t) (kind_written t) =
        formed scene (lane_of around n) b.values.current.items t b.draft new.draft b.accesses new.accesses first next v m.term few in
        record {
          extends = extends_again old.draft b.draft new.draft front.extends term.part.extends;
          forms = λ x a s round noted held w.
              let f = front.forms x (agrees_before x b.draft new.draft term.part.extends a) s round noted held (λ i less. w i (omega (arith, less))) in
              let st = started_later x old.draft b.draft front.extends s in
              let sc = scope_of x b.draft scene around n b.values.current.items (round_later x old.draft b.draft scene around front.extends round) f.there.held.current (omega (arith, within)) in
              let wn = w n (omega arith) in
              record {
                there = record {
                  forms = forms_again x old.draft b.draft new.draft term.part.extends f.there.forms (term.part.forms x a st sc f.there.notes wn);
                  notes = term.part.notes x a st sc f.there.notes wn;
                  held = subst (λ (v : Values). AreHeld x new.draft v) (sym m.same) (held_later x b.draft new.draft b.values term.part.extends f.there.held);
                };
                truths = truths_more x new.draft tests before v is (truths_later x b.draft new.draft before term.part.extends f.truths) (kind_same x new.draft (kind_written t) kind.Bool v bool (term.gives x a st sc f.there.notes wn));
              };
        }
