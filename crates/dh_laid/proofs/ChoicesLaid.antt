-- Choices behind an `if` are formed, one behind the other.
use Rattle.std.proofs.Common.{◌≡◌, ◌<◌, ℕ, zero, suc, List, Some, None, refl, sym, subst, length}
use Rattle.std.specs.Prelude.{Option, slice_get}
use Rattle.dh_value.specs.declared.kinds.Kind.TheVariants as kind
use Rattle.dh_plan.specs.Blocks.{kind_at}
use Rattle.dh_expressions.specs.declared.drafts.Draft.{Draft}
use Rattle.dh_expressions.specs.Drafted.{Extends}
use Rattle.dh_expressions.proofs.Pushing.{extends_again, extends_self}
use Rattle.dh_formed.specs.Formed.{Agrees, FormedBlock, FormsValue, HasKind, Started}
use Rattle.dh_formed.proofs.CommandsFormed.{selects_form}
use Rattle.dh_formed.proofs.ValuesFormed.{agrees_before, forms_again, forms_none, forms_there, forms_where, kind_later, shown_forms, started_later}
use Rattle.dh_commands.specs.declared.assignments.Values.{Values}
use Rattle.dh_commands.specs.declared.choices.Choice.{Choice}
use Rattle.dh_commands.specs.MadeCommands.{MadeBehind, MadeChoice, MadeChoiceBy}
use Rattle.dh_laid.specs.Laid.{AreHeld, TestsAreTruths, ChoiceSuits, ChoicesForm, ChoicesSuit, FormsChoices, FormsChosen, HoldsKind}
use Rattle.dh_laid.proofs.ValuesLaid.{AllHold, held_assigned, held_later}

holds_later : (x : FormedBlock) (old new : Draft) (r : ℕ) (o : Option ℕ) → Extends old new → HoldsKind x old r o → HoldsKind x new r o
holds_later x old new r o e h value is = kind_later x old new _ value e (h value is)

pub truths_later : (x : FormedBlock) (old new : Draft) (tests : List ℕ) → Extends old new → TestsAreTruths x old tests → TestsAreTruths x new tests
truths_later x old new tests e all path test at = kind_later x old new kind.Bool test e (all path test at)

choices_later : (x : FormedBlock) (old new : Draft) (choices : List Choice) → Extends old new → ChoicesSuit x old choices → ChoicesSuit x new choices
choices_later x old new choices e all k c at =
    let s = all k c at in record { there = s.there; chosen = holds_later x old new c.register c.chosen e s.chosen; other = holds_later x old new c.register c.other e s.other }

-- what an arm left, or what the variable shows
abbrev pub ShowsBehind : (current : List (Option ℕ)) → (r : ℕ) → Option ℕ → Draft → FormedBlock → Type 0
ShowsBehind current r o old x = ((r < length x.plan.registers) × AllHold x old current) × HoldsKind x old r o

behind_forms : (current : List (Option ℕ)) (r : ℕ) (o : Option ℕ) (old new : Draft) (v : ℕ) → MadeBehind current r o old new v → FormsValue old new v (ShowsBehind current r o old) (λ x. kind_at x.plan.registers r)
behind_forms current r None old new v m =
    forms_where old new v (λ x. (r < length x.plan.registers) × ((value : ℕ) → slice_get current r ≡ Some (Some value) → HasKind x old (kind_at x.plan.registers r) value)) (ShowsBehind current r None old)
    (λ x. kind_at x.plan.registers r) (λ x. kind_at x.plan.registers r) (λ x w. (w.0.0, λ value at. w.0.1 r value at)) (λ x w. refl) (shown_forms current r old new v m)
behind_forms current r (Some value) old new v m = forms_there old new value v (ShowsBehind current r (Some value) old) (λ x. kind_at x.plan.registers r) m (λ x w. w.1 value refl)

-- One choice.

record FormsChoice (tests : List ℕ) (c : Choice) (old new : Draft) (before after : Values) : Type 0 where
  extends : Extends old new
  forms : (x : FormedBlock) → Agrees x new → Started x old → TestsAreTruths x old tests → AreHeld x old before → ChoiceSuits x old c → FormsChosen x old new after

choice_forms : (tests : List ℕ) (c : Choice) (old new : Draft) (before after : Values) (test : ℕ) → slice_get tests c.path ≡ Some test → MadeChoice test c old new before after → FormsChoice tests c old new before after
choice_forms tests c old new before after test at m =
    let yes : FormsValue old m.first m.yes_value (ShowsBehind before.current.items c.register c.chosen old) (λ x. kind_at x.plan.registers c.register) =
    behind_forms before.current.items c.register c.chosen old m.first m.yes_value m.chosen in
    let no : FormsValue m.first m.second m.no_value (ShowsBehind before.current.items c.register c.other m.first) (λ x. kind_at x.plan.registers c.register) =
    behind_forms before.current.items c.register c.other m.first m.second m.no_value m.other in
    let sel : FormsValue m.second new m.value
    (λ x. HasKind x m.second kind.Bool test × (HasKind x m.second (kind_at x.plan.registers c.register) m.yes_value × HasKind x m.second (kind_at x.plan.registers c.register) m.no_value)) (λ x. kind_at x.plan.registers c.register) =
    selects_form m.second new m.value test m.yes_value m.no_value (λ x. kind_at x.plan.registers c.register) m.pushes in
    let both : Extends old m.second = extends_again old m.first m.second yes.extends no.extends in
    record {
      extends = extends_again old m.second new both sel.extends;
      forms = λ x a s t h k.
          let a2 = agrees_before x m.second new sel.extends a in
          let a1 = agrees_before x m.first m.second no.extends a2 in
          let s1 = started_later x old m.first yes.extends s in
          let s2 = started_later x old m.second both s in
          let wy : ShowsBehind before.current.items c.register c.chosen old x = ((k.there, h.current), k.chosen) in
          let wn : ShowsBehind before.current.items c.register c.other m.first x = ((k.there, (held_later x old m.first before yes.extends h).current), holds_later x old m.first c.register c.other yes.extends k.other) in
          let ws : HasKind x m.second kind.Bool test × (HasKind x m.second (kind_at x.plan.registers c.register) m.yes_value × HasKind x m.second (kind_at x.plan.registers c.register) m.no_value) =
          (kind_later x old m.second kind.Bool test both (t c.path test at), (kind_later x m.first m.second _ m.yes_value no.extends (yes.gives x a1 s wy), no.gives x a2 s1 wn)) in
          record {
            forms = forms_again x old m.second new sel.extends (forms_again x old m.first m.second no.extends (yes.forms x a1 s wy) (no.forms x a2 s1 wn)) (sel.forms x a s2 ws);
            held = held_assigned x new before after c.register c.path m.value m.sets (sel.gives x a s2 ws) (held_later x old new before (extends_again old m.second new both sel.extends) h);
          };
    }

choice_by : (tests : List ℕ) (c : Choice) (old new : Draft) (before after : Values) (o : Option ℕ) → slice_get tests c.path ≡ o → MadeChoiceBy o c old new before after → FormsChoice tests c old new before after
choice_by tests c old new before after None at m = record {
  extends = subst (λ (d : Draft). Extends old d) (sym m.0) (extends_self old);
  forms = λ x a s t h k. record { forms = forms_none x old new m.0; held = subst (λ (d : Draft). AreHeld x d after) (sym m.0) (subst (λ (v : Values). AreHeld x old v) (sym m.1) h) };
}
choice_by tests c old new before after (Some test) at m = choice_forms tests c old new before after test at m

-- All choices.

pub choices_form : ChoicesForm
choices_form tests choices zero old new before after m = record {
  extends = subst (λ (d : Draft). Extends old d) (sym m.0) (extends_self old);
  forms = λ x a s t h k. record { forms = forms_none x old new m.0; held = subst (λ (d : Draft). AreHeld x d after) (sym m.0) (subst (λ (v : Values). AreHeld x old v) (sym m.1) h) };
}
choices_form tests choices (suc n) old new before after m =
    further m.0 m.1.0 m.1.1.0 m.1.1.1.1.0 (choices_form tests choices n old m.0 before m.1.0 m.1.1.1.0)
    (choice_by tests m.1.1.0 m.0 new m.1.0 after (slice_get tests (m.1.1.0).path) refl m.1.1.1.1.1)
  where
    further : (d : Draft) (v : Values) (c : Choice) → slice_get choices n ≡ Some c → FormsChoices tests choices old d before v → FormsChoice tests c d new v after → FormsChoices tests choices old new before after
    further d v c at front one = record {
      extends = extends_again old d new front.extends one.extends;
      forms = λ x a s t h k.
          let f = front.forms x (agrees_before x d new one.extends a) s t h k in
          let g = one.forms x a (started_later x old d front.extends s) (truths_later x old d tests front.extends t) f.held (choices_later x old d choices front.extends k n c at) in
          record { forms = forms_again x old d new one.extends f.forms g.forms; held = g.held };
    }
