-- A view that keeps its offsets: its offsets are formed, and then as the variables hold them that keep them, which are
-- given values of the kinds of their registers.
use Rattle.std.proofs.Common.{◌≡◌, ◌<◌, ◌≤◌, ◌+◌, ◌^◌, ℕ, suc, List, [], ◌∷◌, sym, ◌∙◌, subst, arith}
use Rattle.std.specs.Prelude.{Option}
use Rattle.dh_tree.specs.PlainTrees as plain
use Rattle.dh_tree.specs.PlainTrees.{Term}
use Rattle.dh_tree.specs.Seen.{terms}
use Rattle.dh_meaning.specs.AccessNumbers.{term_accesses, terms_accesses}
use Rattle.dh_code.specs.Slots.{held_at}
use Rattle.dh_plan.specs.Blocks.{kind_at}
use Rattle.dh_expressions.specs.declared.accesses.Accesses.{Accesses}
use Rattle.dh_expressions.specs.declared.drafts.Draft.{Draft}
use Rattle.dh_expressions.specs.declared.scenes.Around.{Around}
use Rattle.dh_expressions.specs.declared.scenes.Lane.{Lane}
use Rattle.dh_expressions.specs.declared.scenes.Scene.{Scene}
use Rattle.dh_expressions.specs.Drafted.{Extends}
use Rattle.dh_expressions.specs.MadeTerms.{MadeTerms}
use Rattle.dh_expressions.specs.Shown.{kind_written, register_at}
use Rattle.dh_expressions.proofs.Pushing.{extends_again, extends_self}
use Rattle.dh_formed.specs.Formed.{Agrees, AreNumbers, FormedBlock, Forms, FormsTerm, FormsTerms, FormsValue, HasKind, HeldSuits, AreNotedReads, IsScope, Started, TermSuits, TermsSuit, count_of_terms}
use Rattle.dh_formed.proofs.AccessesFormed.{noted_later, scope_later}
use Rattle.dh_formed.proofs.TermsFormed.{all_formed, formed, numbered}
use Rattle.dh_formed.proofs.ValuesFormed.{agrees_before, forms_again, forms_none, held_forms, kind_later, kind_same, started_later}
use Rattle.dh_commands.specs.declared.assignments.Values.{Values}
use Rattle.dh_commands.specs.declared.buildings.Building.{Building}
use Rattle.dh_commands.specs.LanesRun.{lane_of, paths_counted}
use Rattle.dh_commands.specs.MadeCommands.{KeptTo, MadeHolds, MadeKept}
use Rattle.dh_commands.specs.Setting.{SetsFrom}
use Rattle.dh_laid.specs.Laid.{AreHeld, FormsAround, FormsAtPath, KeptFits}
use Rattle.dh_laid.proofs.PathsLaid.{paths_form}
use Rattle.dh_laid.proofs.ValuesLaid.{held_assigned, held_later}

-- Values of terms are of the kinds that are written of these.

abbrev AreKinds : FormedBlock → Draft → plain.Terms → List ℕ → Type 0
AreKinds x d plain.no_terms values = values ≡ []
AreKinds x d (plain.term_then t ts) [] = ⊥
AreKinds x d (plain.term_then t ts) (v ∷ values) = HasKind x d (kind_written t) v × AreKinds x d ts values

kinds_later : (x : FormedBlock) (old new : Draft) (ts : plain.Terms) (values : List ℕ) → Extends old new → AreKinds x old ts values → AreKinds x new ts values
kinds_later x old new plain.no_terms values e h = h
kinds_later x old new (plain.term_then t ts) [] e h = h
kinds_later x old new (plain.term_then t ts) (v ∷ values) e h = (kind_later x old new (kind_written t) v e h.0, kinds_later x old new ts values e h.1)

module _ (scene : Scene) (lane : Lane) (current : List (Option ℕ)) where
  kinds_made : (ts : plain.Terms) (old new : Draft) (before after : Accesses) (n next : ℕ) (values : List ℕ) → MadeTerms scene lane current ts old new before after n next values → n + terms_accesses ts < 2 ^ 32
      → (x : FormedBlock) → Agrees x new → Started x old → IsScope x old scene lane current → AreNotedReads x old before → TermsSuit x scene lane n ts × AreNumbers ts → AreKinds x new ts values
  kinds_made plain.no_terms old new before after n next values m few x a s scope noted w = m.none
  kinds_made (plain.term_then t ts) old new before after n next values m few x a s scope noted w =
      subst (λ (vs : List ℕ). AreKinds x new (plain.term_then t ts) vs) (sym m.values_are) (
        kind_later x m.middle new (kind_written t) m.a rest.part.extends (one.gives x at_middle s scope noted w.0.0),
        kinds_made ts m.middle new m.between after m.own next m.more m.rest few_rest x a (started_later x old m.middle one.part.extends s) (scope_later x old m.middle scene lane current one.part.extends scope)
            (one.part.notes x at_middle s scope noted w.0.0) (subst (λ (i : ℕ). TermsSuit x scene lane i ts) (sym own) w.0.1, w.1.1),
      )
    where
      few_one : n + term_accesses t < 2 ^ 32
      few_one = omega (arith, few)

      own : m.own ≡ n + term_accesses t
      own = numbered scene lane current t old m.middle before m.between n m.own m.a m.first few_one

      few_rest : m.own + terms_accesses ts < 2 ^ 32
      few_rest = omega (arith, few, own)

      one : FormsTerm scene lane current old m.middle before m.between m.a (λ y. TermSuits y scene lane n t) (kind_written t)
      one = formed scene lane current t old m.middle before m.between n m.own m.a m.first few_one

      rest : FormsTerms scene lane current m.middle new m.between after m.more (λ y. TermsSuit y scene lane m.own ts × AreNumbers ts) (count_of_terms ts)
      rest = all_formed scene lane current ts m.middle new m.between after m.own next m.more m.rest few_rest

      at_middle : Agrees x m.middle
      at_middle = agrees_before x m.middle new rest.part.extends a

-- Values as variables hold them.

abbrev AreKept : FormedBlock → Draft → Scene → Lane → (first : ℕ) → List ℕ → Type 0
AreKept x d scene lane first [] = Unit {0}
AreKept x d scene lane first (v ∷ values) = HasKind x d (kind_at x.plan.registers (register_at (held_at scene.held.now first) lane)) v × AreKept x d scene lane (suc first) values

pub record FormsHolds (scene : Scene) (lane : Lane) (first : ℕ) (offsets : List Term) (values : List ℕ) (old new : Draft) (held : List ℕ) : Type 0 where
  pub extends : Extends old new
  pub forms : (x : FormedBlock) → Agrees x new → Started x old → AreKinds x old (terms offsets) values → KeptFits x scene lane first offsets → Forms x old new
  pub gives : (x : FormedBlock) → Agrees x new → Started x old → AreKinds x old (terms offsets) values → KeptFits x scene lane first offsets → AreKept x new scene lane first held

-- one more in front
hold_then : (scene : Scene) (lane : Lane) (first : ℕ) (t : Term) (ts : List Term) (v : ℕ) (values : List ℕ) (old d new : Draft) (h : ℕ) (more held : List ℕ)
    → FormsValue old d h (λ x. HeldSuits t (held_at scene.held.now first).kind × HasKind x old (kind_written t) v) (λ x. (held_at scene.held.now first).kind) → FormsHolds scene lane (suc first) ts values d new more → held ≡ h ∷ more
    → FormsHolds scene lane first (t ∷ ts) (v ∷ values) old new held
hold_then scene lane first t ts v values old d new h more held hold behind is = record {
  extends = extends_again old d new hold.extends behind.extends;
  forms = λ x a s are fits.
      forms_again x old d new behind.extends (hold.forms x (agrees_before x d new behind.extends a) s (fits.0.0, are.0))
      (behind.forms x a (started_later x old d hold.extends s) (kinds_later x old d (terms ts) values hold.extends are.1) fits.1);
  gives = λ x a s are fits.
      subst (λ (vs : List ℕ). AreKept x new scene lane first vs) (sym is) (
        kind_later x d new (kind_at x.plan.registers (register_at (held_at scene.held.now first) lane)) h behind.extends
            (kind_same x d (held_at scene.held.now first).kind (kind_at x.plan.registers (register_at (held_at scene.held.now first) lane)) h fits.0.1 (hold.gives x (agrees_before x d new behind.extends a) s (fits.0.0, are.0))),
        behind.gives x a (started_later x old d hold.extends s) (kinds_later x old d (terms ts) values hold.extends are.1) fits.1,
      );
}

holds_form : (scene : Scene) (lane : Lane) (first : ℕ) (offsets : List Term) (values : List ℕ) (old new : Draft) (held : List ℕ) → MadeHolds scene first offsets values old new held → FormsHolds scene lane first offsets values old new held
holds_form scene lane first [] values old new held m = record {
  extends = subst (λ (d : Draft). Extends old d) (sym m.0) (extends_self old);
  forms = λ x a s are fits. forms_none x old new m.0;
  gives = λ x a s are fits. subst (λ (vs : List ℕ). AreKept x new scene lane first vs) (sym (m.1 ∙ are)) tt;
}
holds_form scene lane first (t ∷ ts) [] old new held m = record {
  extends = subst (λ (d : Draft). Extends old d) (sym m.0) (extends_self old);
  forms = λ x a s are fits. absurd are;
  gives = λ x a s are fits. absurd are;
}
holds_form scene lane first (t ∷ ts) (v ∷ values) old new held (d, (h, (more, (one, (rest, is))))) =
    hold_then scene lane first t ts v values old d new h more held (held_forms t (held_at scene.held.now first).kind v old d h one) (holds_form scene lane (suc first) ts values d new more rest) is

-- variables are given them
kept_held : (x : FormedBlock) (d : Draft) (scene : Scene) (lane : Lane) (first : ℕ) (values : List ℕ) (old new : Values) → SetsFrom scene lane old new first values → AreKept x d scene lane first values → AreHeld x d old → AreHeld x d new
kept_held x d scene lane first [] old new s kinds h = subst (λ (v : Values). AreHeld x d v) (sym s) h
kept_held x d scene lane first (v ∷ values) old new (middle, (set, rest)) kinds h =
    kept_held x d scene lane (suc first) values middle new rest kinds.1 (held_assigned x d old middle (register_at (held_at scene.held.now first) lane) lane.number v set kinds.0 h)

-- One path, and all.

pub keeps_form : (scene : Scene) (lane : Lane) (first entity : ℕ) (offsets : List Term) (old new : Building) (next : ℕ) → MadeKept scene lane first entity offsets old new next → first + terms_accesses (terms offsets) < 2 ^ 32
    → FormsAtPath scene lane old new (λ x. (TermsSuit x scene lane first (terms offsets) × AreNumbers (terms offsets)) × KeptFits x scene lane entity offsets)
keeps_form scene lane first entity offsets old new next m few = record {
  extends = extends_again old.draft m.middle new.draft all.part.extends holds.extends;
  forms = λ x a s scope noted held w.
      let before : Agrees x m.middle = agrees_before x m.middle new.draft holds.extends a in
      let started : Started x m.middle = started_later x old.draft m.middle all.part.extends s in
      let kinds : AreKinds x m.middle (terms offsets) m.values =
      kinds_made scene lane old.values.current.items (terms offsets) old.draft m.middle old.accesses new.accesses first next m.values m.offsets_made few x before s scope noted w.0 in
      record {
        forms = forms_again x old.draft m.middle new.draft holds.extends (all.part.forms x before s scope noted w.0) (holds.forms x a started kinds w.1);
        notes = noted_later x m.middle new.draft new.accesses holds.extends (all.part.notes x before s scope noted w.0);
        held =
            kept_held x new.draft scene lane entity m.held old.values new.values m.sets (holds.gives x a started kinds w.1)
            (held_later x old.draft new.draft old.values (extends_again old.draft m.middle new.draft all.part.extends holds.extends) held);
      };
}
  where
    all : FormsTerms scene lane old.values.current.items old.draft m.middle old.accesses new.accesses m.values (λ x. TermsSuit x scene lane first (terms offsets) × AreNumbers (terms offsets)) (count_of_terms (terms offsets))
    all = all_formed scene lane old.values.current.items (terms offsets) old.draft m.middle old.accesses new.accesses first next m.values m.offsets_made few

    holds : FormsHolds scene lane entity offsets m.values m.middle new.draft m.held
    holds = holds_form scene lane entity offsets m.values m.middle new.draft m.held m.holds

pub all_keeps_form : (scene : Scene) (around : Around) (first entity : ℕ) (offsets : List Term) (count : ℕ) (old new : Building) (next : ℕ) → KeptTo scene around first entity offsets count old new next → first + terms_accesses (terms offsets) < 2 ^ 32
    → count ≤ paths_counted around
    → FormsAround scene around old new
    (λ x. (n : ℕ) → n < count → (TermsSuit x scene (lane_of around n) first (terms offsets) × AreNumbers (terms offsets)) × KeptFits x scene (lane_of around n) entity offsets)
all_keeps_form scene around first entity offsets count old new next m few within =
    paths_form scene around (λ n b d k. MadeKept scene (lane_of around n) first entity offsets b d k)
    (λ n x. (TermsSuit x scene (lane_of around n) first (terms offsets) × AreNumbers (terms offsets)) × KeptFits x scene (lane_of around n) entity offsets)
    (λ n b d k one. keeps_form scene (lane_of around n) first entity offsets b d k one few) count first old new next within m
