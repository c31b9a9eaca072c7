-- Whole commands are formed: an arm that is taken back, an `if`, and commands one behind the other.
use Rattle.std.proofs.Common.{◌≡◌, ◌<◌, ◌≤◌, ◌+◌, ◌^◌, ℕ, zero, suc, List, Some, None, refl, ap, sym, ◌∙◌, subst, length, arith}
use Rattle.std.specs.Prelude.{Bool as Truth, true, false, [], ◌∷◌, Option}
use Rattle.std.specs.List.{AllByRecursion}
use Rattle.dh_value.specs.declared.operators.Op.{Op}
use Rattle.dh_tree.specs.Indices.{form_of}
use Rattle.dh_tree.specs.PlainTrees.{Term, Action, action, ActionForm, lets, lets_memory, views, assigns, stores, reduces, calls, blocks, decides, repeats, counts, MaybeAction, no_action, one_action, Actions, no_actions, action_then, Groups, no_groups, group_then, ViewPlan}
use Rattle.dh_tree.specs.ViewOffsets.{offsets_of}
use Rattle.dh_meaning.specs.AccessNumbers.{plan_accesses, term_accesses}
use Rattle.dh_meaning.specs.CoreOf.{entity_number, way_of}
use Rattle.dh_meaning.specs.Ways.{Hidden, hidden_in}
use Rattle.dh_code.specs.Slots.{held_at}
use Rattle.dh_expressions.specs.declared.accesses.Accesses.{Accesses}
use Rattle.dh_expressions.specs.declared.drafts.Draft.{Draft}
use Rattle.dh_expressions.specs.declared.scenes.Around.{Around}
use Rattle.dh_expressions.specs.declared.scenes.Scene.{Scene}
use Rattle.dh_expressions.specs.Drafted.{Extends}
use Rattle.dh_expressions.specs.Evaluated.{known_in}
use Rattle.dh_expressions.specs.Shown.{kind_written, register_at}
use Rattle.dh_expressions.proofs.Pushing.{extends_again}
use Rattle.dh_formed.specs.Formed.{Agrees, FormedBlock, Forms, FormsTerm, AreNotedReads, Started, TermSuits}
use Rattle.dh_formed.proofs.AccessesFormed.{noted_later}
use Rattle.dh_formed.proofs.TermsFormed.{formed}
use Rattle.dh_formed.proofs.ValuesFormed.{agrees_before, forms_again, kind_later, started_later}
use Rattle.dh_commands.specs.declared.assignments.Values.{Values}
use Rattle.dh_commands.specs.declared.buildings.Building.{Building}
use Rattle.dh_commands.specs.declared.choices.Left.{Left}
use Rattle.dh_commands.specs.Joined.{IsLeft}
use Rattle.dh_commands.specs.LanesRun.{lane_of, paths_counted}
use Rattle.dh_commands.specs.MadeCommands.{AssignedTo, ClearedTo, Commanding, MadeActionForm, MadeActions, MadeArm, MadeAssigned, MadeCleared, MadeReduced, MadeStored, ReducedTo, StoredTo, MadeBoth, MadeCommand, MadeGroups, MadeIf, MadeKept, MadeNoArm, MadeOther, MadeTested, MadeTests, MadeView}
use Rattle.dh_commands.specs.Undone.{AreReady}
use Rattle.dh_commands.proofs.ArmsLeft.{AreSame, same_ready}
use Rattle.dh_laid.specs.Laid.{AreHeld, AreLeftByArms, TestsAreTruths, AreGuardsThere, FormsAround, FormsGuards, FormsJoined, FormsTested, FormsTests, FormsThere, LeftHolds, StandsRound, aim_accesses}
use Rattle.dh_laid.specs.LaidCommands.{AssignmentSuits, ClearingSuits, ReducingSuits, StoreSuits, ActionSuits, ActionsSuit, AreFew, AreFewActions, AreFewGroups, AreFewIn, AreFewOf, AreFewOther, AreLogged, CommandSuits, CommandsForm, FormsCommand, GroupsForm, GroupsSuit, KeepingSuits, OtherSuits, StandsHeld, TestSuits}
use Rattle.dh_laid.proofs.ArmsLaid.{arm_guards_form}
use Rattle.dh_laid.proofs.ChoicesLaid.{truths_later}
use Rattle.dh_laid.proofs.JoinsLaid.{arms_leave, joins_form}
use Rattle.dh_laid.proofs.KeptLaid.{all_keeps_form}
use Rattle.dh_laid.proofs.PathsLaid.{all_assignments_form, all_clearings_form, extends_same, round_later, tests_form, there_same}
use Rattle.dh_laid.proofs.ReducersLaid.{all_reduces_form}
use Rattle.dh_laid.proofs.StoresLaid.{all_stores_form}
use Rattle.dh_laid.proofs.ValuesLaid.{arms_end, held_later}
use Rattle.dh_laid.proofs.ValuesLogged.{IsBack, arm_back, arm_long, joined_logged, lanes_logged, logged_again, logged_equal, logged_from, logged_one, logged_ready, logged_same, tests_same}

-- an arm, and what it left
pub record FormsEnded (x : FormedBlock) (old new : Building) (lefts : List Left) : Type 0 where
  pub there : FormsThere x old new
  pub hold : AllByRecursion (LeftHolds x new.draft) lefts

pub record FormsArm (scene : Scene) (around : Around) (tests : List ℕ) (old new : Building) (lefts : List Left) (Where : FormedBlock → Type 0) : Type 0 where
  pub extends : Extends old.draft new.draft
  pub same : AreReady old.values → AreSame old.values new.values
  pub left : AreReady old.values → AllByRecursion (IsLeft old.values.current.items) lefts
  pub forms : (x : FormedBlock) → Agrees x new.draft → Started x old.draft → StandsRound x old.draft scene around → TestsAreTruths x old.draft tests → AreNotedReads x old.draft old.accesses → StandsHeld x old.draft old.values
      → length tests ≡ paths_counted around → Where x → FormsEnded x old new lefts

lefts_later : (x : FormedBlock) (old new : Draft) (ls : List Left) → Extends old new → AllByRecursion (LeftHolds x old) ls → AllByRecursion (LeftHolds x new) ls
lefts_later x old new [] e all = tt
lefts_later x old new (l ∷ ls) e all = (λ value is. kind_later x old new _ value e (all.0 value is), lefts_later x old new ls e all.1)

-- An arm.

module _ (scene : Scene) (Inner : Commanding) (around : Around) (holds : Truth) (tests : List ℕ) (old new : Building) (first next : ℕ) (lefts : List Left) (m : MadeArm Inner around holds tests old new first next lefts) (Where : FormedBlock → Type 0) (inner : FormsCommand scene m.arm m.begin m.inside Where) where
  pub guards_made : FormsGuards old.draft m.begin.draft around.guards.now tests m.arm.guards.now
  guards_made =
      subst (λ (d : Draft). FormsGuards old.draft d around.guards.now tests m.arm.guards.now) (sym m.begin_draft)
      (arm_guards_form holds around.guards.now tests (length tests) old.draft m.guarded m.arm.guards.now m.guards)

  within_arm : Extends old.draft m.inside.draft
  within_arm = extends_again old.draft m.begin.draft m.inside.draft guards_made.extends inner.extends

  back : AreReady old.values → IsBack old.values m.inside.values new.values lefts
  back ready =
      arm_back old.values m.inside.values new.values lefts
      (subst (λ (v : Values). AreLogged v m.inside.values) m.begin_values (inner.logs (subst (λ (v : Values). AreReady v) (sym m.begin_values) ready))) m.ends

  -- what stands round the arm
  pub round_arm : (x : FormedBlock) → StandsRound x old.draft scene around → AreGuardsThere x m.begin.draft m.arm.guards.now → length tests ≡ paths_counted around → StandsRound x m.begin.draft scene m.arm
  round_arm x round guards many = record {
    guards = guards;
    scopes = round.scopes;
    low = subst (λ levels. length levels < 2 ^ 63) (sym m.levels) round.low;
    few = subst (λ (n : ℕ). n < 2 ^ 64) (sym (arm_long holds around.guards.now tests (length tests) old.draft m.guarded m.arm.guards.now m.guards ∙ many)) round.few;
  }

  pub begun_held : (x : FormedBlock) → StandsHeld x old.draft old.values → StandsHeld x m.begin.draft m.begin.values
  begun_held x h =
      subst (λ (v : Values). StandsHeld x m.begin.draft v) (sym m.begin_values)
      (record { held = held_later x old.draft m.begin.draft old.values guards_made.extends h.held; ready = h.ready; long = h.long })

  pub begun_noted : (x : FormedBlock) → AreNotedReads x old.draft old.accesses → AreNotedReads x m.begin.draft m.begin.accesses
  begun_noted x noted = subst (λ (k : Accesses). AreNotedReads x m.begin.draft k) (sym m.begin_accesses) (noted_later x old.draft m.begin.draft old.accesses guards_made.extends noted)

  -- what is formed as the arm ends
  ended : (x : FormedBlock) → Forms x old.draft m.begin.draft → FormsThere x m.begin m.inside → AreReady old.values → FormsEnded x old new lefts
  ended x front f ready =
      let inside : Forms x old.draft m.inside.draft = forms_again x old.draft m.begin.draft m.inside.draft inner.extends front f.forms in
      let held : AreHeld x m.inside.draft new.values = arms_end x m.inside.draft m.inside.values new.values (length old.values.log.items) lefts m.ends f.held in
      let hold : AllByRecursion (LeftHolds x m.inside.draft) lefts = arms_leave x m.inside.draft m.inside.values new.values (length old.values.log.items) lefts m.ends (back ready).room f.held in
      record {
        there = record {
          forms = subst (λ (d : Draft). Forms x old.draft d) (sym m.draft) inside;
          notes = subst (λ (d : Draft). AreNotedReads x d new.accesses) (sym m.draft) (subst (λ (k : Accesses). AreNotedReads x m.inside.draft k) (sym m.accesses) f.notes);
          held = subst (λ (d : Draft). AreHeld x d new.values) (sym m.draft) held;
        };
        hold = subst (λ (d : Draft). AllByRecursion (LeftHolds x d) lefts) (sym m.draft) hold;
      }

  pub arm_forms : FormsArm scene around tests old new lefts Where
  arm_forms = record {
    extends = subst (λ (d : Draft). Extends old.draft d) (sym m.draft) within_arm;
    same = λ ready. (back ready).same;
    left = λ ready. (back ready).left;
    forms = λ x a s round t noted h many w.
        let inside = agrees_inside x a in
        let before = agrees_before x m.begin.draft m.inside.draft inner.extends inside in
        let guards = guards_made.gives x before s round.guards t in
        ended x (guards_made.forms x before s round.guards t)
        (inner.forms x inside (started_later x old.draft m.begin.draft guards_made.extends s) (round_arm x round guards many) (begun_noted x noted) (begun_held x h) w) h.ready;
  }
    where
      agrees_inside : (x : FormedBlock) → Agrees x new.draft → Agrees x m.inside.draft
      agrees_inside x a = subst (λ (d : Draft). Agrees x d) m.draft a

-- no second arm
none_forms : (scene : Scene) (around : Around) (tests : List ℕ) (old new : Building) (first next : ℕ) (lefts : List Left) → MadeNoArm old new first next lefts → FormsArm scene around tests old new lefts (λ x. Unit {0})
none_forms scene around tests old new first next lefts m = record {
  extends = extends_same old new m.still;
  same = λ ready. subst (λ (b : Building). AreSame old.values b.values) (sym m.still) (record { current = refl; log = refl; marks = refl });
  left = λ ready. subst (λ (ls : List Left). AllByRecursion (IsLeft old.values.current.items) ls) (sym m.none) tt;
  forms = λ x a s round t noted h many w. record {
    there = there_same x old new m.still noted h.held;
    hold = subst (λ (ls : List Left). AllByRecursion (LeftHolds x new.draft) ls) (sym m.none) tt;
  };
}

-- An `if`.

pub tests_extend : (scene : Scene) (around : Around) (first : ℕ) (t : Term) (count : ℕ) (old new : Building) (next : ℕ) (tests : List ℕ) → AreFewIn first t → MadeTests scene around first t count old new next tests → Extends old.draft new.draft
tests_extend scene around first t zero old new next tests few m = extends_same old new m.0
tests_extend scene around first t (suc n) old new next tests few m =
    extends_again old.draft (m.0).draft new.draft (tests_extend scene around first t n old m.0 m.1.0 m.1.1.0 few m.1.1.1.1.0) (one m.0 m.1.1.1.0 m.1.1.1.1.1.0)
  where
    one : (b : Building) (v : ℕ) → MadeTested scene (lane_of around n) first t b new next v → Extends b.draft new.draft
    one b v is =
        let term : FormsTerm scene (lane_of around n) b.values.current.items b.draft new.draft b.accesses new.accesses v (λ x. TermSuits x scene (lane_of around n) first t) (kind_written t) =
        formed scene (lane_of around n) b.values.current.items t b.draft new.draft b.accesses new.accesses first next v is.term few in
        term.part.extends

pub held_moved : (x : FormedBlock) (d e : Draft) (v w : Values) → StandsHeld x d v → AreHeld x e w → AreSame v w → StandsHeld x e w
held_moved x d e v w h held same = record { held = held; ready = same_ready v w same h.ready; long = subst (λ (os : List (Option ℕ)). length os ≤ length x.plan.registers) (sym same.current) h.long }

module _ (scene : Scene) (Chosen Other : Around → (tests : List ℕ) → (old new : Building) → (first next : ℕ) → (lefts : List Left) → Type 0) (t : Term) (around : Around) (old new : Building) (first next : ℕ) (m : MadeIf scene Chosen Other t around old new first next) (few : AreFewIn first t) (A B : FormedBlock → Type 0) (chosen : FormsArm scene around m.tests m.tested m.after_chosen m.chosen_left A) (other : FormsArm scene around m.tests m.after_chosen m.after_other m.other_left B) where
  tested_is : (m.tested.values ≡ old.values) × (length m.tests ≡ paths_counted around)
  tested_is = tests_same scene around first t (paths_counted around) old m.tested m.own m.tests m.test

  front : Extends old.draft m.tested.draft
  front = tests_extend scene around first t (paths_counted around) old m.tested m.own m.tests few m.test

  joins : FormsJoined m.tests m.chosen_left m.other_left m.after_other new
  joins = joins_form m.tests m.chosen_left m.other_left m.after_other new m.joined

  ready_tested : AreReady old.values → AreReady m.tested.values
  ready_tested ready = subst (λ (v : Values). AreReady v) (sym tested_is.0) ready

  ready_chosen : AreReady old.values → AreReady m.after_chosen.values
  ready_chosen ready = same_ready m.tested.values m.after_chosen.values (chosen.same (ready_tested ready)) (ready_tested ready)

  ready_other : AreReady old.values → AreReady m.after_other.values
  ready_other ready = same_ready m.after_chosen.values m.after_other.values (other.same (ready_chosen ready)) (ready_chosen ready)

  chosen_is_left : AreReady old.values → AllByRecursion (IsLeft m.after_other.values.current.items) m.chosen_left
  chosen_is_left ready =
      subst (λ (os : List (Option ℕ)). AllByRecursion (IsLeft os) m.chosen_left) (sym ((other.same (ready_chosen ready)).current ∙ (chosen.same (ready_tested ready)).current)) (chosen.left (ready_tested ready))

  other_is_left : AreReady old.values → AllByRecursion (IsLeft m.after_other.values.current.items) m.other_left
  other_is_left ready = subst (λ (os : List (Option ℕ)). AllByRecursion (IsLeft os) m.other_left) (sym (other.same (ready_chosen ready)).current) (other.left (ready_chosen ready))

  if_logged : AreReady old.values → AreLogged old.values new.values
  if_logged ready =
      logged_again old.values m.tested.values new.values (logged_equal old.values m.tested.values tested_is.0)
      (logged_again m.tested.values m.after_chosen.values new.values (logged_same m.tested.values m.after_chosen.values (chosen.same (ready_tested ready)))
      (logged_again m.after_chosen.values m.after_other.values new.values (logged_same m.after_chosen.values m.after_other.values (other.same (ready_chosen ready)))
      (joined_logged m.tests m.chosen_left m.other_left m.after_other new m.joined (ready_other ready) (chosen_is_left ready) (other_is_left ready))))

  to_chosen : Extends old.draft m.after_chosen.draft
  to_chosen = extends_again old.draft m.tested.draft m.after_chosen.draft front chosen.extends

  to_other : Extends old.draft m.after_other.draft
  to_other = extends_again old.draft m.after_chosen.draft m.after_other.draft to_chosen other.extends

  held_tested : (x : FormedBlock) → StandsHeld x old.draft old.values → AreHeld x m.tested.draft m.tested.values → StandsHeld x m.tested.draft m.tested.values
  held_tested x h held = record { held = held; ready = ready_tested h.ready; long = subst (λ (v : Values). length v.current.items ≤ length x.plan.registers) (sym tested_is.0) h.long }

  -- what is joined behind both arms
  joined_there : (x : FormedBlock) → Agrees x new.draft → Started x old.draft → StandsHeld x m.after_other.draft m.after_other.values → AreReady old.values → FormsThere x old m.tested → TestsAreTruths x m.tested.draft m.tests
      → FormsEnded x m.tested m.after_chosen m.chosen_left → FormsEnded x m.after_chosen m.after_other m.other_left → FormsThere x old new
  joined_there x a s h ready f0 truths f1 f2 =
      let both : Extends m.tested.draft m.after_other.draft = extends_again m.tested.draft m.after_chosen.draft m.after_other.draft chosen.extends other.extends in
      let c1 : AreLeftByArms x m.after_other.draft m.after_other.values m.chosen_left =
      record { left = chosen_is_left ready; hold = lefts_later x m.after_chosen.draft m.after_other.draft m.chosen_left other.extends f1.hold } in
      let c2 : AreLeftByArms x m.after_other.draft m.after_other.values m.other_left = record { left = other_is_left ready; hold = f2.hold } in
      let f : FormsThere x m.after_other new =
      joins.forms x a (started_later x old.draft m.after_other.draft to_other s) (truths_later x m.tested.draft m.after_other.draft m.tests both truths) f2.there.notes f2.there.held h.ready h.long c1 c2 in
      record {
        forms =
            forms_again x old.draft m.after_other.draft new.draft joins.extends
            (forms_again x old.draft m.after_chosen.draft m.after_other.draft other.extends (forms_again x old.draft m.tested.draft m.after_chosen.draft chosen.extends f0.forms f1.there.forms) f2.there.forms) f.forms;
        notes = f.notes;
        held = f.held;
      }

  pub if_forms : FormsCommand scene around old new (λ x. TestSuits x scene around first t × (A x × B x))
  if_forms = record {
    extends = extends_again old.draft m.after_other.draft new.draft to_other joins.extends;
    logs = if_logged;
    forms = λ x a s round noted h w.
        let ao = agrees_before x m.after_other.draft new.draft joins.extends a in
        let ac = agrees_before x m.after_chosen.draft m.after_other.draft other.extends ao in
        let tests : FormsTests scene around first t (paths_counted around) old m.tested m.tests =
        tests_form scene around first t (paths_counted around) old m.tested m.own m.tests few w.0.0 (omega arith) m.test in
        let f0 : FormsTested x old m.tested m.tests = tests.forms x (agrees_before x m.tested.draft m.after_chosen.draft chosen.extends ac) s round noted h.held w.0.1 in
        let h0 = held_tested x h f0.there.held in
        let f1 : FormsEnded x m.tested m.after_chosen m.chosen_left =
        chosen.forms x ac (started_later x old.draft m.tested.draft front s) (round_later x old.draft m.tested.draft scene around front round) f0.truths f0.there.notes h0 tested_is.1 w.1.0 in
        let h1 = held_moved x m.tested.draft m.after_chosen.draft m.tested.values m.after_chosen.values h0 f1.there.held (chosen.same (ready_tested h.ready)) in
        let f2 : FormsEnded x m.after_chosen m.after_other m.other_left =
        other.forms x ao (started_later x old.draft m.after_chosen.draft to_chosen s) (round_later x old.draft m.after_chosen.draft scene around to_chosen round)
        (truths_later x m.tested.draft m.after_chosen.draft m.tests chosen.extends f0.truths) f1.there.notes h1 tested_is.1 w.1.1 in
        let h2 = held_moved x m.after_chosen.draft m.after_other.draft m.after_chosen.values m.after_other.values h1 f2.there.held (other.same (ready_chosen h.ready)) in
        joined_there x a s h2 h.ready f0.there f0.truths f1 f2;
  }

-- Commands one behind the other.

pub still_forms : (scene : Scene) (around : Around) (old new : Building) → new ≡ old → FormsCommand scene around old new (λ x. Unit {0})
still_forms scene around old new still = record {
  extends = extends_same old new still;
  logs = λ ready. logged_equal old.values new.values (ap (λ (b : Building). b.values) still);
  forms = λ x a s round noted h w. there_same x old new still noted h.held;
}

both_form : (scene : Scene) (First Rest : Commanding) (around : Around) (old new : Building) (first next : ℕ) (m : MadeBoth First Rest around old new first next) (A B : FormedBlock → Type 0)
    → FormsCommand scene around old m.middle A → FormsCommand scene around m.middle new B → FormsCommand scene around old new (λ x. A x × B x)
both_form scene First Rest around old new first next m A B one rest = record {
  extends = extends_again old.draft m.middle.draft new.draft one.extends rest.extends;
  logs = λ ready. logged_again old.values m.middle.values new.values (one.logs ready) (rest.logs (logged_ready old.values m.middle.values (one.logs ready) ready));
  forms = λ x a s round noted h w.
      let f = one.forms x (agrees_before x m.middle.draft new.draft rest.extends a) s round noted h w.0 in
      let l = one.logs h.ready in
      let g =
      rest.forms x a (started_later x old.draft m.middle.draft one.extends s) (round_later x old.draft m.middle.draft scene around one.extends round) f.notes
      (record { held = f.held; ready = logged_ready old.values m.middle.values l h.ready; long = subst (λ (n : ℕ). n ≤ length x.plan.registers) (sym l.long) h.long }) w.1 in
      record { forms = forms_again x old.draft m.middle.draft new.draft rest.extends f.forms g.forms; notes = g.notes; held = g.held };
}

-- what is done at all paths
around_form : (scene : Scene) (around : Around) (old new : Building) (Where : FormedBlock → Type 0) → FormsAround scene around old new Where → AreLogged old.values new.values → FormsCommand scene around old new Where
around_form scene around old new Where f l = record { extends = f.extends; logs = λ ready. l; forms = λ x a s round noted h w. f.forms x a s round noted h.held w }

assigned_forms : (scene : Scene) (around : Around) (first entity : ℕ) (t : Term) (old new : Building) (next : ℕ) → AssignedTo scene around first entity t (paths_counted around) old new next → AreFewIn first t
    → FormsCommand scene around old new (λ x. AssignmentSuits x scene around first entity t)
assigned_forms scene around first entity t old new next m few =
    around_form scene around old new (λ x. AssignmentSuits x scene around first entity t)
    (all_assignments_form scene around first entity t (paths_counted around) old new next m few (omega arith))
    (lanes_logged (λ n b d k. MadeAssigned scene (lane_of around n) first entity t b d k)
    (λ n b d k one. logged_one b.values d.values (register_at (held_at scene.held.now entity) (lane_of around n)) n one.held one.sets) (paths_counted around) first old new next m)

cleared_forms : (scene : Scene) (around : Around) (first entity : ℕ) (old new : Building) (next : ℕ) → ClearedTo scene around first entity (paths_counted around) old new next
    → FormsCommand scene around old new (λ x. ClearingSuits x scene around entity)
cleared_forms scene around first entity old new next m =
    around_form scene around old new (λ x. ClearingSuits x scene around entity)
    (all_clearings_form scene around first entity (paths_counted around) old new next m (omega arith))
    (lanes_logged (λ n b d k. MadeCleared scene (lane_of around n) entity b d × (k ≡ first))
    (λ n b d k one. logged_one b.values d.values (register_at (held_at scene.held.now entity) (lane_of around n)) n (one.0).value (one.0).sets) (paths_counted around) first old new next m)

reduced_forms : (scene : Scene) (around : Around) (first entity : ℕ) (op : Op) (t : Term) (old new : Building) (next : ℕ) → ReducedTo scene around first entity op t (paths_counted around) old new next → AreFewIn first t
    → FormsCommand scene around old new (λ x. ReducingSuits x scene around first entity op t)
reduced_forms scene around first entity op t old new next m few =
    around_form scene around old new (λ x. ReducingSuits x scene around first entity op t)
    (all_reduces_form scene around first entity op t (paths_counted around) old new next m few (omega arith))
    (lanes_logged (λ n b d k. MadeReduced scene (lane_of around n) first entity op t b d k)
    (λ n b d k one. logged_one b.values d.values (register_at (held_at scene.held.now entity) (lane_of around n)) n one.folded one.sets) (paths_counted around) first old new next m)

stored_forms : (scene : Scene) (around : Around) (first : ℕ) (target t : Term) (old new : Building) (next : ℕ) → StoredTo scene around first target t (paths_counted around) old new next
    → (first + term_accesses t) + aim_accesses (form_of target) < 2 ^ 32 → FormsCommand scene around old new (λ x. StoreSuits x scene around first target t)
stored_forms scene around first target t old new next m few =
    around_form scene around old new (λ x. StoreSuits x scene around first target t)
    (all_stores_form scene around first target t (paths_counted around) old new next m few (omega arith))
    (lanes_logged (λ n b d k. MadeStored scene (lane_of around n) first target t b d k) (λ n b d k one. logged_equal b.values d.values one.same) (paths_counted around) first old new next m)

-- offsets of a view
view_forms : (scene : Scene) (hidden : List Hidden) (form : ViewPlan) (around : Around) (old new : Building) (first next : ℕ) → MadeView scene hidden form around old new first next → first + plan_accesses form < 2 ^ 32
    → FormsCommand scene around old new (λ x. KeepingSuits x scene around first hidden (offsets_of form))
view_forms scene [] form around old new first next m few = still_forms scene around old new m.still
view_forms scene (h ∷ hs) form around old new first next m few =
    around_form scene around old new (λ x. KeepingSuits x scene around first (h ∷ hs) (offsets_of form))
    (all_keeps_form scene around first h.entity (offsets_of form) (paths_counted around) old new next m few (omega arith))
    (lanes_logged (λ n b d k. MadeKept scene (lane_of around n) first h.entity (offsets_of form) b d k)
    (λ n b d k one. logged_from scene (lane_of around n) h.entity one.held b.values d.values one.sets) (paths_counted around) first old new next m)

-- All commands.

module _ (scene : Scene) where
  mutual
    pub command_forms : (a : Action) (around : Around) (old new : Building) (first next : ℕ) (m : MadeCommand scene a around old new first next) → AreFew scene a around old new first next m
        → FormsCommand scene around old new (λ x. CommandSuits x scene a around old new first next m)
    command_forms (action id place form) around old new first next m few = action_forms form around old new first next m few

    action_forms : (form : ActionForm) (around : Around) (old new : Building) (first next : ℕ) (m : MadeActionForm scene form around old new first next) → AreFewOf scene form around old new first next m
        → FormsCommand scene around old new (λ x. ActionSuits x scene form around old new first next m)
    action_forms (lets name declared (Some value)) around old new first next m few = assigned_forms scene around first (entity_number name.entity) value old new next m few
    action_forms (lets name declared None) around old new first next m few = cleared_forms scene around first (entity_number name.entity) old new next m
    action_forms (assigns target value) around old new first next m few = assigned_forms scene around first (entity_number target.entity) value old new next m few
    action_forms (stores target value) around old new first next m few = stored_forms scene around first target value old new next m few
    action_forms (reduces target op value) around old new first next m few = reduced_forms scene around first (entity_number target.entity) op value old new next m few
    action_forms (decides test chosen other) around old new first next m few =
        if_forms scene (λ a ts b d n k ls. MadeArm (MadeCommand scene chosen) a true ts b d n k ls) (MadeOther scene other) test around old new first next m few.0
        (λ x. CommandSuits x scene chosen m.chosen.arm m.chosen.begin m.chosen.inside m.own m.behind m.chosen.command) (λ x. OtherSuits x scene other around m.tests m.after_chosen m.after_other m.behind next m.other_left m.other)
        (arm_forms scene (MadeCommand scene chosen) around true m.tests m.tested m.after_chosen m.own m.behind m.chosen_left m.chosen
        (λ x. CommandSuits x scene chosen m.chosen.arm m.chosen.begin m.chosen.inside m.own m.behind m.chosen.command)
        (command_forms chosen m.chosen.arm m.chosen.begin m.chosen.inside m.own m.behind m.chosen.command few.1.0))
        (other_forms other around m.tests m.after_chosen m.after_other m.behind next m.other_left m.other few.1.1)
    action_forms (blocks body) around old new first next m few = groups_form body around old new first next m few
    action_forms (lets_memory name shape shape_places value) around old new first next m few = still_forms scene around old new m.still
    action_forms (views name parent form) around old new first next m few = view_forms scene (hidden_in (way_of (known_in scene) name)) form around old new first next m few
    action_forms (calls function arguments) around old new first next m few = still_forms scene around old new m.still
    action_forms (repeats test body) around old new first next m few = still_forms scene around old new m.still
    action_forms (counts iterator declared low high factor body combine combine_place) around old new first next m few = still_forms scene around old new m.still

    pub other_forms : (other : MaybeAction) (around : Around) (tests : List ℕ) (old new : Building) (first next : ℕ) (lefts : List Left) (m : MadeOther scene other around tests old new first next lefts)
        → AreFewOther scene other around tests old new first next lefts m → FormsArm scene around tests old new lefts (λ x. OtherSuits x scene other around tests old new first next lefts m)
    other_forms no_action around tests old new first next lefts m few = none_forms scene around tests old new first next lefts m
    other_forms (one_action a) around tests old new first next lefts m few =
        arm_forms scene (MadeCommand scene a) around false tests old new first next lefts m (λ x. CommandSuits x scene a m.arm m.begin m.inside first next m.command)
        (command_forms a m.arm m.begin m.inside first next m.command few)

    pub actions_form : (part : Actions) (around : Around) (old new : Building) (first next : ℕ) (m : MadeActions scene part around old new first next) → AreFewActions scene part around old new first next m
        → FormsCommand scene around old new (λ x. ActionsSuit x scene part around old new first next m)
    actions_form no_actions around old new first next m few = still_forms scene around old new m.still
    actions_form (action_then a rest) around old new first next m few =
        both_form scene (MadeCommand scene a) (MadeActions scene rest) around old new first next m (λ x. CommandSuits x scene a around old m.middle first m.own m.one) (λ x. ActionsSuit x scene rest around m.middle new m.own next m.rest)
        (command_forms a around old m.middle first m.own m.one few.0) (actions_form rest around m.middle new m.own next m.rest few.1)

    pub groups_form : (body : Groups) (around : Around) (old new : Building) (first next : ℕ) (m : MadeGroups scene body around old new first next) → AreFewGroups scene body around old new first next m
        → FormsCommand scene around old new (λ x. GroupsSuit x scene body around old new first next m)
    groups_form no_groups around old new first next m few = still_forms scene around old new m.still
    groups_form (group_then g rest) around old new first next m few =
        both_form scene (MadeActions scene g) (MadeGroups scene rest) around old new first next m (λ x. ActionsSuit x scene g around old m.middle first m.own m.one) (λ x. GroupsSuit x scene rest around m.middle new m.own next m.rest)
        (actions_form g around old m.middle first m.own m.one few.0) (groups_form rest around m.middle new m.own next m.rest few.1)

pub all_commands_form : CommandsForm
all_commands_form scene a around old new first next m few = command_forms scene a around old new first next m few

pub all_groups_form : GroupsForm
all_groups_form scene body around old new first next m few = groups_form scene body around old new first next m few
