-- The numbers of the accesses of whole commands, by recursion on what was put down for them.
use Rattle.std.proofs.Common.{◌≡◌, inl, inr, ◌<◌, ◌+◌, ◌^◌, ℕ, zero, suc, List, [], ◌∷◌, Some, None, ap, sym, ◌∙◌, subst, length, arith}
use Rattle.std.specs.Prelude.{Bool as Truth, true, false, Option}
use Rattle.dh_base.specs.declared.places.Place.{Place}
use Rattle.dh_value.specs.declared.kinds.Kind.{Kind}
use Rattle.dh_value.specs.declared.operators.Op.{Op}
use Rattle.dh_tree.specs.Indices.{form_of}
use Rattle.dh_tree.specs.PlainTrees as plain
use Rattle.dh_tree.specs.PlainTrees.{Term, Action, action, lets, lets_memory, views, assigns, stores, reduces, calls, blocks, decides, repeats, counts, MaybeAction, no_action, one_action, Actions, no_actions, action_then, Groups, no_groups, group_then, ViewPlan}
use Rattle.dh_tree.specs.Seen.{terms}
use Rattle.dh_tree.specs.ViewOffsets.{offsets_of}
use Rattle.dh_meaning.specs.AccessNumbers.{accesses_of, form_accesses, groups_accesses, other_accesses, part_accesses, plan_accesses, term_accesses, terms_accesses}
use Rattle.dh_meaning.specs.CoreOf.{entity_number, way_of}
use Rattle.dh_meaning.specs.Ways.{Hidden, hidden_in}
use Rattle.dh_phases.specs.Counted.{behind}
use Rattle.dh_phases.proofs.CountedParts.{behind_few}
use Rattle.dh_expressions.specs.declared.accesses.Accesses.{Accesses}
use Rattle.dh_expressions.specs.declared.drafts.Draft.{Draft}
use Rattle.dh_expressions.specs.declared.elements.Aim.{Aim}
use Rattle.dh_expressions.specs.declared.scenes.Around.{Around}
use Rattle.dh_expressions.specs.declared.scenes.Lane.{Lane}
use Rattle.dh_expressions.specs.declared.scenes.Scene.{Scene}
use Rattle.dh_expressions.specs.Evaluated.{known_in}
use Rattle.dh_expressions.specs.MadeTerms.{MadeTerm, number_behind}
use Rattle.dh_expressions.specs.Noted.{touched_in}
use Rattle.dh_formed.proofs.TermsFormed.{all_numbered, numbered}
use Rattle.dh_formed.proofs.TouchedOwn.{all_touched_own, touched_own, writes_touch_own}
use Rattle.dh_commands.specs.declared.buildings.Building.{Building}
use Rattle.dh_commands.specs.declared.choices.Left.{Left}
use Rattle.dh_commands.specs.LanesRun.{lane_of, paths_counted}
use Rattle.dh_commands.specs.MadeCommands.{AssignedTo, ClearedTo, Commanding, MadeActions, MadeAim, MadeArm, MadeAssigned, MadeCleared, MadeCommand, MadeGroups, MadeIf, MadeKept, MadeLanes, MadeOther, MadeReduced, MadeStored, MadeStoring, MadeTests, MadeView, ReducedTo, StoredTo}
use Rattle.dh_laid.specs.Laid.{aim_accesses}
use Rattle.dh_laid.specs.LaidCommands.{AreFew, AreFewActions, AreFewGroups, AreFewIn, AreFewOther}
use Rattle.dh_laid.specs.LaidNumbers.{AreStraight, AreStraightGroups, CommandsNumber, GroupsNumber, IsAccessForm, IsOutsideRange, IsStraightAction, IsStraightOther, NumbersLaid, ReachingNumber, StoresReach, StoresReachGroups, StoresReachOther, StoresReachPart}
use Rattle.dh_laid.proofs.ValuesLogged.{arm_long, tests_same}

-- Numbers.

behind_is : (number own : ℕ) → number ≡ own → own + 1 < 2 ^ 32 → number_behind number ≡ own + 1
behind_is number own is few = grind (arith, is, few)

outside_front : (n a b m : ℕ) → IsOutsideRange n (a + b) m → IsOutsideRange n a m
outside_front n a b m (inl less) = inl less
outside_front n a b m (inr more) = inr (omega (arith, more))

outside_behind : (n own a b m : ℕ) → own ≡ n + a → IsOutsideRange n (a + b) m → IsOutsideRange own b m
outside_behind n own a b m is (inl less) = inl (omega (arith, is, less))
outside_behind n own a b m is (inr more) = inr (omega (arith, is, more))

outside_last : (n own a m : ℕ) → own ≡ n + a → IsOutsideRange n (suc a) m → m ≡ own → ⊥
outside_last n own a m is (inl less) same = omega (arith, is, less, same)
outside_last n own a m is (inr more) same = omega (arith, is, more, same)

accesses_same : (old new : Building) (number : ℕ) → new.accesses ≡ old.accesses → touched_in new.accesses number ≡ touched_in old.accesses number
accesses_same old new number same = ap (λ (a : Accesses). touched_in a number) same

numbers_as : (old new : Building) (first c d next : ℕ) → c ≡ d → NumbersLaid old new first c next → NumbersLaid old new first d next
numbers_as old new first c d next same h = subst (λ (n : ℕ). NumbersLaid old new first n next) same h

numbers_none : (old new : Building) (first next : ℕ) → new.accesses ≡ old.accesses → next ≡ first → NumbersLaid old new first 0 next
numbers_none old new first next same is = record { next_is = is ∙ omega arith; only = λ number out. accesses_same old new number same }

pub numbers_then : (a b d : Building) (first own next c e : ℕ) → NumbersLaid a b first c own → NumbersLaid b d own e next → NumbersLaid a d first (c + e) next
numbers_then a b d first own next c e h k =
    let i = h.next_is in let j = k.next_is in
    record {
      next_is = omega (arith, i, j);
      only = λ number out. k.only number (outside_behind first own c e number i out) ∙ h.only number (outside_front first c e number out);
    }

-- Paths.

module _ (One : ℕ → (b d : Building) → ℕ → Type 0) (first count : ℕ) (each : (n : ℕ) (b d : Building) (k : ℕ) → One n b d k → NumbersLaid b d first count k) where
  lanes_only : (paths : ℕ) (old new : Building) (next : ℕ) → MadeLanes One paths first old new next → (number : ℕ) → IsOutsideRange first count number → touched_in new.accesses number ≡ touched_in old.accesses number
  lanes_only zero old new next m number out = ap (λ (b : Building). touched_in b.accesses number) m.0
  lanes_only (suc n) old new next m number out = (each n m.0 new next m.1.1.1).only number out ∙ lanes_only n old m.0 m.1.0 m.1.1.0 number out

  lanes_number : (paths : ℕ) (old new : Building) (next : ℕ) → 0 < paths → MadeLanes One paths first old new next → NumbersLaid old new first count next
  lanes_number zero old new next some m = absurd (none some)
    where
      none : 0 < 0 → ⊥
      none h = omega (arith, h)
  lanes_number (suc n) old new next some m = record { next_is = (each n m.0 new next m.1.1.1).next_is; only = λ number out. lanes_only (suc n) old new next m number out }

-- tests
tests_only : (scene : Scene) (around : Around) (first : ℕ) (t : Term) → AreFewIn first t → (paths : ℕ) (old new : Building) (next : ℕ) (tests : List ℕ) → MadeTests scene around first t paths old new next tests
    → (number : ℕ) → IsOutsideRange first (term_accesses t) number → touched_in new.accesses number ≡ touched_in old.accesses number
tests_only scene around first t few zero old new next tests m number out = ap (λ (b : Building). touched_in b.accesses number) m.0
tests_only scene around first t few (suc n) old new next tests m number out =
    touched_own scene (lane_of around n) (m.0).values.current.items t (m.0).draft new.draft (m.0).accesses new.accesses first next m.1.1.1.0 (m.1.1.1.1.1.0).term few number out
    ∙ tests_only scene around first t few n old m.0 m.1.0 m.1.1.0 m.1.1.1.1.0 number out

pub tests_number : (scene : Scene) (around : Around) (first : ℕ) (t : Term) → AreFewIn first t → (paths : ℕ) (old new : Building) (next : ℕ) (tests : List ℕ) → 0 < paths → MadeTests scene around first t paths old new next tests
    → NumbersLaid old new first (term_accesses t) next
tests_number scene around first t few zero old new next tests some m = absurd (none some)
  where
    none : 0 < 0 → ⊥
    none h = omega (arith, h)
tests_number scene around first t few (suc n) old new next tests some m = record {
  next_is = numbered scene (lane_of around n) (m.0).values.current.items t (m.0).draft new.draft (m.0).accesses new.accesses first next m.1.1.1.0 (m.1.1.1.1.1.0).term few;
  only = λ number out. tests_only scene around first t few (suc n) old new next tests m number out;
}

-- One path.

term_number : (scene : Scene) (lane : Lane) (first : ℕ) (t : Term) (old new : Building) (middle : Draft) (next value : ℕ) → MadeTerm scene lane old.values.current.items t old.draft middle old.accesses new.accesses first next value
    → AreFewIn first t → NumbersLaid old new first (term_accesses t) next
term_number scene lane first t old new middle next value m few = record {
  next_is = numbered scene lane old.values.current.items t old.draft middle old.accesses new.accesses first next value m few;
  only = λ number out. touched_own scene lane old.values.current.items t old.draft middle old.accesses new.accesses first next value m few number out;
}

-- a store, behind its value
module _ (scene : Scene) (lane : Lane) (current : List (Option ℕ)) (t : Term) (value : ℕ) (middle end : Draft) (between behind : Accesses) (new : Building) (own next : ℕ) where
  record Stored (count : ℕ) : Type 0 where
    next_is : next ≡ own + count
    only : (number : ℕ) → IsOutsideRange own count number → touched_in new.accesses number ≡ touched_in between number

  written_number : (target : Term) (memory : ℕ) (aim : Aim) (count : ℕ) → aim.number ≡ own + count → own + suc count < 2 ^ 32
      → ((number : ℕ) → IsOutsideRange own count number → touched_in behind number ≡ touched_in between number) → MadeStoring scene lane target t value (Some (aim, memory)) end behind new next → Stored (suc count)
  written_number target memory aim count is few before m = record {
    next_is = m.1.1.1.1 ∙ (behind_is aim.number (own + count) is (omega (arith, few)) ∙ omega arith);
    only = λ number out.
        writes_touch_own scene lane target memory aim m.1.0 m.0 new.draft behind new.accesses m.1.1.1.0 number (outside_last own aim.number count number is out)
        ∙ before number (shorter number out);
  }
    where
      shorter : (number : ℕ) → IsOutsideRange own (suc count) number → IsOutsideRange own count number
      shorter number (inl less) = inl less
      shorter number (inr more) = inr (omega (arith, more))

  stored_number : (place : Place) (k : Option Kind) (form : plain.TermForm) (aimed : Option (Aim × ℕ)) → IsAccessForm form → MadeAim scene lane current form middle end between behind own aimed
      → MadeStoring scene lane (plain.term place k form) t value aimed end behind new next → own + form_accesses form < 2 ^ 32 → Stored (form_accesses form)
  stored_number place k (plain.accessed r ts) (Some (aim, memory)) is a m few =
      written_number (plain.term place k (plain.accessed r ts)) memory aim (terms_accesses ts)
      (all_numbered scene lane current ts middle a.0.middle between behind own aim.number aim.indices a.0.indices (omega (arith, few))) few
      (λ number out. all_touched_own scene lane current ts middle a.0.middle between behind own aim.number aim.indices a.0.indices (omega (arith, few)) number out) m
  stored_number place k (plain.accessed r ts) None is a m few = absurd a
  stored_number place k (plain.in_bank r bank at row) (Some (aim, memory)) is a m few =
      written_number (plain.term place k (plain.in_bank r bank at row)) memory aim (term_accesses row)
      (numbered scene lane current row middle end between behind own aim.number a.0.value a.0.row (omega (arith, few))) few
      (λ number out. touched_own scene lane current row middle end between behind own aim.number a.0.value a.0.row (omega (arith, few)) number out) m
  stored_number place k (plain.in_bank r bank at row) None is a m few = absurd a
  stored_number place k (plain.number negative z) aimed is a m few = absurd is
  stored_number place k (plain.truth_value b) aimed is a m few = absurd is
  stored_number place k (plain.named r) aimed is a m few = absurd is
  stored_number place k (plain.applied op left right) aimed is a m few = absurd is
  stored_number place k (plain.converted inner to) aimed is a m few = absurd is

store_number : (scene : Scene) (lane : Lane) (first : ℕ) (target t : Term) (old new : Building) (next : ℕ) → MadeStored scene lane first target t old new next → IsAccessForm (form_of target)
    → first + (term_accesses t + term_accesses target) < 2 ^ 32 → NumbersLaid old new first (term_accesses t + term_accesses target) next
store_number scene lane first (plain.term place k form) t old new next m is few =
    let own : m.own ≡ first + term_accesses t = numbered scene lane old.values.current.items t old.draft m.middle old.accesses m.between first m.own m.value m.term (omega (arith, few)) in
    let s : Stored scene lane old.values.current.items t m.value m.middle m.end m.between m.behind new m.own next (form_accesses form) =
    stored_number scene lane old.values.current.items t m.value m.middle m.end m.between m.behind new m.own next place k form m.aimed is m.aims m.stores (omega (arith, own, few)) in
    let j = s.next_is in
    record {
      next_is = omega (arith, own, j);
      only = λ number out.
          s.only number (outside_behind first m.own (term_accesses t) (form_accesses form) number own out)
          ∙ touched_own scene lane old.values.current.items t old.draft m.middle old.accesses m.between first m.own m.value m.term (omega (arith, few)) number (outside_front first (term_accesses t) (form_accesses form) number out);
    }

pub aims_within : (target : Term) → IsAccessForm (form_of target) → aim_accesses (form_of target) + 1 ≡ term_accesses target
aims_within (plain.term place k (plain.accessed r ts)) is = omega arith
aims_within (plain.term place k (plain.in_bank r bank at row)) is = omega arith
aims_within (plain.term place k (plain.number negative z)) is = absurd is
aims_within (plain.term place k (plain.truth_value b)) is = absurd is
aims_within (plain.term place k (plain.named r)) is = absurd is
aims_within (plain.term place k (plain.applied op left right)) is = absurd is
aims_within (plain.term place k (plain.converted inner to)) is = absurd is

-- Parts.

pub arm_number : (Inner : Commanding) (around : Around) (holds : Truth) (tests : List ℕ) (old new : Building) (first next : ℕ) (lefts : List Left) (m : MadeArm Inner around holds tests old new first next lefts) (count : ℕ)
    → NumbersLaid m.begin m.inside first count next → NumbersLaid old new first count next
arm_number Inner around holds tests old new first next lefts m count h = record {
  next_is = h.next_is;
  only = λ number out. ap (λ (a : Accesses). touched_in a number) m.accesses ∙ (h.only number out ∙ ap (λ (a : Accesses). touched_in a number) m.begin_accesses);
}

pub some_arm : (Inner : Commanding) (around : Around) (holds : Truth) (tests : List ℕ) (old new : Building) (first next : ℕ) (lefts : List Left) (m : MadeArm Inner around holds tests old new first next lefts) → 0 < length tests → 0 < paths_counted m.arm
some_arm Inner around holds tests old new first next lefts m some =
    subst (λ (n : ℕ). 0 < n) (sym (arm_long holds around.guards.now tests (length tests) old.draft m.guarded m.arm.guards.now m.guards)) some

if_number : (scene : Scene) (Chosen Other : Around → (tests : List ℕ) → (old new : Building) → (first next : ℕ) → (lefts : List Left) → Type 0) (t : Term) (around : Around) (old new : Building) (first next : ℕ)
    (m : MadeIf scene Chosen Other t around old new first next) (c e : ℕ)
    → NumbersLaid old m.tested first (term_accesses t) m.own → NumbersLaid m.tested m.after_chosen m.own c m.behind → NumbersLaid m.after_chosen m.after_other m.behind e next → NumbersLaid old new first (term_accesses t + (c + e)) next
if_number scene Chosen Other t around old new first next m c e h k l =
    let all : NumbersLaid old m.after_other first (term_accesses t + (c + e)) next =
    numbers_then old m.tested m.after_other first m.own next (term_accesses t) (c + e) h (numbers_then m.tested m.after_chosen m.after_other m.own m.behind next c e k l) in
    record { next_is = all.next_is; only = λ number out. accesses_same m.after_other new number m.joined.same ∙ all.only number out }

-- a loop for which nothing is put down
numbers_idle : (old new : Building) (first count next : ℕ) → new ≡ old → next ≡ behind first count → first + count < 2 ^ 32 → NumbersLaid old new first count next
numbers_idle old new first count next still is few = record { next_is = is ∙ behind_few first count few; only = λ number out. ap (λ (b : Building). touched_in b.accesses number) still }

-- Commands at all paths.

module _ (scene : Scene) (around : Around) (first : ℕ) (old new : Building) (next : ℕ) (some : 0 < paths_counted around) where
  assigned_number : (entity : ℕ) (t : Term) → AssignedTo scene around first entity t (paths_counted around) old new next → AreFewIn first t → NumbersLaid old new first (term_accesses t) next
  assigned_number entity t m few =
      lanes_number (λ n b d k. MadeAssigned scene (lane_of around n) first entity t b d k) first (term_accesses t)
      (λ n b d k one. term_number scene (lane_of around n) first t b d one.middle k one.value one.term few) (paths_counted around) old new next some m

  cleared_number : (entity : ℕ) → ClearedTo scene around first entity (paths_counted around) old new next → NumbersLaid old new first 0 next
  cleared_number entity m =
      lanes_number (λ n b d k. MadeCleared scene (lane_of around n) entity b d × (k ≡ first)) first 0 (λ n b d k one. numbers_none b d first k (one.0).same one.1) (paths_counted around) old new next some m

  reduced_number : (entity : ℕ) (op : Op) (t : Term) → ReducedTo scene around first entity op t (paths_counted around) old new next → AreFewIn first t → NumbersLaid old new first (term_accesses t) next
  reduced_number entity op t m few =
      lanes_number (λ n b d k. MadeReduced scene (lane_of around n) first entity op t b d k) first (term_accesses t)
      (λ n b d k one. term_number scene (lane_of around n) first t b d one.middle k one.value one.term few) (paths_counted around) old new next some m

  stored_lanes_number : (target t : Term) → StoredTo scene around first target t (paths_counted around) old new next → IsAccessForm (form_of target) → first + (term_accesses t + term_accesses target) < 2 ^ 32
      → NumbersLaid old new first (term_accesses t + term_accesses target) next
  stored_lanes_number target t m is few =
      lanes_number (λ n b d k. MadeStored scene (lane_of around n) first target t b d k) first (term_accesses t + term_accesses target)
      (λ n b d k one. store_number scene (lane_of around n) first target t b d k one is few) (paths_counted around) old new next some m

-- a count, as it is written for a command
own_count : (old new : Building) (first c next : ℕ) → NumbersLaid old new first c next → NumbersLaid old new first (c + 0) next
own_count old new first c next h = numbers_as old new first c (c + 0) next (omega arith) h

inner_count : (old new : Building) (first c next : ℕ) → NumbersLaid old new first c next → NumbersLaid old new first (0 + c) next
inner_count old new first c next h = numbers_as old new first c (0 + c) next (omega arith) h

module _ (scene : Scene) where
  -- the offsets of a view
  kept_number : (lane : Lane) (first entity : ℕ) (offsets : List Term) (old new : Building) (next : ℕ) → MadeKept scene lane first entity offsets old new next → first + terms_accesses (terms offsets) < 2 ^ 32 → NumbersLaid old new first (terms_accesses (terms offsets)) next
  kept_number lane first entity offsets old new next m few = record {
    next_is = all_numbered scene lane old.values.current.items (terms offsets) old.draft m.middle old.accesses new.accesses first next m.values m.offsets_made few;
    only = λ number out. all_touched_own scene lane old.values.current.items (terms offsets) old.draft m.middle old.accesses new.accesses first next m.values m.offsets_made few number out;
  }

  view_reached : (hidden : List Hidden) (form : ViewPlan) (around : Around) (old new : Building) (first next : ℕ) → MadeView scene hidden form around old new first next → 0 < paths_counted around → first + (plan_accesses form + 0) < 2 ^ 32
      → NumbersLaid old new first (plan_accesses form + 0) next
  view_reached [] form around old new first next m some few = numbers_idle old new first (plan_accesses form + 0) next m.still m.next_is few
  view_reached (h ∷ hs) form around old new first next m some few =
      let less : first + plan_accesses form < 2 ^ 32 = omega (arith, few) in
      own_count old new first (plan_accesses form) next
      (lanes_number (λ n b d k. MadeKept scene (lane_of around n) first h.entity (offsets_of form) b d k) first (plan_accesses form)
      (λ n b d k one. kept_number (lane_of around n) first h.entity (offsets_of form) b d k one less) (paths_counted around) old new next some m)

  mutual
    pub command_reached : (a : Action) (around : Around) (old new : Building) (first next : ℕ) (m : MadeCommand scene a around old new first next) → StoresReach a → 0 < paths_counted around → first + accesses_of a < 2 ^ 32
        → AreFew scene a around old new first next m × NumbersLaid old new first (accesses_of a) next
    command_reached (action id place (lets name declared (Some value))) around old new first next m is some few =
        let less : AreFewIn first value = omega (arith, few) in
        (less, own_count old new first (term_accesses value) next (assigned_number scene around first old new next some (entity_number name.entity) value m less))
    command_reached (action id place (lets name declared None)) around old new first next m is some few =
        (tt, own_count old new first 0 next (cleared_number scene around first old new next some (entity_number name.entity) m))
    command_reached (action id place (assigns target value)) around old new first next m is some few =
        let less : AreFewIn first value = omega (arith, few) in
        (less, own_count old new first (term_accesses value) next (assigned_number scene around first old new next some (entity_number target.entity) value m less))
    command_reached (action id place (stores target value)) around old new first next m is some few =
        let all : first + (term_accesses value + term_accesses target) < 2 ^ 32 = omega (arith, few) in
        let aims = aims_within target is in
        (omega (arith, all, aims), own_count old new first (term_accesses value + term_accesses target) next (stored_lanes_number scene around first old new next some target value m is all))
    command_reached (action id place (reduces target op value)) around old new first next m is some few =
        let less : AreFewIn first value = omega (arith, few) in
        (less, own_count old new first (term_accesses value) next (reduced_number scene around first old new next some (entity_number target.entity) op value m less))
    command_reached (action id place (decides test chosen other)) around old new first next m is some few =
        let less : AreFewIn first test = omega (arith, few) in
        let tests : NumbersLaid old m.tested first (term_accesses test) m.own = tests_number scene around first test less (paths_counted around) old m.tested m.own m.tests some m.test in
        let own = tests.next_is in
        let long : length m.tests ≡ paths_counted around = (tests_same scene around first test (paths_counted around) old m.tested m.own m.tests m.test).1 in
        let some_tests : 0 < length m.tests = subst (λ (n : ℕ). 0 < n) (sym long) some in
        let one : AreFew scene chosen m.chosen.arm m.chosen.begin m.chosen.inside m.own m.behind m.chosen.command × NumbersLaid m.chosen.begin m.chosen.inside m.own (accesses_of chosen) m.behind =
        command_reached chosen m.chosen.arm m.chosen.begin m.chosen.inside m.own m.behind m.chosen.command is.0
        (some_arm (MadeCommand scene chosen) around true m.tests m.tested m.after_chosen m.own m.behind m.chosen_left m.chosen some_tests) (omega (arith, few, own)) in
        let behind = one.1.next_is in
        let two : AreFewOther scene other around m.tests m.after_chosen m.after_other m.behind next m.other_left m.other × NumbersLaid m.after_chosen m.after_other m.behind (other_accesses other) next =
        other_reached other around m.tests m.after_chosen m.after_other m.behind next m.other_left m.other is.1 some_tests (omega (arith, few, own, behind)) in (
          (less, (one.0, two.0)),
          if_number scene (λ a ts b d n k ls. MadeArm (MadeCommand scene chosen) a true ts b d n k ls) (MadeOther scene other) test around old new first next m (accesses_of chosen) (other_accesses other) tests
              (arm_number (MadeCommand scene chosen) around true m.tests m.tested m.after_chosen m.own m.behind m.chosen_left m.chosen (accesses_of chosen) one.1) two.1,
        )
    command_reached (action id place (blocks body)) around old new first next m is some few =
        let all : AreFewGroups scene body around old new first next m × NumbersLaid old new first (groups_accesses body) next = groups_reached body around old new first next m is some (omega (arith, few)) in
        (all.0, inner_count old new first (groups_accesses body) next all.1)
    command_reached (action id place (lets_memory name shape shape_places value)) around old new first next m is some few = (tt, numbers_none old new first next (ap (λ (b : Building). b.accesses) m.still) m.next_is)
    command_reached (action id place (views name parent form)) around old new first next m is some few =
        (omega (arith, few), view_reached (hidden_in (way_of (known_in scene) name)) form around old new first next m some few)
    command_reached (action id place (calls function arguments)) around old new first next m is some few = (tt, numbers_none old new first next (ap (λ (b : Building). b.accesses) m.still) m.next_is)
    command_reached (action id place (repeats test body)) around old new first next m is some few = (tt, numbers_idle old new first (term_accesses test + accesses_of body) next m.still m.next_is few)
    command_reached (action id place (counts iterator declared low high factor body combine combine_place)) around old new first next m is some few =
        (tt, numbers_idle old new first (0 + (accesses_of body + other_accesses combine)) next m.still m.next_is few)

    pub other_reached : (other : MaybeAction) (around : Around) (tests : List ℕ) (old new : Building) (first next : ℕ) (lefts : List Left) (m : MadeOther scene other around tests old new first next lefts) → StoresReachOther other
        → 0 < length tests → first + other_accesses other < 2 ^ 32 → AreFewOther scene other around tests old new first next lefts m × NumbersLaid old new first (other_accesses other) next
    other_reached no_action around tests old new first next lefts m is some few = (tt, numbers_none old new first next (ap (λ (b : Building). b.accesses) m.still) m.next_is)
    other_reached (one_action a) around tests old new first next lefts m is some few =
        let one : AreFew scene a m.arm m.begin m.inside first next m.command × NumbersLaid m.begin m.inside first (accesses_of a) next =
        command_reached a m.arm m.begin m.inside first next m.command is (some_arm (MadeCommand scene a) around false tests old new first next lefts m some) few in
        (one.0, arm_number (MadeCommand scene a) around false tests old new first next lefts m (accesses_of a) one.1)

    pub actions_reached : (part : Actions) (around : Around) (old new : Building) (first next : ℕ) (m : MadeActions scene part around old new first next) → StoresReachPart part → 0 < paths_counted around → first + part_accesses part < 2 ^ 32
        → AreFewActions scene part around old new first next m × NumbersLaid old new first (part_accesses part) next
    actions_reached no_actions around old new first next m is some few = (tt, numbers_none old new first next (ap (λ (b : Building). b.accesses) m.still) m.next_is)
    actions_reached (action_then a rest) around old new first next m is some few =
        let one : AreFew scene a around old m.middle first m.own m.one × NumbersLaid old m.middle first (accesses_of a) m.own = command_reached a around old m.middle first m.own m.one is.0 some (omega (arith, few)) in
        let own = one.1.next_is in
        let more : AreFewActions scene rest around m.middle new m.own next m.rest × NumbersLaid m.middle new m.own (part_accesses rest) next =
        actions_reached rest around m.middle new m.own next m.rest is.1 some (omega (arith, few, own)) in
        ((one.0, more.0), numbers_then old m.middle new first m.own next (accesses_of a) (part_accesses rest) one.1 more.1)

    pub groups_reached : (body : Groups) (around : Around) (old new : Building) (first next : ℕ) (m : MadeGroups scene body around old new first next) → StoresReachGroups body → 0 < paths_counted around
        → first + groups_accesses body < 2 ^ 32 → AreFewGroups scene body around old new first next m × NumbersLaid old new first (groups_accesses body) next
    groups_reached no_groups around old new first next m is some few = (tt, numbers_none old new first next (ap (λ (b : Building). b.accesses) m.still) m.next_is)
    groups_reached (group_then part rest) around old new first next m is some few =
        let one : AreFewActions scene part around old m.middle first m.own m.one × NumbersLaid old m.middle first (part_accesses part) m.own = actions_reached part around old m.middle first m.own m.one is.0 some (omega (arith, few)) in
        let own = one.1.next_is in
        let more : AreFewGroups scene rest around m.middle new m.own next m.rest × NumbersLaid m.middle new m.own (groups_accesses rest) next =
        groups_reached rest around m.middle new m.own next m.rest is.1 some (omega (arith, few, own)) in
        ((one.0, more.0), numbers_then old m.middle new first m.own next (part_accesses part) (groups_accesses rest) one.1 more.1)

  -- Straight commands are so.

  mutual
    pub straight_reaches : (a : Action) → IsStraightAction a → StoresReach a
    straight_reaches (action id place (lets name declared value)) is = tt
    straight_reaches (action id place (assigns target value)) is = tt
    straight_reaches (action id place (stores target value)) is = is
    straight_reaches (action id place (reduces target op value)) is = tt
    straight_reaches (action id place (decides test chosen other)) is = (straight_reaches chosen is.0, other_reaches other is.1)
    straight_reaches (action id place (blocks body)) is = groups_reach body is
    straight_reaches (action id place (lets_memory name shape shape_places value)) is = tt
    straight_reaches (action id place (views name parent form)) is = tt
    straight_reaches (action id place (calls function arguments)) is = tt
    straight_reaches (action id place (repeats test body)) is = tt
    straight_reaches (action id place (counts iterator declared low high factor body combine combine_place)) is = tt

    other_reaches : (other : MaybeAction) → IsStraightOther other → StoresReachOther other
    other_reaches no_action is = tt
    other_reaches (one_action a) is = straight_reaches a is

    part_reaches : (part : Actions) → AreStraight part → StoresReachPart part
    part_reaches no_actions is = tt
    part_reaches (action_then a rest) is = (straight_reaches a is.0, part_reaches rest is.1)

    groups_reach : (body : Groups) → AreStraightGroups body → StoresReachGroups body
    groups_reach no_groups is = tt
    groups_reach (group_then part rest) is = (part_reaches part is.0, groups_reach rest is.1)

  pub command_numbered : (a : Action) (around : Around) (old new : Building) (first next : ℕ) (m : MadeCommand scene a around old new first next) → IsStraightAction a → 0 < paths_counted around → first + accesses_of a < 2 ^ 32
      → AreFew scene a around old new first next m × NumbersLaid old new first (accesses_of a) next
  command_numbered a around old new first next m is some few = command_reached a around old new first next m (straight_reaches a is) some few

  pub actions_numbered : (part : Actions) (around : Around) (old new : Building) (first next : ℕ) (m : MadeActions scene part around old new first next) → AreStraight part → 0 < paths_counted around → first + part_accesses part < 2 ^ 32
      → AreFewActions scene part around old new first next m × NumbersLaid old new first (part_accesses part) next
  actions_numbered part around old new first next m is some few = actions_reached part around old new first next m (part_reaches part is) some few

  pub groups_numbered : (body : Groups) (around : Around) (old new : Building) (first next : ℕ) (m : MadeGroups scene body around old new first next) → AreStraightGroups body → 0 < paths_counted around
      → first + groups_accesses body < 2 ^ 32 → AreFewGroups scene body around old new first next m × NumbersLaid old new first (groups_accesses body) next
  groups_numbered body around old new first next m is some few = groups_reached body around old new first next m (groups_reach body is) some few

pub commands_number : CommandsNumber
commands_number scene a around old new first next m is some few = command_numbered scene a around old new first next m is some few

pub groups_number : GroupsNumber
groups_number scene body around old new first next m is some few = groups_numbered scene body around old new first next m is some few

pub reaching_number : ReachingNumber
reaching_number scene a around old new first next m is some few = command_reached scene a around old new first next m is some few
