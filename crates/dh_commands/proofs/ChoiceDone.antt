-- An `if` with its arms: its test at all paths, its arms, each from the values before it, and the choices.
use Rattle.std.proofs.Common.{◌≡◌, ◌⊎◌, inl, inr, ℕ, ◌+◌, ◌<◌, ◌^◌, Bool, true, false, List, [], ◌∷◌, ◌++◌, length, refl, ap, sym, ◌∙◌, subst, arith}
use Rattle.std.specs.Prelude.{Option, ◌||◌, slice_index}
use Rattle.std.specs.List.{AllByRecursion}
use Rattle.dh_base.specs.declared.places.Place.{Place}
use Rattle.dh_value.specs.Words.{word_of}
use Rattle.dh_value.specs.Operations.{is_true}
use Rattle.dh_tree.specs.PlainTrees as plain
use Rattle.dh_tree.specs.PlainTrees.{Action, action, decides, MaybeAction}
use Rattle.dh_meaning.specs.AccessNumbers.{accesses_of, other_accesses, term_accesses}
use Rattle.dh_meaning.specs.Core.{no_commands}
use Rattle.dh_meaning.specs.CoreOf.{core_action, core_other}
use Rattle.dh_meaning.specs.Effects.{Effect, commands_run, paths_where}
use Rattle.dh_meaning.specs.Levels.{any_assigns}
use Rattle.dh_meaning.specs.Paths.{Path}
use Rattle.dh_code.specs.Slots.{held_at}
use Rattle.dh_expressions.specs.declared.accesses.Accesses.{Accesses}
use Rattle.dh_expressions.specs.declared.scenes.Around.{Around}
use Rattle.dh_expressions.specs.declared.scenes.Scene.{Scene}
use Rattle.dh_expressions.specs.Drafted.{BlockBegun, Extends, FitsStep, BlockStep}
use Rattle.dh_expressions.specs.Evaluated.{Knows, StepReads, begun_of, known_in}
use Rattle.dh_expressions.proofs.Pushing.{begun_later, extends_again, fits_before}
use Rattle.dh_commands.specs.declared.assignments.Change.{Change}
use Rattle.dh_commands.specs.declared.assignments.Values.{Values}
use Rattle.dh_commands.specs.declared.buildings.Building.{Building}
use Rattle.dh_commands.specs.declared.choices.Choice.{Choice}
use Rattle.dh_commands.specs.declared.choices.Left.{Left}
use Rattle.dh_commands.specs.LanesRun.{IsArm, is_on_at, lanes_run, path_in, paths_counted, paths_on}
use Rattle.dh_commands.specs.ShownVariables.{HasOwnCopies, IsSeen, ShowsVariables, ShowsVariableAt, register_in}
use Rattle.dh_commands.specs.Undone.{AreReady, Changes, HasRoom, IsChange}
use Rattle.dh_commands.specs.Followed.{Arms, arms_of, Follows, FollowsOther, Sets, SetsOther, effect_of, other_effect, test_out, test_run, view_at_step}
use Rattle.dh_commands.specs.Joined.{AreChoices, IsLeft, JoinsArms}
use Rattle.dh_commands.specs.Choosing.{Chooses, IsOfChoice}
use Rattle.dh_commands.specs.Done.{DoesCommand, StandsBeside}
use Rattle.dh_commands.specs.Setting.{TestsAll}
use Rattle.dh_commands.specs.Parted.{DoesArm, DoesOther, ShowsTests}
use Rattle.dh_commands.proofs.ArmsDone.{Halfway, arm_extends, arm_values, ends_kept, ends_knows, ends_shows, ends_tells, halfway, is_arm}
use Rattle.dh_commands.proofs.ArmsJoined.{choice_set, joined_shows}
use Rattle.dh_commands.proofs.ArmsLeft.{AreSame, ArmLeft, lefts_given, nothing_changed, same_again, same_ready}
use Rattle.dh_commands.proofs.CoreRuns.{action_any, or_none, sets_other}
use Rattle.dh_commands.proofs.LanesInOrder.{arm_paths, lanes_are}
use Rattle.dh_commands.proofs.OtherDone.{OtherDone, OtherEnds, other_arm, other_arms, other_done, other_next, other_shaped}

-- What an arm left, from the same values.
left_from : (scene : Scene) (around : Around) (May : ℕ → Type 0) (base now behind : List (Option ℕ)) (lefts : List Left) → base ≡ now → ArmLeft scene around May base behind lefts → ArmLeft scene around May now behind lefts
left_from scene around May base now behind lefts same h = subst (λ (os : List (Option ℕ)). ArmLeft scene around May os behind lefts) same h

given_left : (scene : Scene) (around : Around) (May : ℕ → Type 0) (base behind : List (Option ℕ)) (lefts : List Left) → ArmLeft scene around May base behind lefts → AllByRecursion (IsLeft base) lefts
given_left scene around May base behind lefts h = subst (λ (ls : List Left). AllByRecursion (IsLeft base) ls) (sym h.lefts_are) (lefts_given base h.more behind h.given h.room)

chosen_each : (scene : Scene) (around : Around) (May More : ℕ → Type 0) (chosen other : List Left) (base one two : List (Option ℕ)) → ArmLeft scene around May base one chosen → ArmLeft scene around May base two other
    → (choices : List Choice) → AreChoices chosen other choices → ((entity : ℕ) → May entity → More entity) → (cs : List Change) → AllByRecursion (IsOfChoice choices) cs → AllByRecursion (IsChange scene around More) cs
chosen_each scene around May More chosen other base one two a b choices are wider [] all = tt
chosen_each scene around May More chosen other base one two a b choices are wider (c ∷ cs) all =
    let set = choice_set scene around May chosen other base one two a b choices are all.0.number all.0.choice all.0.there in (
      record {
        entity = set.entity;
        may = wider set.entity set.may;
        within = subst (λ (p : ℕ). p < paths_counted around) (sym all.0.path_is) set.within;
        register_is = all.0.register_is ∙ (set.register_is ∙ ap (λ p. register_in scene around set.entity p) (sym all.0.path_is));
      },
      chosen_each scene around May More chosen other base one two a b choices are wider cs all.1,
    )

rooms_in : (xs ys : List (Option ℕ)) (cs : List Change) → xs ≡ ys → AllByRecursion (HasRoom xs) cs → AllByRecursion (HasRoom ys) cs
rooms_in xs ys cs same a = subst (λ (os : List (Option ℕ)). AllByRecursion (HasRoom os) cs) same a

either_true : (a b : Bool) → (a ≡ true) ⊎ (b ≡ true) → (a || b) ≡ true
either_true true b h = refl
either_true false b (inl e) = absurd (cc)
either_true false b (inr e) = e

module _ (scene : Scene) (around : Around) (first n1 n2 n3 : ℕ) (t : plain.Term) (chosen : Action) (other : MaybeAction) (old b1 b2 b3 new : Building) (tests : List ℕ) (lefts others : List Left) (choices : List Choice) (v4 : Values)
    (does_tests : TestsAll scene around old b1 first n1 t tests) (one : DoesArm scene around tests true chosen n1 n2 b1 b2 lefts) (two : DoesOther scene around tests other n2 n3 b2 b3 others)
    (joins : JoinsArms b3.values v4 lefts others choices) (chooses : Chooses b3.draft new.draft v4 new.values tests choices (length choices)) (accesses : new.accesses ≡ b3.accesses) where
  abbrev May : ℕ → Type 0
  May entity = Sets scene chosen entity ⊎ SetsOther scene other entity

  abbrev Few : Type 0
  Few = first + (term_accesses t + (accesses_of chosen + other_accesses other)) < 2 ^ 32

  module _ (some : 0 < paths_counted around) (few : Few) where
    some_tests : 0 < length tests
    some_tests = subst (λ (n : ℕ). 0 < n) (sym does_tests.long) some

    few_test : first + term_accesses t < 2 ^ 32
    few_test = omega (arith, few)

    one_at : n1 ≡ first + term_accesses t
    one_at = does_tests.does.next_is some few_test

    few_one : n1 + accesses_of chosen < 2 ^ 32
    few_one = let e = one_at in omega (arith, few, e)

    two_at : n2 ≡ n1 + accesses_of chosen
    two_at = one.next_is some_tests few_one

    few_two : n2 + other_accesses other < 2 ^ 32
    few_two = let e = one_at in let f = two_at in omega (arith, few, e, f)

    pub last_at : n3 ≡ first + (term_accesses t + (accesses_of chosen + other_accesses other))
    last_at = let e = one_at in let f = two_at in let g = other_next scene around tests other n2 n3 b2 b3 others two some_tests few_two in omega (arith, e, f, g)

    abbrev arm_two : Around
    arm_two = other_arm scene around tests other n2 n3 b2 b3 others two

    abbrev arms_two : Arms
    arms_two = other_arms scene around tests other n2 n3 b2 b3 others two

    done : OtherDone scene around tests May n2 other b2 b3 others arm_two arms_two
    done = other_done scene around tests May does_tests.long some_tests other n2 n3 b2 b3 others two few_two (λ entity sets. inr sets)

    extends_one : Extends b1.draft b2.draft
    extends_one = arm_extends scene around tests true chosen n1 n2 b1 b2 lefts one does_tests.long some_tests few_one

    pub all_extends : Extends old.draft new.draft
    all_extends =
        extends_again old.draft b1.draft new.draft (does_tests.does.so few_test).extends
        (extends_again b1.draft b2.draft new.draft extends_one (extends_again b2.draft b3.draft new.draft done.extends chooses.adds.extends))

    -- Values.
    module _ (ready : AreReady old.values) where
      same_one : AreSame old.values b1.values
      same_one = nothing_changed scene around old.values b1.values ((does_tests.does.so few_test).changes ready)

      ready_one : AreReady b1.values
      ready_one = same_ready old.values b1.values same_one ready

      values_one : AreSame b1.values b2.values × ArmLeft scene around May b1.values.current.items one.inside.values.current.items lefts
      values_one = arm_values scene around tests true chosen n1 n2 b1 b2 lefts one does_tests.long some_tests few_one May (λ entity sets. inl sets) ready_one

      ready_two : AreReady b2.values
      ready_two = same_ready b1.values b2.values values_one.0 ready_one

      values_two : AreSame b2.values b3.values × ArmLeft scene around May b2.values.current.items done.behind others
      values_two = done.values ready_two

      ready_three : AreReady b3.values
      ready_three = same_ready b2.values b3.values values_two.0 ready_two

      -- both arms, from the values before the choices
      left_one : ArmLeft scene around May b3.values.current.items one.inside.values.current.items lefts
      left_one =
          left_from scene around May b1.values.current.items b3.values.current.items one.inside.values.current.items lefts (sym (values_two.0.current ∙ values_one.0.current)) values_one.1

      left_two : ArmLeft scene around May b3.values.current.items done.behind others
      left_two = left_from scene around May b2.values.current.items b3.values.current.items done.behind others (sym values_two.0.current) values_two.1

      given_one : AllByRecursion (IsLeft b3.values.current.items) lefts
      given_one = given_left scene around May b3.values.current.items one.inside.values.current.items lefts left_one

      given_two : AllByRecursion (IsLeft b3.values.current.items) others
      given_two = given_left scene around May b3.values.current.items done.behind others left_two

      are : AreChoices lefts others choices
      are = joins.are ready_three given_one given_two

      same_four : AreSame b3.values v4
      same_four = record { current = ap (λ v. v.items) joins.current; log = ap (λ v. v.items) joins.log; marks = joins.marks ready_three given_one given_two }

      ready_four : AreReady v4
      ready_four = same_ready b3.values v4 same_four ready_three

      same_all : AreSame old.values v4
      same_all = same_again old.values b1.values v4 same_one (same_again b1.values b2.values v4 values_one.0 (same_again b2.values b3.values v4 values_two.0 same_four))

      pub all_changes : (More : ℕ → Type 0) → ((entity : ℕ) → May entity → More entity) → Changes scene around More old.values new.values
      all_changes More wider = record {
        more = chooses.logs.more;
        log = chooses.logs.log ∙ ap (λ (cs : List Change). cs ++ chooses.logs.more) same_all.log;
        back = chooses.logs.back ∙ same_all.current;
        long = chooses.logs.long ∙ ap (λ (os : List (Option ℕ)). length os) same_all.current;
        marks = chooses.logs.marks ∙ same_all.marks;
        each = chosen_each scene around May More lefts others b3.values.current.items one.inside.values.current.items done.behind left_one left_two choices are wider chooses.logs.more chooses.logs.each;
        room = rooms_in v4.current.items old.values.current.items chooses.logs.more same_all.current chooses.logs.room;
        given = chooses.logs.given;
      }

      ready_new : AreReady new.values
      ready_new = record {
        unmarked = λ register. ap (λ (ms : List ℕ). slice_index ms register) chooses.logs.marks ∙ ready_four.unmarked register;
        long = ap (λ (ms : List ℕ). length ms) chooses.logs.marks ∙ (ready_four.long ∙ sym chooses.logs.long);
      }

      long_new : length new.values.current.items ≡ length old.values.current.items
      long_new = chooses.logs.long ∙ ap (λ (os : List (Option ℕ)). length os) same_all.current

    -- A step.
    module _ (id : ℕ) (place : Place) (x : BlockStep) (reads : StepReads) (e : Effect) (fits : FitsStep x new.draft) (begun : BlockBegun x old.draft)
        (follows : Follows scene x reads around (arms_of one.arm arm_two one.arms arms_two) first (action id place (decides t chosen other)) e) (stands : StandsBeside scene around x reads old e) where
      fits3 : FitsStep x b3.draft
      fits3 = fits_before b3.draft new.draft x chooses.adds.extends fits

      fits2 : FitsStep x b2.draft
      fits2 = fits_before b2.draft b3.draft x done.extends fits3

      fits1 : FitsStep x b1.draft
      fits1 = fits_before b1.draft b2.draft x extends_one fits2

      begun1 : BlockBegun x b1.draft
      begun1 = begun_later old.draft b1.draft x (does_tests.does.so few_test).extends begun

      begun2 : BlockBegun x b2.draft
      begun2 = begun_later b1.draft b2.draft x extends_one begun1

      begun3 : BlockBegun x b3.draft
      begun3 = begun_later b2.draft b3.draft x done.extends begun2

      abbrev e1 : Effect
      e1 = lanes_run x around (test_run scene x first t) (paths_counted around) e

      stands1 : StandsBeside scene around x reads b1 e1
      stands1 = (does_tests.does.so few_test).so x reads e fits1 begun follows.0 stands

      abbrev truths : Path → Bool
      truths = test_out scene x first t e

      own : (entity : ℕ) → May entity → HasOwnCopies scene around entity
      own = follows.1.0.own

      shown_tests : ShowsTests x around tests truths
      shown_tests number test inside on at = ap is_true (does_tests.are few_test x reads e fits1 begun follows.0 stands number test inside on at)

      half1 : Halfway scene around x reads truths true b1 e1
      half1 = halfway scene around x reads truths true b1 e1 stands1

      arm_is : IsArm x around one.arm true truths
      arm_is = is_arm scene around tests true chosen n1 n2 b1 b2 lefts one does_tests.long some_tests few_one x reads e1 fits2 begun1 truths shown_tests half1

      follows1 : Follows scene x reads one.arm one.arms n1 chosen e1
      follows1 = subst (λ (n : ℕ). Follows scene x reads one.arm one.arms n chosen e1) (sym one_at) (follows.1.1.0 arm_is)

      abbrev e2 : Effect
      e2 = effect_of scene x (paths_on x one.arm) n1 chosen e1

      kept1 : (entity j : ℕ) → IsSeen scene around.levels.now entity → j < paths_counted around → is_on_at x around j ≡ true → truths (path_in around j) ≡ false → ShowsVariableAt scene around x b2.values.current.items e2.variables entity j
      kept1 entity j there inside on is =
          subst (λ (os : List (Option ℕ)). ShowsVariableAt scene around x os e2.variables entity j) (sym (values_one stands.ready).0.current)
          (stands1.shows.each entity j there inside on
          ∙ ap (λ z. word_of (held_at scene.held.now entity).kind z)
          (sym (ends_kept scene around tests true chosen n1 n2 b1 b2 lefts one does_tests.long some_tests few_one x reads e1 fits2 begun1 truths shown_tests half1 follows1 follows.1.0.chosen_deep (λ i sets. own i (inl sets)) entity j there inside on is)))

      half2 : Halfway scene around x reads truths false b2 e2
      half2 = record {
        knows = ends_knows scene around tests true chosen n1 n2 b1 b2 lefts one does_tests.long some_tests few_one x reads e1 fits2 begun1 truths shown_tests half1 follows1;
        shows = kept1;
        tells = ends_tells scene around tests true chosen n1 n2 b1 b2 lefts one does_tests.long some_tests few_one x reads e1 fits2 begun1 truths shown_tests half1 follows1;
        room = λ entity j there inside.
            subst (λ (n : ℕ). register_in scene around entity j < n) (sym (ap (λ (os : List (Option ℕ)). length os) ((values_one stands.ready).0.current ∙ (same_one stands.ready).current))) (stands.room entity j there inside);
        ready = ready_two stands.ready;
      }

      abbrev FollowsAt : (m k : ℕ) → Type 0
      FollowsAt m k = FollowsOther scene x reads arm_two arms_two m other (effect_of scene x (paths_on x one.arm) k chosen e1)

      follows2 : IsArm x around arm_two false truths → FollowsAt n2 n1
      follows2 arm =
          subst (λ (k : ℕ). FollowsAt n2 k) (sym one_at)
          (subst (λ (m : ℕ). FollowsAt m (first + term_accesses t)) (sym (two_at ∙ ap (λ n. n + accesses_of chosen) one_at)) (follows.1.1.1 arm_is arm))

      abbrev e3 : Effect
      e3 = other_effect scene x (paths_where false truths (paths_on x around)) n2 other e2

      ends2 : OtherEnds scene around x reads truths b3 done.behind e2 e3
      ends2 = done.so x reads e2 fits3 begun2 truths shown_tests half2 follows.1.0.other_deep own follows2

      shows_new : ShowsVariables scene around x new.values.current.items e3.variables
      shows_new =
          joined_shows scene around May x tests lefts others b3.values.current.items one.inside.values.current.items done.behind (left_one stands.ready) (left_two stands.ready) choices (are stands.ready) b3.draft new.draft v4 new.values
          chooses (same_four stands.ready).current does_tests.long fits begun3 truths shown_tests own e3.variables
          (λ entity j there inside on is.
          ends_shows scene around tests true chosen n1 n2 b1 b2 lefts one does_tests.long some_tests few_one x reads e1 fits2 begun1 truths shown_tests half1 follows1 entity j there inside on is
          ∙ ap (λ z. word_of (held_at scene.held.now entity).kind z) (sym (ends2.kept entity j there inside on is)))
          ends2.shows

      stands_new : StandsBeside scene around x reads new e3
      stands_new = record {
        knows = λ variables. subst (λ (a : Accesses). Knows (view_at_step x reads variables) a) (sym accesses) (ends2.knows variables);
        shows = shows_new;
        tells = chooses.adds.quiet x fits begun3 ∙ ends2.tells;
        room = λ entity j there inside. subst (λ (n : ℕ). register_in scene around entity j < n) (sym (long_new stands.ready)) (stands.room entity j there inside);
        ready = ready_new stands.ready;
      }

      same_effect : e3 ≡ effect_of scene x (paths_on x around) first (action id place (decides t chosen other)) e
      same_effect =
          ap (λ n. commands_run (begun_of x) (paths_where false truths (paths_on x around)) (core_other (known_in scene) n other) e2) (two_at ∙ ap (λ n. n + accesses_of chosen) one_at)
          ∙ ap (λ f. commands_run (begun_of x) (paths_where false truths (paths_on x around)) (core_other (known_in scene) (first + term_accesses t + accesses_of chosen) other) f)
          (ap (λ n. commands_run (begun_of x) (paths_on x one.arm) (core_action (known_in scene) n chosen no_commands) e1) one_at
          ∙ (ap (λ ps. commands_run (begun_of x) ps (core_action (known_in scene) (first + term_accesses t) chosen no_commands) e1) (arm_paths x around one.arm true truths arm_is)
          ∙ ap (λ f. commands_run (begun_of x) (paths_where true truths (paths_on x around)) (core_action (known_in scene) (first + term_accesses t) chosen no_commands) f)
          (lanes_are x around (test_run scene x first t) (paths_counted around) e)))

      pub all_stands : StandsBeside scene around x reads new (effect_of scene x (paths_on x around) first (action id place (decides t chosen other)) e)
      all_stands = subst (λ (f : Effect). StandsBeside scene around x reads new f) same_effect stands_new

  choice_sets : (id : ℕ) (place : Place) (entity : ℕ) → May entity → Sets scene (action id place (decides t chosen other)) entity
  choice_sets id place entity may = or_none _ ∙ either_true _ _ (by may)
    where
      by : May entity → (any_assigns entity (core_action (known_in scene) (0 + term_accesses t) chosen no_commands) ≡ true) ⊎ (any_assigns entity (core_other (known_in scene) (0 + term_accesses t + accesses_of chosen) other) ≡ true)
      by (inl sets) = inl (action_any scene entity (0 + term_accesses t) chosen ∙ (sym (action_any scene entity 0 chosen) ∙ sets))
      by (inr sets) = inr (sets_other scene entity (0 + term_accesses t + accesses_of chosen) other ∙ (sym (sets_other scene entity 0 other) ∙ sets))

  pub choice_done : (id : ℕ) (place : Place) → DoesCommand scene around (action id place (decides t chosen other)) first n3 old new
  choice_done id place = record {
    next_is = λ some few. last_at some few;
    arms = arms_of one.arm (other_arm scene around tests other n2 n3 b2 b3 others two) one.arms (other_arms scene around tests other n2 n3 b2 b3 others two);
    shaped = (one.shaped, other_shaped scene around tests other n2 n3 b2 b3 others two);
    so = λ some few. record {
      extends = all_extends some few;
      changes = λ ready. all_changes some few ready (Sets scene (action id place (decides t chosen other))) (choice_sets id place);
      so = λ x reads e fits begun follows stands. all_stands some few id place x reads e fits begun follows stands;
    };
  }
