-- One arm of an `if`, from what stands halfway: at the paths at which it is done its variables show what they hold as it
-- ends; at the others, at which it is not done, it keeps them.
use Rattle.std.proofs.Common.{◌≡◌, ℕ, ◌+◌, ◌-◌, ◌<◌, ◌^◌, Bool, true, false, List, [], ◌∷◌, length, refl, ap, sym, ◌∙◌, subst}
use Rattle.std.specs.Prelude.{◌&&◌, min, not}
use Rattle.std.specs.List.{AllByRecursion}
use Rattle.dh_value.specs.Words.{word_of}
use Rattle.dh_tree.specs.PlainTrees.{Action}
use Rattle.dh_meaning.specs.AccessNumbers.{accesses_of}
use Rattle.dh_meaning.specs.Core.{no_commands}
use Rattle.dh_meaning.specs.CoreOf.{core_action}
use Rattle.dh_meaning.specs.Effects.{Effect, Variables}
use Rattle.dh_meaning.specs.Paths.{Path}
use Rattle.dh_code.specs.Slots.{held_at}
use Rattle.dh_plan.proofs.SourceMoves.{and_left, and_right}
use Rattle.dh_expressions.specs.declared.drafts.Draft.{Draft}
use Rattle.dh_expressions.specs.declared.paths.Level.{Level}
use Rattle.dh_expressions.specs.declared.scenes.Around.{Around}
use Rattle.dh_expressions.specs.declared.scenes.Scene.{Scene}
use Rattle.dh_expressions.specs.declared.accesses.Accesses.{Accesses}
use Rattle.dh_expressions.specs.Drafted.{BlockBegun, Extends, FitsStep, BlockStep, tale, tales_told}
use Rattle.dh_expressions.specs.Evaluated.{Knows, StepReads, begun_of, counter_of, known_in}
use Rattle.dh_expressions.specs.Levels.{rank_number}
use Rattle.dh_commands.specs.declared.assignments.Change.{Change}
use Rattle.dh_commands.specs.declared.assignments.Values.{Values}
use Rattle.dh_commands.specs.declared.buildings.Building.{Building}
use Rattle.dh_commands.specs.declared.choices.Left.{Left}
use Rattle.dh_commands.specs.LanesRun.{IsArm, comes_out, is_on_at, path_in, paths_counted, paths_on}
use Rattle.dh_commands.specs.ShownVariables.{HasOwnCopies, IsSeen, ShowsVariableAt, register_in, seen_path}
use Rattle.dh_commands.specs.Undone.{AreReady, Changes, IsChange}
use Rattle.dh_commands.specs.Followed.{Follows, KeepsDeep, Sets, effect_of, view_at_step}
use Rattle.dh_commands.specs.Done.{StandsBeside}
use Rattle.dh_commands.specs.Parted.{DoesArm, ShowsTests}
use Rattle.dh_commands.proofs.ArmsBegun.{register_same, seen_around, seen_inside, seen_same, shown_same}
use Rattle.dh_commands.proofs.ArmsLeft.{AreSame, ArmLeft, arm_ended}
use Rattle.dh_commands.proofs.CoreRuns.{action_any, action_deep}
use Rattle.dh_commands.proofs.PathsKept.{commands_keep, keeps_own}

-- more variables may be set
changes_each : (scene : Scene) (around : Around) (May More : ℕ → Type 0) (cs : List Change) → ((entity : ℕ) → May entity → More entity) → AllByRecursion (IsChange scene around May) cs → AllByRecursion (IsChange scene around More) cs
changes_each scene around May More [] wider all = tt
changes_each scene around May More (c ∷ cs) wider all =
    (record { entity = all.0.entity; may = wider all.0.entity all.0.may; within = all.0.within; register_is = all.0.register_is }, changes_each scene around May More cs wider all.1)

pub changes_wider : (scene : Scene) (around : Around) (May More : ℕ → Type 0) (a b : Values) → ((entity : ℕ) → May entity → More entity) → Changes scene around May a b → Changes scene around More a b
changes_wider scene around May More a b wider h = record {
  more = h.more;
  log = h.log;
  back = h.back;
  long = h.long;
  marks = h.marks;
  each = changes_each scene around May More h.more wider h.each;
  room = h.room;
  given = h.given;
}

registers_by : (scene : Scene) (arm around : Around) → arm.levels.now ≡ around.levels.now → (e j : ℕ) → register_in scene arm e j ≡ register_in scene around e j
registers_by scene arm around same e j = ap (λ (ls : List Level). min ((held_at scene.held.now e).first + rank_number ls (held_at scene.held.now e).depth j) (2 ^ 64 - 1)) same

-- what is another at each path is so in an arm
pub own_in_arm : (scene : Scene) (around arm : Around) (x : BlockStep) (holds : Bool) (test : Path → Bool) (h : IsArm x around arm holds test) (entity : ℕ) → HasOwnCopies scene around entity → HasOwnCopies scene arm entity
own_in_arm scene around arm x holds test h entity own = record {
  placed = record {
    apart = λ e f i j te tf ii ij same.
        let a = own.placed.apart e f i j (up e te) (up f tf) (inside i ii) (inside j ij) (sym (register e i) ∙ (same ∙ register f j)) in
        (a.0, seen e i ∙ (a.1 ∙ sym (seen f j)));
    one = λ e i j te ii ij same. register e i ∙ (own.placed.one e i j (up e te) (inside i ii) (inside j ij) (sym (seen e i) ∙ (same ∙ seen e j)) ∙ sym (register e j));
  };
  there = seen_inside scene around arm x holds test h entity own.there;
  own = λ i j ii ij same. own.own i j (inside i ii) (inside j ij) (sym (register entity i) ∙ (same ∙ register entity j));
}
  where
    up : (e : ℕ) → IsSeen scene arm.levels.now e → IsSeen scene around.levels.now e
    up = seen_around scene around arm x holds test h

    register : (e j : ℕ) → register_in scene arm e j ≡ register_in scene around e j
    register e j = register_same scene around arm x holds test h e j

    seen : (e j : ℕ) → seen_path scene arm e j ≡ seen_path scene around e j
    seen e j = seen_same scene around arm x holds test h e j

    inside : (i : ℕ) → i < paths_counted arm → i < paths_counted around
    inside i l = subst (λ (n : ℕ). i < n) h.long l

-- what stands of an arm's paths, before it
pub record Halfway (scene : Scene) (around : Around) (x : BlockStep) (reads : StepReads) (truths : Path → Bool) (holds : Bool) (b : Building) (e : Effect) : Type 0 where
  pub knows : (variables : Variables) → Knows (view_at_step x reads variables) b.accesses
  pub shows : (entity j : ℕ) → IsSeen scene around.levels.now entity → j < paths_counted around → is_on_at x around j ≡ true → truths (path_in around j) ≡ holds → ShowsVariableAt scene around x b.values.current.items e.variables entity j
  pub tells : tale x b.draft ≡ tales_told e.events
  pub room : (entity number : ℕ) → IsSeen scene around.levels.now entity → number < paths_counted around → register_in scene around entity number < length b.values.current.items
  pub ready : AreReady b.values

pub halfway : (scene : Scene) (around : Around) (x : BlockStep) (reads : StepReads) (truths : Path → Bool) (holds : Bool) (b : Building) (e : Effect) → StandsBeside scene around x reads b e → Halfway scene around x reads truths holds b e
halfway scene around x reads truths holds b e s = record { knows = s.knows; shows = λ entity j there inside on is. s.shows.each entity j there inside on; tells = s.tells; room = s.room; ready = s.ready }

comes_true : (holds t : Bool) → comes_out holds t ≡ true → t ≡ holds
comes_true true t h = h
comes_true false true h = absurd (cc)
comes_true false false h = refl

comes_same : (holds t : Bool) → t ≡ holds → comes_out holds t ≡ true
comes_same true t h = h
comes_same false true h = absurd (cc)
comes_same false false h = refl

comes_other : (holds t : Bool) → t ≡ not holds → comes_out holds t ≡ false
comes_other true t h = h
comes_other false true h = refl
comes_other false false h = absurd (cc)

module _ (scene : Scene) (around : Around) (tests : List ℕ) (holds : Bool) (a : Action) (first next : ℕ) (old new : Building) (lefts : List Left) (arm : DoesArm scene around tests holds a first next old new lefts)
    (long : length tests ≡ paths_counted around) (some : 0 < length tests) (few : first + accesses_of a < 2 ^ 32) where
  abbrev inside : Building
  inside = arm.inside

  pub arm_extends : Extends old.draft new.draft
  arm_extends = subst (λ (d : Draft). Extends old.draft d) (sym arm.draft) (arm.so some few).extends

  pub arm_values : (May : ℕ → Type 0) → ((entity : ℕ) → Sets scene a entity → May entity) → AreReady old.values → AreSame old.values new.values × ArmLeft scene around May old.values.current.items inside.values.current.items lefts
  arm_values May wider ready =
      arm_ended scene arm.arm around May old.values inside.values new.values lefts (registers_by scene arm.arm around arm.levels) (arm.long ∙ long)
      (changes_wider scene arm.arm (Sets scene a) May old.values inside.values wider ((arm.so some few).changes ready)) arm.ends

  module _ (x : BlockStep) (reads : StepReads) (e : Effect) (fits : FitsStep x new.draft) (begun : BlockBegun x old.draft) (truths : Path → Bool) (shown_tests : ShowsTests x around tests truths)
      (half : Halfway scene around x reads truths holds old e) where
    fits_inside : FitsStep x inside.draft
    fits_inside = subst (λ (d : Draft). FitsStep x d) arm.draft fits

    pub is_arm : IsArm x around arm.arm holds truths
    is_arm = arm.is_arm some few long x fits_inside begun truths shown_tests

    abbrev pub after : Effect
    after = effect_of scene x (paths_on x arm.arm) first a e

    within : (j : ℕ) → j < paths_counted arm.arm → j < paths_counted around
    within j l = subst (λ (n : ℕ). j < n) is_arm.long l

    within_arm : (j : ℕ) → j < paths_counted around → j < paths_counted arm.arm
    within_arm j l = subst (λ (n : ℕ). j < n) (sym is_arm.long) l

    up : (entity : ℕ) → IsSeen scene arm.arm.levels.now entity → IsSeen scene around.levels.now entity
    up = seen_around scene around arm.arm x holds truths is_arm

    down : (entity : ℕ) → IsSeen scene around.levels.now entity → IsSeen scene arm.arm.levels.now entity
    down = seen_inside scene around arm.arm x holds truths is_arm

    begins : StandsBeside scene arm.arm x reads old e
    begins = record {
      knows = half.knows;
      shows = record {
        each = λ entity j there l on.
            let both = sym (is_arm.on j (within j l)) ∙ on in
            shown_same scene around arm.arm x holds truths is_arm (counter_of scene entity) (held_at scene.held.now entity) old.values.current.items (held_at scene.held.now entity).kind j
            ∙ (half.shows entity j (up entity there) (within j l) (and_left (is_on_at x around j) (comes_out holds (truths (path_in around j))) both)
            (comes_true holds (truths (path_in around j)) (and_right (is_on_at x around j) (comes_out holds (truths (path_in around j))) both))
            ∙ ap (λ (p : Path). word_of (held_at scene.held.now entity).kind (e.variables entity p)) (sym (seen_same scene around arm.arm x holds truths is_arm entity j)));
      };
      tells = half.tells;
      room = λ entity j there l.
          subst (λ (n : ℕ). n < length old.values.current.items) (sym (register_same scene around arm.arm x holds truths is_arm entity j)) (half.room entity j (up entity there) (within j l));
      ready = half.ready;
    }

    module _ (follows : Follows scene x reads arm.arm arm.arms first a e) where
      ends : StandsBeside scene arm.arm x reads inside after
      ends = (arm.so some few).so x reads e fits_inside begun follows begins

      pub ends_knows : (variables : Variables) → Knows (view_at_step x reads variables) new.accesses
      ends_knows variables = subst (λ (s : Accesses). Knows (view_at_step x reads variables) s) (sym arm.accesses) (ends.knows variables)

      pub ends_tells : tale x new.draft ≡ tales_told after.events
      ends_tells = ap (λ (d : Draft). tale x d) arm.draft ∙ ends.tells

      pub ends_shows : (entity j : ℕ) → IsSeen scene around.levels.now entity → j < paths_counted around → is_on_at x around j ≡ true → truths (path_in around j) ≡ holds → ShowsVariableAt scene around x inside.values.current.items after.variables entity j
      ends_shows entity j there l on is =
          sym (shown_same scene around arm.arm x holds truths is_arm (counter_of scene entity) (held_at scene.held.now entity) inside.values.current.items (held_at scene.held.now entity).kind j)
          ∙ (ends.shows.each entity j (down entity there) (within_arm j l)
          (is_arm.on j l ∙ (ap (λ (b : Bool). b && comes_out holds (truths (path_in around j))) on ∙ comes_same holds (truths (path_in around j)) is))
          ∙ ap (λ (p : Path). word_of (held_at scene.held.now entity).kind (after.variables entity p)) (seen_same scene around arm.arm x holds truths is_arm entity j))

      pub ends_kept : KeepsDeep scene a → ((entity : ℕ) → Sets scene a entity → HasOwnCopies scene around entity) → (entity j : ℕ) → IsSeen scene around.levels.now entity → j < paths_counted around → is_on_at x around j ≡ true → truths (path_in around j) ≡ not holds
          → after.variables entity (seen_path scene around entity j) ≡ e.variables entity (seen_path scene around entity j)
      ends_kept deep own entity j there l on is =
          subst (λ (p : Path). after.variables entity p ≡ e.variables entity p) (seen_same scene around arm.arm x holds truths is_arm entity j)
          (commands_keep (begun_of x) entity (seen_path scene arm.arm entity j) (paths_on x arm.arm) (core_action (known_in scene) first a no_commands) e
          (keeps_own scene arm.arm x entity j (down entity there) (within_arm j l)
          (is_arm.on j l ∙ (ap (λ (b : Bool). b && comes_out holds (truths (path_in around j))) on ∙ comes_other holds (truths (path_in around j)) is))
          (core_action (known_in scene) first a no_commands) (action_deep scene first a no_commands deep tt)
          (λ other sets. own_in_arm scene around arm.arm x holds truths is_arm other
          (own other (action_any scene other 0 a ∙ (sym (action_any scene other first a) ∙ sets))))))
