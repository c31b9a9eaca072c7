-- An arm from its guards and its command, and what is left of the parts of a block.
use Rattle.std.proofs.Common.{◌≡◌, ℕ, zero, suc, ◌+◌, ◌<◌, ◌≤◌, ◌^◌, Bool, true, false, List, [], ◌∷◌, length, map, drop, get_or, refl, ap, sym, ◌∙◌, subst, arith}
use Rattle.std.specs.Prelude.{Option, Vec, ◌&&◌}
use Rattle.std.specs.Global.{Global}
use Rattle.dh_base.proofs.ListItems.{at_item}
use Rattle.dh_value.specs.Operations.{is_true}
use Rattle.dh_tree.specs.declared.trees.commands.Command.{Command}
use Rattle.dh_tree.specs.declared.trees.expressions.Ref.{Ref}
use Rattle.dh_tree.specs.PlainTrees.{ViewPlan, Action, action, ActionForm, views, Groups, group_then}
use Rattle.dh_tree.specs.Seen.{action_form_seen, action_seen, actions, all_parts_seen}
use Rattle.dh_tree.specs.ViewOffsets.{offsets_of}
use Rattle.dh_meaning.specs.AccessNumbers.{accesses_of}
use Rattle.dh_meaning.specs.Core.{no_commands}
use Rattle.dh_meaning.specs.CoreOf.{core_action, way_of}
use Rattle.dh_meaning.specs.Ways.{hidden_in}
use Rattle.dh_meaning.specs.Paths.{Path}
use Rattle.dh_phases.specs.Counted.{behind}
use Rattle.dh_phases.proofs.CountedParts.{behind_few}
use Rattle.dh_plan.specs.Blocks.{is_on}
use Rattle.dh_expressions.specs.declared.scenes.Around.{Around}
use Rattle.dh_expressions.specs.declared.scenes.Scene.{Scene}
use Rattle.dh_expressions.specs.Drafted.{BlockBegun, FitsStep, BlockStep, word_shown}
use Rattle.dh_expressions.specs.Evaluated.{Knows, known_in}
use Rattle.dh_expressions.specs.Shown.{guard_of}
use Rattle.dh_expressions.proofs.ListPlaces.{there}
use Rattle.dh_expressions.proofs.Pushing.{begun_later, extends_again, fits_before}
use Rattle.dh_commands.specs.declared.buildings.Building.{Building}
use Rattle.dh_commands.specs.declared.choices.Left.{Left}
use Rattle.dh_commands.specs.LanesRun.{IsArm, comes_out, is_on_at, path_in, paths_counted}
use Rattle.dh_commands.specs.Undone.{AreReady, Changes, EndsArm}
use Rattle.dh_commands.specs.Followed.{FitArms, no_arms, Sets, view_at_step}
use Rattle.dh_commands.specs.Choosing.{MakesGuards}
use Rattle.dh_commands.specs.Done.{DoesCommand}
use Rattle.dh_commands.specs.Setting.{KeepsView}
use Rattle.dh_commands.specs.Parted.{DoesArm, DoesGroups, RestDoesWhole, ShowsTests}
use Rattle.dh_commands.proofs.CommandsDone.{nothing_done, parts_more, parts_next, parts_none, view_command}
use Rattle.dh_commands.proofs.Tested.{quiet_stands}

pub drop_past : {A : Type 0} (xs : List A) (n : ℕ) → length xs ≤ n → drop n xs ≡ []
drop_past [] zero few = refl
drop_past [] (suc n) few = refl
drop_past (x ∷ xs) zero few = absurd (none (length xs) few)
  where
    none : (n : ℕ) → suc n ≤ 0 → ⊥
    none n h = omega (arith, h)
drop_past (x ∷ xs) (suc n) few = drop_past xs n (less (length xs) n few)
  where
    less : (n m : ℕ) → suc n ≤ suc m → n ≤ m
    less n m h = omega (arith, h)

-- An arm.
module _ (scene : Scene) (around arm : Around) (tests : List ℕ) (holds : Bool) (a : Action) (first next : ℕ) (old begun_at inside new : Building) (guards : List (Option ℕ)) (lefts : List Left)
    (levels : arm.levels.now ≡ around.levels.now) (guards_are : arm.guards.now ≡ guards) (values : begun_at.values ≡ old.values) (accesses : begun_at.accesses ≡ old.accesses)
    (makes : MakesGuards old.draft begun_at.draft around.guards.now tests holds (length tests) guards) (does : DoesCommand scene arm a first next begun_at inside)
    (ends : EndsArm inside.values new.values (length old.values.log.items) lefts) (draft_same : new.draft ≡ inside.draft) (accesses_same : new.accesses ≡ inside.accesses) where
  long_arm : paths_counted arm ≡ length tests
  long_arm = ap (λ (gs : List (Option ℕ)). length gs) guards_are ∙ makes.long

  some_arm : 0 < length tests → 0 < paths_counted arm
  some_arm some = subst (λ (n : ℕ). 0 < n) (sym long_arm) some

  both_same : (on c d : Bool) → (on ≡ true → c ≡ d) → (on && c) ≡ (on && d)
  both_same true c d h = h refl
  both_same false c d h = refl

  arm_is : 0 < length tests → first + accesses_of a < 2 ^ 32 → length tests ≡ paths_counted around → (x : BlockStep) → FitsStep x inside.draft → BlockBegun x old.draft → (truths : Path → Bool) → ShowsTests x around tests truths → IsArm x around arm holds truths
  arm_is some few long x fits begun truths shows = record {
    levels = levels;
    long = long_arm ∙ long;
    on = λ number within.
        let inside_tests : number < length tests = subst (λ (n : ℕ). number < n) (sym long) within in
        let t = there tests number inside_tests in
        ap (λ (gs : List (Option ℕ)). is_on x.first x.words (guard_of gs number)) guards_are
        ∙ (makes.on x (fits_before begun_at.draft inside.draft x (does.so (some_arm some) few).extends fits) begun number t.0 inside_tests t.1
        ∙ both_same (is_on_at x around number) (comes_out holds (is_true (word_shown x t.0))) (comes_out holds (truths (path_in around number))) (λ on. ap (λ b. comes_out holds b) (shows number t.0 within on t.1)));
  }

  pub arm_done : DoesArm scene around tests holds a first next old new lefts
  arm_done = record {
    next_is = λ some few. does.next_is (some_arm some) few;
    arm = arm;
    levels = levels;
    long = long_arm;
    arms = does.arms;
    shaped = does.shaped;
    inside = inside;
    is_arm = arm_is;
    so = λ some few. let k = does.so (some_arm some) few in record {
      extends = extends_again old.draft begun_at.draft inside.draft makes.adds.extends k.extends;
      changes = λ ready. subst (λ v. Changes scene arm (Sets scene a) v inside.values) values (k.changes (subst (λ v. AreReady v) (sym values) ready));
      so = λ x reads e fits begun follows stands.
          k.so x reads e fits (begun_later old.draft begun_at.draft x makes.adds.extends begun) follows
          (quiet_stands scene arm x reads old begun_at e values (λ variables. subst (λ s. Knows (view_at_step x reads variables) s) (sym accesses) (stands.knows variables))
          (makes.adds.quiet x (fits_before begun_at.draft inside.draft x k.extends fits) begun) stands);
    };
    draft = draft_same;
    accesses = accesses_same;
    ends = ends;
  }

-- The parts of a block.
module _ (scene : Scene) (around : Around) (all : Groups) (first : ℕ) (old : Building) where
  pub leads_command : (cs : List Command) (j : ℕ) (c : Command) (gs : Groups) (now n1 : ℕ) (here there_is : Building) → j < length cs → c ≡ get_or cs j c
      → DoesCommand scene around (action_seen c) now n1 here there_is → RestDoesWhole scene around all (group_then (actions (map action_seen (drop j cs))) gs) first now old here
      → RestDoesWhole scene around all (group_then (actions (map action_seen (drop (j + 1) cs))) gs) first n1 old there_is
  leads_command cs j c gs now n1 here there_is within is does leads next new d =
      leads next new
      (subst (λ (xs : List Command). DoesGroups scene around (group_then (actions (map action_seen xs)) gs) now next here new) (sym (at_item cs j c within is))
      (parts_more scene around (action_seen c) (actions (map action_seen (drop (j + 1) cs))) gs now n1 next here there_is new does d))

  pub leads_part : (cs : List Command) (j : ℕ) (gs : Groups) (now : ℕ) (here : Building) → length cs ≤ j → RestDoesWhole scene around all (group_then (actions (map action_seen (drop j cs))) gs) first now old here
      → RestDoesWhole scene around all gs first now old here
  leads_part cs j gs now here end leads next new d =
      leads next new
      (subst (λ (xs : List Command). DoesGroups scene around (group_then (actions (map action_seen xs)) gs) now next here new) (sym (drop_past cs j end)) (parts_next scene around gs now next here new d))

  pub leads_all : (ps : List (Vec Command Global)) (i : ℕ) (now : ℕ) (here : Building) → length ps ≤ i → RestDoesWhole scene around all (all_parts_seen (drop i ps)) first now old here → DoesGroups scene around all first now old here
  leads_all ps i now here end leads =
      leads now here (subst (λ (xs : List (Vec Command Global)). DoesGroups scene around (all_parts_seen xs) now now here here) (sym (drop_past ps i end)) (parts_none scene around now here))

-- A command, by what is seen of its form.
pub as_seen : (scene : Scene) (around : Around) (c : Command) (form : ActionForm) (first next : ℕ) (old new : Building) → action_form_seen c.form ≡ form → DoesCommand scene around (action c.id c.place form) first next old new
    → DoesCommand scene around (action_seen c) first next old new
as_seen scene around c form first next old new is d = subst (λ (f : ActionForm). DoesCommand scene around (action c.id c.place f) first next old new) (sym is) d

-- one that does nothing, but has accesses
pub counted_done : (scene : Scene) (around : Around) (c : Command) (form : ActionForm) (first next : ℕ) (b : Building) → action_form_seen c.form ≡ form → next ≡ behind first (accesses_of (action_seen c)) → FitArms (action c.id c.place form) no_arms
    → ((n : ℕ) → core_action (known_in scene) n (action c.id c.place form) no_commands ≡ no_commands) → DoesCommand scene around (action_seen c) first next b b
counted_done scene around c form first next b is counted shaped none =
    as_seen scene around c form first next b b is
    (nothing_done scene around (action c.id c.place form) first next b
    (λ few. counted ∙ (ap (λ (f : ActionForm). behind first (accesses_of (action c.id c.place f))) is ∙ behind_few first (accesses_of (action c.id c.place form)) few)) shaped none)

-- one that does nothing, and has none
pub idle_done : (scene : Scene) (around : Around) (c : Command) (form : ActionForm) (first : ℕ) (b : Building) → action_form_seen c.form ≡ form → accesses_of (action c.id c.place form) ≡ 0 → FitArms (action c.id c.place form) no_arms
    → ((n : ℕ) → core_action (known_in scene) n (action c.id c.place form) no_commands ≡ no_commands) → DoesCommand scene around (action_seen c) first first b b
idle_done scene around c form first b is count shaped none =
    as_seen scene around c form first first b b is (nothing_done scene around (action c.id c.place form) first first b (λ few. omega (arith, count)) shaped none)

-- a view
pub viewed_done : (scene : Scene) (around : Around) (c : Command) (name parent : Ref) (form : ViewPlan) (first idle next : ℕ) (old new : Building) → action_form_seen c.form ≡ views name parent form → idle ≡ behind first (accesses_of (action_seen c))
    → KeepsView scene around old new first idle next (hidden_in (way_of (known_in scene) name)) (offsets_of form) → DoesCommand scene around (action_seen c) first next old new
viewed_done scene around c name parent form first idle next old new is counted d =
    as_seen scene around c (views name parent form) first next old new is
    (view_command scene around c.id c.place first idle next old new name parent form
    (λ few. counted ∙ (ap (λ (f : ActionForm). behind first (accesses_of (action c.id c.place f))) is ∙ behind_few first (accesses_of (action c.id c.place (views name parent form))) few))
    (hidden_in (way_of (known_in scene) name)) refl d)
