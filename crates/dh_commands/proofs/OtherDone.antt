-- The second arm of an `if`, or none: then its paths keep all.
use Rattle.std.proofs.Common.{◌≡◌, ℕ, ◌+◌, ◌<◌, ◌^◌, Bool, true, false, List, [], length, refl, sym, ◌∙◌, subst}
use Rattle.std.specs.Prelude.{Option}
use Rattle.std.proofs.Math.Nat.{add-zero}
use Rattle.dh_tree.specs.PlainTrees.{MaybeAction, no_action, one_action}
use Rattle.dh_meaning.specs.AccessNumbers.{other_accesses}
use Rattle.dh_meaning.specs.Effects.{Effect, Variables, paths_where}
use Rattle.dh_meaning.specs.Paths.{Path}
use Rattle.dh_expressions.specs.declared.scenes.Around.{Around}
use Rattle.dh_expressions.specs.declared.scenes.Scene.{Scene}
use Rattle.dh_expressions.specs.Drafted.{BlockBegun, Extends, FitsStep, BlockStep, tale, tales_told}
use Rattle.dh_expressions.specs.Evaluated.{Knows, StepReads}
use Rattle.dh_expressions.proofs.Pushing.{extends_self}
use Rattle.dh_commands.specs.declared.buildings.Building.{Building}
use Rattle.dh_commands.specs.declared.choices.Left.{Left}
use Rattle.dh_commands.specs.LanesRun.{IsArm, is_on_at, path_in, paths_counted, paths_on}
use Rattle.dh_commands.specs.ShownVariables.{HasOwnCopies, IsSeen, ShowsVariableAt, seen_path}
use Rattle.dh_commands.specs.Undone.{AreReady}
use Rattle.dh_commands.specs.Followed.{Arms, no_arms, FitOther, FollowsOther, KeepsDeepOther, SetsOther, effect_of, other_effect, view_at_step}
use Rattle.dh_commands.specs.Parted.{DoesOther, ShowsTests}
use Rattle.dh_commands.proofs.ArmsDone.{Halfway, arm_extends, arm_values, ends_kept, ends_knows, ends_shows, ends_tells, is_arm}
use Rattle.dh_commands.proofs.ArmsLeft.{AreSame, ArmLeft, nothing_left}
use Rattle.dh_commands.proofs.LanesInOrder.{arm_paths}

-- what stands behind it
pub record OtherEnds (scene : Scene) (around : Around) (x : BlockStep) (reads : StepReads) (truths : Path → Bool) (new : Building) (behind : List (Option ℕ)) (e after : Effect) : Type 0 where
  pub knows : (variables : Variables) → Knows (view_at_step x reads variables) new.accesses
  pub tells : tale x new.draft ≡ tales_told after.events
  pub shows : (entity j : ℕ) → IsSeen scene around.levels.now entity → j < paths_counted around → is_on_at x around j ≡ true → truths (path_in around j) ≡ false → ShowsVariableAt scene around x behind after.variables entity j
  pub kept : (entity j : ℕ) → IsSeen scene around.levels.now entity → j < paths_counted around → is_on_at x around j ≡ true → truths (path_in around j) ≡ true
      → after.variables entity (seen_path scene around entity j) ≡ e.variables entity (seen_path scene around entity j)

pub record OtherDone (scene : Scene) (around : Around) (tests : List ℕ) (May : ℕ → Type 0) (first : ℕ) (other : MaybeAction) (old new : Building) (lefts : List Left) (arm : Around) (arms : Arms) : Type 0 where
  pub extends : Extends old.draft new.draft
  pub behind : List (Option ℕ)
  pub values : AreReady old.values → AreSame old.values new.values × ArmLeft scene around May old.values.current.items behind lefts
  pub so : (x : BlockStep) (reads : StepReads) (e : Effect) → FitsStep x new.draft → BlockBegun x old.draft → (truths : Path → Bool) → ShowsTests x around tests truths → Halfway scene around x reads truths false old e
      → KeepsDeepOther scene other → ((entity : ℕ) → May entity → HasOwnCopies scene around entity) → (IsArm x around arm false truths → FollowsOther scene x reads arm arms first other e)
      → OtherEnds scene around x reads truths new behind e (other_effect scene x (paths_where false truths (paths_on x around)) first other e)

abbrev pub other_arm : (scene : Scene) (around : Around) (tests : List ℕ) (other : MaybeAction) (first next : ℕ) (old new : Building) (lefts : List Left) → DoesOther scene around tests other first next old new lefts → Around
other_arm scene around tests no_action first next old new lefts d = around
other_arm scene around tests (one_action a) first next old new lefts d = d.arm

abbrev pub other_arms : (scene : Scene) (around : Around) (tests : List ℕ) (other : MaybeAction) (first next : ℕ) (old new : Building) (lefts : List Left) → DoesOther scene around tests other first next old new lefts → Arms
other_arms scene around tests no_action first next old new lefts d = no_arms
other_arms scene around tests (one_action a) first next old new lefts d = d.arms

pub other_shaped : (scene : Scene) (around : Around) (tests : List ℕ) (other : MaybeAction) (first next : ℕ) (old new : Building) (lefts : List Left) (d : DoesOther scene around tests other first next old new lefts)
    → FitOther other (other_arms scene around tests other first next old new lefts d)
other_shaped scene around tests no_action first next old new lefts d = tt
other_shaped scene around tests (one_action a) first next old new lefts d = d.shaped

pub other_next : (scene : Scene) (around : Around) (tests : List ℕ) (other : MaybeAction) (first next : ℕ) (old new : Building) (lefts : List Left) → DoesOther scene around tests other first next old new lefts
    → 0 < length tests → first + other_accesses other < 2 ^ 32 → next ≡ first + other_accesses other
other_next scene around tests no_action first next old new lefts d some few = d.0 ∙ sym (add-zero first)
other_next scene around tests (one_action a) first next old new lefts d some few = d.next_is some few

nothing_done : (scene : Scene) (around : Around) (tests : List ℕ) (May : ℕ → Type 0) (first : ℕ) (b : Building) (arm : Around) (arms : Arms) → OtherDone scene around tests May first no_action b b [] arm arms
nothing_done scene around tests May first b arm arms = record {
  extends = extends_self b.draft;
  behind = b.values.current.items;
  values = λ ready. (record { current = refl; log = refl; marks = refl }, nothing_left scene around May b.values.current.items);
  so = λ x reads e fits begun truths shown half deep own follows. record { knows = half.knows; tells = half.tells; shows = half.shows; kept = λ entity j there l on is. refl };
}

module _ (scene : Scene) (around : Around) (tests : List ℕ) (May : ℕ → Type 0) (long : length tests ≡ paths_counted around) (some : 0 < length tests) where
  pub other_done : (other : MaybeAction) (first next : ℕ) (old new : Building) (lefts : List Left) (d : DoesOther scene around tests other first next old new lefts) → first + other_accesses other < 2 ^ 32 → ((entity : ℕ) → SetsOther scene other entity → May entity)
      → OtherDone scene around tests May first other old new lefts (other_arm scene around tests other first next old new lefts d) (other_arms scene around tests other first next old new lefts d)
  other_done no_action first next old new lefts d few wider =
      subst (λ (ls : List Left). OtherDone scene around tests May first no_action old new ls around no_arms) (sym d.1.1)
      (subst (λ (b : Building). OtherDone scene around tests May first no_action old b [] around no_arms) (sym d.1.0) (nothing_done scene around tests May first old around no_arms))
  other_done (one_action a) first next old new lefts d few wider = record {
    extends = arm_extends scene around tests false a first next old new lefts d long some few;
    behind = d.inside.values.current.items;
    values = arm_values scene around tests false a first next old new lefts d long some few May wider;
    so = λ x reads e fits begun truths shown half deep own follows.
        let is = is_arm scene around tests false a first next old new lefts d long some few x reads e fits begun truths shown half in
        subst (λ (ps : List Path). OtherEnds scene around x reads truths new d.inside.values.current.items e (effect_of scene x ps first a e)) (arm_paths x around d.arm false truths is)
        (record {
          knows = ends_knows scene around tests false a first next old new lefts d long some few x reads e fits begun truths shown half (follows is);
          tells = ends_tells scene around tests false a first next old new lefts d long some few x reads e fits begun truths shown half (follows is);
          shows = ends_shows scene around tests false a first next old new lefts d long some few x reads e fits begun truths shown half (follows is);
          kept = ends_kept scene around tests false a first next old new lefts d long some few x reads e fits begun truths shown half (follows is) deep (λ entity sets. own entity (wider entity sets));
        });
  }
