-- What the parts of a command do: an arm of an `if`, which is taken back, and the parts of a block.
use Rattle.std.specs.Prelude.{◌≡◌, ℕ, ◌+◌, ◌<◌, ◌^◌, Bool as Truth, true, false, List, [], length, slice_get, Some}
use Rattle.dh_value.specs.Operations.{is_true}
use Rattle.dh_tree.specs.PlainTrees.{Action, Groups, MaybeAction, no_action, one_action}
use Rattle.dh_meaning.specs.AccessNumbers.{accesses_of, groups_accesses}
use Rattle.dh_meaning.specs.Core.{no_commands}
use Rattle.dh_meaning.specs.CoreOf.{core_groups}
use Rattle.dh_meaning.specs.Levels.{any_assigns}
use Rattle.dh_meaning.specs.Paths.{Path}
use Rattle.dh_expressions.specs.declared.scenes.Around.{Around}
use Rattle.dh_expressions.specs.declared.scenes.Scene.{Scene}
use Rattle.dh_expressions.specs.Drafted.{BlockBegun, FitsStep, BlockStep, word_shown}
use Rattle.dh_expressions.specs.Evaluated.{known_in}
use Rattle.dh_commands.specs.declared.buildings.Building.{Building}
use Rattle.dh_commands.specs.declared.assignments.Values.{Values}
use Rattle.dh_commands.specs.declared.choices.Choice.{Choice}
use Rattle.dh_commands.specs.declared.choices.Left.{Left}
use Rattle.dh_commands.specs.LanesRun.{IsArm, is_on_at, path_in, paths_counted, paths_on}
use Rattle.dh_commands.specs.Followed.{Arms, FitArms, FitGroups, Follows, FollowsGroups, Sets, effect_of, groups_effect}
use Rattle.dh_commands.specs.Undone.{EndsArm}
use Rattle.dh_commands.specs.Joined.{JoinsArms}
use Rattle.dh_commands.specs.Choosing.{Chooses}
use Rattle.dh_commands.specs.Done.{Does, IsNextAccess}

-- the values of a test show its truths, at each path where the guard holds
abbrev pub ShowsTests : BlockStep → Around → (tests : List ℕ) → (truths : Path → Truth) → Type 0
ShowsTests x around tests truths =
    (number test : ℕ) → number < paths_counted around → is_on_at x around number ≡ true → slice_get tests number ≡ Some test → is_true (word_shown x test) ≡ truths (path_in around number)

-- A command as an arm of an `if`, where its test comes out so. What it assigned is taken back, and left behind.
pub record DoesArm (scene : Scene) (around : Around) (tests : List ℕ) (holds : Truth) (a : Action) (first next : ℕ) (old new : Building) (lefts : List Left) : Type 0 where
  pub next_is : 0 < length tests → IsNextAccess first (accesses_of a) next
  pub arm : Around
  pub levels : arm.levels.now ≡ around.levels.now
  pub long : paths_counted arm ≡ length tests
  pub arms : Arms
  pub shaped : FitArms a arms
  -- as the arm ends
  pub inside : Building
  pub is_arm : 0 < length tests → first + accesses_of a < 2 ^ 32 → length tests ≡ paths_counted around → (x : BlockStep) → FitsStep x inside.draft → BlockBegun x old.draft → (truths : Path → Truth) → ShowsTests x around tests truths → IsArm x around arm holds truths
  pub so : 0 < length tests → first + accesses_of a < 2 ^ 32
      → Does scene arm (Sets scene a) (λ x reads e. Follows scene x reads arm arms first a e) (λ x e. effect_of scene x (paths_on x arm) first a e) old inside
  pub draft : new.draft ≡ inside.draft
  pub accesses : new.accesses ≡ inside.accesses
  pub ends : EndsArm inside.values new.values (length old.values.log.items) lefts

-- the second arm of an `if`, where there is one
abbrev pub DoesOther : Scene → Around → (tests : List ℕ) → MaybeAction → (first next : ℕ) → (old new : Building) → (lefts : List Left) → Type 0
DoesOther scene around tests no_action first next old new lefts = (next ≡ first) × ((new ≡ old) × (lefts ≡ []))
DoesOther scene around tests (one_action a) first next old new lefts = DoesArm scene around tests false a first next old new lefts

-- the choices behind an `if`, from what its arms left
pub record JoinsAll (old new : Building) (tests : List ℕ) (chosen other : List Left) : Type 0 where
  pub choices : List Choice
  pub middle : Values
  pub joins : JoinsArms old.values middle chosen other choices
  pub chooses : Chooses old.draft new.draft middle new.values tests choices (length choices)
  pub accesses : new.accesses ≡ old.accesses

-- the parts of a block may set a variable
abbrev pub SetsGroups : Scene → Groups → (entity : ℕ) → Type 0
SetsGroups scene gs entity = any_assigns entity (core_groups (known_in scene) 0 gs no_commands) ≡ true

-- parts of a block, at all paths
pub record DoesGroups (scene : Scene) (around : Around) (gs : Groups) (first next : ℕ) (old new : Building) : Type 0 where
  pub next_is : 0 < paths_counted around → IsNextAccess first (groups_accesses gs) next
  pub arms : Arms
  pub shaped : FitGroups gs arms
  pub so : 0 < paths_counted around → first + groups_accesses gs < 2 ^ 32
      → Does scene around (SetsGroups scene gs) (λ x reads e. FollowsGroups scene x reads around arms first gs e) (λ x e. groups_effect scene x (paths_on x around) first gs e) old new

-- whatever the rest does from here, the whole does from the begin
abbrev pub RestDoesWhole : Scene → Around → (all rest : Groups) → (first now : ℕ) → (old here : Building) → Type 0
RestDoesWhole scene around all rest first now old here = (next : ℕ) (new : Building) → DoesGroups scene around rest now next here new → DoesGroups scene around all first next old new
