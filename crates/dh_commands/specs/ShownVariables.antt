-- The values that variables were given show what the program's variables hold, at each path where a guard holds.
use Rattle.std.specs.Prelude.{◌≡◌, ℕ, zero, suc, ◌<◌, ◌≤◌, true, List, length, take, map, Option, None}
use Rattle.dh_value.specs.Words.{word_of}
use Rattle.dh_meaning.specs.Bindings.{binding_in, depth_bound}
use Rattle.dh_meaning.specs.Effects.{Variables}
use Rattle.dh_meaning.specs.Paths.{Path}
use Rattle.dh_code.specs.Declarations.{placing_of}
use Rattle.dh_code.specs.Slots.{held_at}
use Rattle.dh_tree.specs.Seen.{program_seen}
use Rattle.dh_expressions.specs.declared.paths.Level.{Level}
use Rattle.dh_expressions.specs.declared.scenes.Around.{Around}
use Rattle.dh_expressions.specs.declared.scenes.Scene.{Scene}
use Rattle.dh_expressions.specs.Drafted.{BlockStep}
use Rattle.dh_expressions.specs.Evaluated.{counter_of, entity_shown, known_in}
use Rattle.dh_expressions.specs.Shown.{guard_of, register_at}
use Rattle.dh_commands.specs.LanesRun.{is_on_at, lane_of, path_in, paths_counted}

-- round how many unrolled loops a variable is declared
abbrev pub depth_in : Scene → (entity : ℕ) → ℕ
depth_in scene entity = depth_bound (binding_in (known_in scene).bindings entity)

-- the copy of a variable that is seen at a path
abbrev pub seen_path : Scene → Around → (entity number : ℕ) → Path
seen_path scene around entity number = take (depth_in scene entity) (path_in around number)

-- the register of that copy
abbrev pub register_in : Scene → Around → (entity number : ℕ) → ℕ
register_in scene around entity number = register_at (held_at scene.held.now entity) (lane_of around number)

abbrev pub level_factors : List Level → List ℕ
level_factors levels = map (λ (l : Level). l.factor) levels

-- A variable that is seen where these loops stand round: it is no iterator, and the loops round its declaration are
-- the first of these. (What iterators show depends on no value that is given in the step.)
pub record IsSeen (scene : Scene) (levels : List Level) (entity : ℕ) : Type 0 where
  pub there : entity < length scene.held.now
  pub no_counter : counter_of scene entity ≡ None
  pub deep : depth_in scene entity ≤ length levels
  pub held : (held_at scene.held.now entity).depth ≡ depth_in scene entity
  pub round : (placing_of (program_seen scene.program.now)).factors entity ≡ take (depth_in scene entity) (level_factors levels)

abbrev pub ShowsVariableAt : Scene → Around → BlockStep → (current : List (Option ℕ)) → Variables → (entity number : ℕ) → Type 0
ShowsVariableAt scene around x current variables entity number =
    entity_shown scene (lane_of around number) current x entity (held_at scene.held.now entity).kind
    ≡ word_of (held_at scene.held.now entity).kind (variables entity (seen_path scene around entity number))

pub record ShowsVariables (scene : Scene) (around : Around) (x : BlockStep) (current : List (Option ℕ)) (variables : Variables) : Type 0 where
  pub each : (entity number : ℕ) → IsSeen scene around.levels.now entity → number < paths_counted around → is_on_at x around number ≡ true
      → ShowsVariableAt scene around x current variables entity number

-- Registers stand for copies: of two variables or two copies they differ, of one copy they are one.
pub record ArePlaced (scene : Scene) (around : Around) : Type 0 where
  pub apart : (e f i j : ℕ) → IsSeen scene around.levels.now e → IsSeen scene around.levels.now f → i < paths_counted around → j < paths_counted around
      → register_in scene around e i ≡ register_in scene around f j → (e ≡ f) × (seen_path scene around e i ≡ seen_path scene around f j)
  pub one : (e i j : ℕ) → IsSeen scene around.levels.now e → i < paths_counted around → j < paths_counted around
      → seen_path scene around e i ≡ seen_path scene around e j → register_in scene around e i ≡ register_in scene around e j

-- A variable that is set at these paths is no iterator, and is one at several of them only where these have one guard.
pub record IsSetTarget (scene : Scene) (around : Around) (entity : ℕ) : Type 0 where
  pub placed : ArePlaced scene around
  pub there : IsSeen scene around.levels.now entity
  pub no_counter : counter_of scene entity ≡ None
  pub alike : (i j : ℕ) → i < paths_counted around → j < paths_counted around
      → register_in scene around entity i ≡ register_in scene around entity j → guard_of around.guards.now i ≡ guard_of around.guards.now j

-- a variable that is another at each path
pub record HasOwnCopies (scene : Scene) (around : Around) (entity : ℕ) : Type 0 where
  pub placed : ArePlaced scene around
  pub there : IsSeen scene around.levels.now entity
  pub own : (i j : ℕ) → i < paths_counted around → j < paths_counted around
      → register_in scene around entity i ≡ register_in scene around entity j → i ≡ j

-- Variables whose entities follow one another from a first one on, so many: each is declared inside so many unrolled
-- loops, and may be set.

abbrev pub AreBoundAt : Scene → (depth first count : ℕ) → Type 0
AreBoundAt scene depth first zero = Unit {0}
AreBoundAt scene depth first (suc n) = (depth ≡ depth_in scene first) × AreBoundAt scene depth (suc first) n

abbrev pub AreTargets : Scene → Around → (first count : ℕ) → Type 0
AreTargets scene around first zero = Unit {0}
AreTargets scene around first (suc n) = IsSetTarget scene around first × AreTargets scene around (suc first) n
