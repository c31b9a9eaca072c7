-- How the commands of a block stand along the trace of the program: those with accesses in order, each behind the views
-- of its accesses, and behind them reducers, which have none; and which reads share which. All of it is told of a ready program.
use Rattle.std.specs.Prelude.{◌≡◌, ℕ, true, List, [], slice_get, Some}
use Rattle.std.specs.List.{AllByRecursion}
use Rattle.dh_tree.specs.Seen.{program_seen}
use Rattle.dh_meaning.specs.CoreOf.{known_of}
use Rattle.dh_meaning.specs.OnePhase.{any_makes, in_one_phase}
use Rattle.dh_meaning.specs.Phases.{Located}
use Rattle.dh_meaning.specs.Sites as sites
use Rattle.dh_meets.specs.Sharing.{shared}
use Rattle.dh_meets.specs.SourceEvents.{trace}
use Rattle.dh_sound.specs.SimpleForms.{AreFolds, FoldsInJoins}
use Rattle.dh_sound.specs.ViewTrails.{FollowsViews}
use Rattle.dh_expressions.specs.declared.scenes.Scene.{Scene}
use Rattle.dh_expressions.specs.Named.{known_in}

-- the scene tells which read shares which
abbrev pub SceneTellsShares : Scene → Type 0
SceneTellsShares scene = (k j : ℕ) → slice_get scene.shares.now k ≡ Some (Some j) → shared (program_seen scene.program.now) k ≡ Some j

-- and the ways of its program
abbrev pub TellsWays : Scene → Type 0
TellsWays scene = known_in scene ≡ known_of (program_seen scene.program.now)

pub record IsTraced (scene : Scene) (done folds : List Located) : Type 0 where
  pub quiet : AreFolds folds
  pub round : sites.Around
  pub follows : FollowsViews (program_seen scene.program.now) round [] (trace (program_seen scene.program.now)) done
  pub joins : AllByRecursion (λ (c : Located). FoldsInJoins c.command) done
  -- reads of one phase are reads of this block
  pub one_phase : (j k : ℕ) → in_one_phase (program_seen scene.program.now) j k ≡ true → any_makes k done ≡ true → any_makes j done ≡ true
  pub shares : SceneTellsShares scene
  pub ways : TellsWays scene
