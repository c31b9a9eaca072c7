-- What is done at all paths inside loops, of those at which a guard holds. Paths go by their numbers.
use Rattle.std.specs.Prelude.{◌≡◌, ℕ, zero, suc, ◌<◌, ◌&&◌, not, Bool as Truth, true, false, List, [], ◌∷◌, ◌++◌, length}
use Rattle.dh_meaning.specs.Effects.{Effect}
use Rattle.dh_meaning.specs.Paths.{Path}
use Rattle.dh_plan.specs.Blocks.{is_on}
use Rattle.dh_expressions.specs.declared.scenes.Around.{Around}
use Rattle.dh_expressions.specs.declared.scenes.Lane.{Lane}
use Rattle.dh_expressions.specs.Drafted.{BlockStep}
use Rattle.dh_expressions.specs.Levels.{path_at}
use Rattle.dh_expressions.specs.Shown.{guard_of}

-- a path of those that stand so
abbrev pub lane_of : Around → (number : ℕ) → Lane
lane_of around number = record { around = around; number = number }

abbrev pub paths_counted : Around → ℕ
paths_counted around = length around.guards.now

abbrev pub path_in : Around → (number : ℕ) → Path
path_in around number = path_at around.levels.now number

-- the guard at a path holds
abbrev pub is_on_at : BlockStep → Around → (number : ℕ) → Truth
is_on_at x around number = is_on x.first x.words (guard_of around.guards.now number)

abbrev pub path_if : Truth → Path → List Path
path_if true path = path ∷ []
path_if false path = []

-- of the first paths, so many, those at which the guard holds
abbrev pub paths_to : BlockStep → Around → (count : ℕ) → List Path
paths_to x around zero = []
paths_to x around (suc n) = paths_to x around n ++ path_if (is_on_at x around n) (path_in around n)

-- all paths at which it does
abbrev pub paths_on : BlockStep → Around → List Path
paths_on x around = paths_to x around (paths_counted around)

abbrev pub run_if : Truth → (Path → Effect → Effect) → Path → Effect → Effect
run_if true run path e = run path e
run_if false run path e = e

-- the effect at the first paths, so many, where the guard holds, in order
abbrev pub lanes_run : BlockStep → Around → (Path → Effect → Effect) → (count : ℕ) → Effect → Effect
lanes_run x around run zero e = e
lanes_run x around run (suc n) e = run_if (is_on_at x around n) run (path_in around n) (lanes_run x around run n e)

-- An arm is done at the paths where it is done round it and a test comes out so.

abbrev pub comes_out : (holds : Truth) → Truth → Truth
comes_out true test = test
comes_out false test = not test

pub record IsArm (x : BlockStep) (around arm : Around) (holds : Truth) (test : Path → Truth) : Type 0 where
  pub levels : arm.levels.now ≡ around.levels.now
  pub long : paths_counted arm ≡ paths_counted around
  pub on : (number : ℕ) → number < paths_counted around
      → is_on_at x arm number ≡ (is_on_at x around number && comes_out holds (test (path_in around number)))
