-- The first path with the copies of another in the loops that count.
use Rattle.std.specs.Prelude.{◌≡◌, ℕ, ◌<◌, ◌≤◌, Bool, List}
use Rattle.dh_meaning.specs.Paths.{copies_in}
use Rattle.dh_expressions.specs.declared.paths.Level.{Level}
use Rattle.dh_expressions.specs.Levels.{leader_number, path_at}
use Rattle.dh_sound.specs.SameKeys.{CopiesAgree}
use Rattle.dh_commands.specs.ShownVariables.{level_factors}

-- paths have one leader exactly where they agree in the loops that count; it leads itself, and is none behind
pub record LeadersComeFirst (levels : List Level) (counts : ℕ → Bool) : Type 0 where
  pub agree : (n m : ℕ) → n < copies_in (level_factors levels) → m < copies_in (level_factors levels)
      → leader_number levels counts n ≡ leader_number levels counts m → CopiesAgree counts (path_at levels n) (path_at levels m)
  pub same : (n m : ℕ) → n < copies_in (level_factors levels) → m < copies_in (level_factors levels)
      → CopiesAgree counts (path_at levels n) (path_at levels m) → leader_number levels counts n ≡ leader_number levels counts m
  pub own : (n : ℕ) → n < copies_in (level_factors levels) → leader_number levels counts (leader_number levels counts n) ≡ leader_number levels counts n
  pub first : (n : ℕ) → n < copies_in (level_factors levels) → leader_number levels counts n ≤ n
