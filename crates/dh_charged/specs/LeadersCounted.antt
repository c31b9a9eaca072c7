-- The paths that lead are as many as the keys that differ: of all paths, and of those that reach a bank. A leader is the
-- first path with its copies in the loops that count, and a key is the list of these copies.
use Rattle.std.specs.Prelude.{◌≡◌, ℕ, zero, suc, ◌+◌, ◌<◌, ◌≤◌, ◌==◌, ◌&&◌, Bool, if◌then◌else◌, List, [], ◌∷◌, ◌++◌, map}
use Rattle.std.specs.List.{filter}
use Rattle.std.specs.Set.{distinct_count}
use Rattle.dh_meaning.specs.Paths.{Path, copies_in, paths_in, same_path}
use Rattle.dh_meets.specs.Charges.{picked}
use Rattle.dh_expressions.specs.declared.paths.Level.{Level}
use Rattle.dh_expressions.specs.Counting.{leaders_in}
use Rattle.dh_expressions.specs.Levels.{leader_number, path_at}
use Rattle.dh_commands.specs.ShownVariables.{level_factors}
use Rattle.dh_blocks.specs.PathsOfLevels.{AreSpread}

-- the paths of the first numbers, so many
abbrev pub paths_below : List Level → (n : ℕ) → List Path
paths_below levels zero = []
paths_below levels (suc n) = paths_below levels n ++ path_at levels n ∷ []

-- how many of the first paths lead
abbrev pub leads_below : (leader : ℕ → ℕ) → (n : ℕ) → ℕ
leads_below leader zero = 0
leads_below leader (suc n) = leads_below leader n + (if leader n == n then 1 else 0)

-- of the loops that count, by their levels
pub record LeadersAreKeys (levels : List Level) (counts : ℕ → Bool) : Type 0 where
  -- all paths, by their numbers
  pub paths : paths_in (level_factors levels) ≡ paths_below levels (copies_in (level_factors levels))
  pub all : leads_below (leader_number levels counts) (copies_in (level_factors levels)) ≡ distinct_count same_path (map (picked counts 0) (paths_in (level_factors levels)))
  -- a leader of a group that reaches a bank, and the leaders before it that do
  pub on_bank : (reaches : Path → Bool) (bank group : ℕ → ℕ) (own_group own n : ℕ)
      → ((k : ℕ) → k < copies_in (level_factors levels) → ((group k == own_group) && (bank k == own)) ≡ reaches (path_at levels k))
      → n < copies_in (level_factors levels) → leader_number levels counts n ≡ n → group n ≡ own_group → bank n ≡ own
      → suc (leaders_in (leader_number levels counts) bank group own_group own n) ≤ distinct_count same_path (map (picked counts 0) (filter reaches (paths_in (level_factors levels))))

abbrev pub AllLeadersAreKeys : Type 0
AllLeadersAreKeys = (levels : List Level) → AreSpread levels → (counts : ℕ → Bool) → LeadersAreKeys levels counts
