-- Ranks of paths: a path inside loops of given factors has a rank among all such paths in ascending order. (The
-- numbers are this project's.)
use Rattle.std.specs.Prelude.{ℕ, ◌+◌, ◌*◌, ◌<◌, List, [], ◌∷◌}
use Rattle.dh_meaning.specs.Paths.{Path}
pub use Rattle.dh_meaning.specs.Paths.{copies_in}

-- a path inside loops of these factors, from the outside
abbrev pub IsPath : (factors : List ℕ) → Path → Type 0
IsPath [] [] = Unit {0}
IsPath [] (copy ∷ path) = ⊥
IsPath (factor ∷ factors) [] = ⊥
IsPath (factor ∷ factors) (copy ∷ path) = (copy < factor) × IsPath factors path

-- the rank of what follows a path of this rank
abbrev pub rank_behind : (rank : ℕ) → (factors : List ℕ) → Path → ℕ
rank_behind rank [] path = rank
rank_behind rank (factor ∷ factors) [] = rank
rank_behind rank (factor ∷ factors) (copy ∷ path) = rank_behind (rank * factor + copy) factors path

abbrev pub rank_of : (factors : List ℕ) → Path → ℕ
rank_of factors path = rank_behind 0 factors path

-- the ranks of all beginnings of a path, each among those as long, from the empty one on
abbrev pub ranks_behind : (rank : ℕ) → (factors : List ℕ) → Path → List ℕ
ranks_behind rank [] path = rank ∷ []
ranks_behind rank (factor ∷ factors) [] = rank ∷ []
ranks_behind rank (factor ∷ factors) (copy ∷ path) = rank ∷ ranks_behind (rank * factor + copy) factors path

abbrev pub ranks_of : (factors : List ℕ) → Path → List ℕ
ranks_of factors path = ranks_behind 0 factors path

-- each of these is a path inside the loops
abbrev pub ArePaths : (factors : List ℕ) → List Path → Type 0
ArePaths factors [] = Unit {0}
ArePaths factors (path ∷ paths) = IsPath factors path × ArePaths factors paths
