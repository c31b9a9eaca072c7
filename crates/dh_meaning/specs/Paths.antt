-- Paths: which copy of each of the unrolled loops round a command, from the outside. (Lockstep copies are of
-- Nigam and others, PLDI 2020; paths are this profile's.)
use Rattle.std.specs.Prelude.{◌≡◌, ◌⊎◌, ℕ, ◌*◌, zero, suc, nat_eq, Bool, List, [], ◌∷◌, ◌++◌}
use Rattle.std.specs.Cmp.Lexicographic.{pointwise}

abbrev pub Path : Type 0
Path = List ℕ

abbrev pub same_path : Path → Path → Bool
same_path = pointwise nat_eq

-- the paths outside every unrolled loop: the empty one alone
abbrev pub outer_paths : List Path
outer_paths = [] ∷ []

-- this path is one of these
abbrev pub IsPathAmong : Path → List Path → Type 0
IsPathAmong path [] = ⊥
IsPathAmong path (p ∷ ps) = (path ≡ p) ⊎ IsPathAmong path ps

-- the copies 0 to n - 1 of a path, in ascending order
abbrev pub copies_of : Path → (n : ℕ) → List Path
copies_of path zero = []
copies_of path (suc n) = copies_of path n ++ (path ++ n ∷ []) ∷ []

-- of each of these paths so many copies
abbrev pub all_copies : List Path → (n : ℕ) → List Path
all_copies [] n = []
all_copies (path ∷ paths) n = copies_of path n ++ all_copies paths n

-- the paths inside loops that stand one in the other, each with its factor, in ascending order
abbrev pub paths_from : List Path → (factors : List ℕ) → List Path
paths_from paths [] = paths
paths_from paths (factor ∷ factors) = paths_from (all_copies paths factor) factors

abbrev pub paths_in : (factors : List ℕ) → List Path
paths_in factors = paths_from outer_paths factors

-- the copies in loops of these factors
abbrev pub copies_in : (factors : List ℕ) → ℕ
copies_in [] = 1
copies_in (factor ∷ factors) = factor * copies_in factors
