-- Texts of lists, item by item.
use Rattle.std.specs.Prelude.{ℕ, ◌+◌, List, [], ◌∷◌, ◌++◌}

-- the texts of the items, one after the other
abbrev pub each : {A : Type 0} → (A → List ℕ) → List A → List ℕ
each text [] = []
each text (a ∷ rest) = text a ++ each text rest

-- the same, where an item's text has its number in it: the first item has this one
abbrev pub each_numbered : {A : Type 0} → (ℕ → A → List ℕ) → ℕ → List A → List ℕ
each_numbered text i [] = []
each_numbered text i (a ∷ rest) = text i a ++ each_numbered text (i + 1) rest
