-- Behind the last dimension, or the last index, row and bank are what they are so far.
use Rattle.std.proofs.Common.{◌≡◌, ℕ, zero, suc, ◌≤◌, List, refl, arith, length, drop, min}
use Rattle.std.specs.Prelude.{Some, [], ◌∷◌}
use Rattle.dh_tree.specs.declared.tables.Dim.{Dim}
use Rattle.dh_address.specs.declared.operands.BlockValue.{BlockValue}
use Rattle.dh_address.specs.LiteralPlaces.{literal_places}

pub places_end : (dims : List Dim) (indices : List BlockValue) (k row bank : ℕ) → min (length dims) (length indices) ≤ k
    → literal_places (drop k dims) (drop k indices) row bank ≡ Some (record { row = row; bank = bank })
places_end [] indices zero row bank l = refl
places_end [] indices (suc k) row bank l = refl
places_end (d ∷ dims) [] zero row bank l = refl
places_end (d ∷ dims) [] (suc k) row bank l = none (drop k dims)
  where
    none : (ds : List Dim) → literal_places ds [] row bank ≡ Some (record { row = row; bank = bank })
    none [] = refl
    none (d ∷ ds) = refl
places_end (d ∷ dims) (i ∷ indices) zero row bank l = absurd (omega (arith, l))
places_end (d ∷ dims) (i ∷ indices) (suc k) row bank l = places_end dims indices k row bank (omega (arith, l))
