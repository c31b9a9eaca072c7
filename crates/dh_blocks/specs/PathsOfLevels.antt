-- Loops whose strides are the copies of the loops inside them together.
use Rattle.std.specs.Prelude.{◌≡◌, ◌<◌, List, [], ◌∷◌}
use Rattle.dh_meaning.specs.Paths.{copies_in}
use Rattle.dh_expressions.specs.declared.paths.Level.{Level}
use Rattle.dh_commands.specs.ShownVariables.{level_factors}

abbrev pub AreSpread : List Level → Type 0
AreSpread [] = Unit {0}
AreSpread (l ∷ ls) = (1 < l.factor) × ((l.stride ≡ copies_in (level_factors ls)) × AreSpread ls)
