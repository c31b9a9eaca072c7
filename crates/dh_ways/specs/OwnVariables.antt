-- The variables of one view, as they are held.
use Rattle.std.specs.Prelude.{List}
use Rattle.dh_ways.specs.declared.variables.Held.{Held}
use Rattle.dh_ways.specs.declared.variables.Held.TheVariants.{Alone, All}
use Rattle.dh_ways.specs.declared.ways.Hidden.{Hidden}

abbrev pub held_variables : Held → List Hidden
held_variables (Alone one) = one
held_variables (All all) = all
