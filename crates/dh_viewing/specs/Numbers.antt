-- Whole numbers, one for each dimension, as a list.
use Rattle.std.specs.Prelude.{List, take, ℤ}
use Rattle.dh_viewing.specs.declared.numbers.Index.{Index}

abbrev pub numbers_in : Index → List ℤ
numbers_in i = take i.len i.at
