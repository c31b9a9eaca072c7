-- Lists of loops that each have one copy of its body at most.
use Rattle.std.proofs.Common.{List, [], ◌∷◌, ◌++◌}
use Rattle.dh_tree.specs.declared.trees.counters.Counter.{Counter}
use Rattle.dh_tree.specs.Counters.{AreSingle}

pub single_first : (xs ys : List Counter) → AreSingle (xs ++ ys) → AreSingle xs
single_first [] ys h = tt
single_first (x ∷ xs) ys h = (h.0, single_first xs ys h.1)

pub single_rest : (xs ys : List Counter) → AreSingle (xs ++ ys) → AreSingle ys
single_rest [] ys h = h
single_rest (x ∷ xs) ys h = single_rest xs ys h.1
