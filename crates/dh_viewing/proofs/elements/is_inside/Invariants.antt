use Rattle.std.proofs.Common.{◌≡◌, drop}
use Rattle.dh_tree.specs.ViewElements as definitions
use Rattle.dh_viewing.proofs.elements.is_inside.Given as goal

-- what is left leads to what all leads to
abbrev pub invariant-loop-i : goal.invariant-loop-i
invariant-loop-i l = definitions.is_inside (drop l.i l.dims) (drop l.i l.indices) ≡ definitions.is_inside l.dims l.indices
