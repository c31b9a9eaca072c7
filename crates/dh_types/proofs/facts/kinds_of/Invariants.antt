-- The kinds so far, and those of the rest, are all.
use Rattle.std.proofs.Common.{◌≡◌, ◌++◌, map, drop}
use Rattle.dh_tree.specs.Seen.{formal_seen}
use Rattle.dh_types.proofs.facts.kinds_of.Given as goal

abbrev pub invariant-loop-parameter : goal.invariant-loop-parameter
invariant-loop-parameter l = l.kinds ++ map (λ m. m.kind) (map formal_seen (drop l.parameter-index l.parameters)) ≡ map (λ m. m.kind) (map formal_seen l.parameters)
