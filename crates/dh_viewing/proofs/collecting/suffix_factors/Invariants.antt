-- Those so far, and those of the rest, are all.
use Rattle.std.proofs.Common.{◌≡◌, ◌++◌, map, drop}
use Rattle.dh_tree.specs.Seen.{factor_seen}
use Rattle.dh_viewing.proofs.collecting.suffix_factors.Given as goal

abbrev pub invariant-loop-pair : goal.invariant-loop-pair
invariant-loop-pair l = l.factors ++ map (λ s. s.factor) (map factor_seen (drop l.pair-index l.by)) ≡ map (λ s. s.factor) (map factor_seen l.by)
