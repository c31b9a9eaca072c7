-- the sum to come of what is left is that of all
use Rattle.std.proofs.Common.{drop}
use Rattle.dh_size.specs.Summed.{suffix_operators}
use Rattle.dh_size.proofs.SummedParts.{Left}
use Rattle.dh_size.proofs.operators.with_suffixes.Given as goal

abbrev pub invariant-loop-pair : goal.invariant-loop-pair
invariant-loop-pair l = Left l.next (suffix_operators (drop l.pair-index l.by)) l.sum (suffix_operators l.by)
