-- The lowest bits of the factor so far are summed.
use Rattle.dh_expressions.specs.MadeValues.{MadeBits}
use Rattle.dh_expressions.specs.Multiples.{SumSoFar}
use Rattle.dh_expressions.proofs.iterators.push_multiple.Given as goal

abbrev pub invariant-loop-by : goal.invariant-loop-by
invariant-loop-by l = record {
  sums : SumSoFar l.fn.draft l.draft l.value l.factor l.by l.sum;
  made : MadeBits l.value l.by l.fn.draft l.draft l.sum;
}
