-- Whatever the indices to come give and make, all do.
use Rattle.dh_expressions.proofs.Evaluating.{Leads}
use Rattle.dh_expressions.proofs.PartsMade.{Makes}
use Rattle.dh_expressions.proofs.terms.+terms.Given as goal

abbrev pub invariant-push_indices-loop-index : goal.invariant-push_indices-loop-index
invariant-push_indices-loop-index l = record {
  means : Leads l.scene l.lane l.current l.fn.draft l.fn.accesses l.fn.first l.indices l.index-index l.draft l.accesses l.values l.number;
  made : Makes l.scene l.lane l.current l.fn.draft l.fn.accesses l.fn.first l.indices l.index-index l.draft l.accesses l.values l.number;
}
