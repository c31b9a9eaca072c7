-- The indices so far have their code.
use Rattle.dh_code.specs.Flattening.{known_by_names, table_in}
use Rattle.dh_code.proofs.Flattened.{IndicesSoFar}
use Rattle.dh_code.proofs.flattening.+flatten.Given as goal

abbrev pub invariant-flatten_all-loop-index : goal.invariant-flatten_all-loop-index
invariant-flatten_all-loop-index l = IndicesSoFar (known_by_names l.names) l.names.places.now (table_in l.names) l.fn.code l.indices l.index-index l.code l.operands
