-- The offsets so far have their code.
use Rattle.dh_code.specs.Flattening.{known_by_names, offsets_by, table_in}
use Rattle.dh_code.proofs.Flattened.{IndicesSoFar}
use Rattle.dh_code.proofs.flattening.flatten_pairs.Given as goal

abbrev pub invariant-loop-pair : goal.invariant-loop-pair
invariant-loop-pair l = IndicesSoFar (known_by_names l.names) l.names.places.now (table_in l.names) l.fn.code (offsets_by l.by) l.pair-index l.code l.operands
