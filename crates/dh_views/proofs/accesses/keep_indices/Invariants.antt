use Rattle.std.proofs.Common.{◌≡◌}
use Rattle.std.specs.Iterator.Adapters.{zip_first, zip_second}
use Rattle.std.specs.Slice.Iter.{iter_rest}
use Rattle.dh_tree.specs.Counters.{counters_of}
use Rattle.dh_tree.specs.Seen.{program_seen}
use Rattle.dh_views.proofs.KeptIndices.{indices_rest}
use Rattle.dh_views.proofs.accesses.keep_indices.Given as goal

-- what is left leads to what all leads to
abbrev pub invariant-loop-dim : goal.invariant-loop-dim
invariant-loop-dim l =
    indices_rest (counters_of (program_seen l.typed)) l.kept (iter_rest (zip_first l.dim-iterator)) (iter_rest (zip_second l.dim-iterator))
    ≡ indices_rest (counters_of (program_seen l.typed)) l.fn.kept l.dims l.indices
