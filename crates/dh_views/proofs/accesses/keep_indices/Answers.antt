use Rattle.std.proofs.Common.{◌∙◌}
use Rattle.std.specs.Iterator.Adapters.{zip_first, zip_second}
use Rattle.std.specs.Slice.Iter.{iter_rest}
use Rattle.std.proofs.lemmas.Slice.Zip.{either_empty_from_Zip}
use Rattle.dh_tree.specs.Counters.{counters_of}
use Rattle.dh_tree.specs.Seen.{program_seen}
use Rattle.dh_views.proofs.KeptIndices.{indices_end}
use Rattle.dh_views.proofs.accesses.keep_indices.Goals as goal

pub returns : goal.returns
returns c =
    indices_end (counters_of (program_seen c.args.typed.now)) c.loop-dim.kept (iter_rest (zip_first c.loop-dim.dim-iterator)) (iter_rest (zip_second c.loop-dim.dim-iterator))
    (either_empty_from_Zip c.loop-dim.dim-iterator c.next.new.self c.next.result c.in-None.is c.next.ensures.steps)
    ∙ c.loop-dim.invariant
