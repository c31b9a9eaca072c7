use Rattle.std.proofs.Common.{◌∙◌, ap}
use Rattle.dh_tree.specs.LeastBreach.{least_of}
use Rattle.dh_types.specs.Facts.{facts_seen}
use Rattle.dh_types.proofs.Indices.{kept_next}
use Rattle.dh_types.proofs.judging.+breaches.Goals as goal

pub keep_indices-loop-index-preserved : goal.keep_indices-loop-index-preserved
keep_indices-loop-index-preserved t c =
    kept_next (facts_seen c.args.facts.now) c.args.indices.now c.loop-index.index-index c.index-item.result c.args.kept.now c.loop-index.kept c.keep.new.kept c.keep_part.new.kept c.loop-index-test.true c.index-item.is
    (c.keep.ensures ∙ ap (λ l. least_of c.loop-index.kept l) c.index_breach.ensures) c.keep_part.ensures c.loop-index.invariant
