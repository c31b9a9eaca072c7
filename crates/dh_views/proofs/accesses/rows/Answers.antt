use Rattle.std.proofs.Common.{refl, arith, ◌/◌}
use Rattle.dh_tree.specs.Elements.{rows_of}
use Rattle.dh_views.specs.Kept.{number_bound}
use Rattle.dh_shape.proofs.Counts.{counting_starts, times_turn}
use Rattle.dh_views.proofs.accesses.rows.Goals as goal

pub loop-dim-init : goal.loop-dim-init
loop-dim-init c = counting_starts number_bound (rows_of c.args.dims.now) (omega arith)

pub loop-dim-preserved : goal.loop-dim-preserved
loop-dim-preserved c = times_turn number_bound (λ d. d.size / d.banks) rows_of (λ d ds. refl) c.args.dims.now c.loop-dim.dim-index c.loop-dim.count c.times_rows-count.result _ c.loop-dim-test.true c.times_rows-count.ensures c.loop-dim.invariant
