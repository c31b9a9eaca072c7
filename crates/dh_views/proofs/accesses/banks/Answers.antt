use Rattle.std.proofs.Common.{refl, arith}
use Rattle.dh_tree.specs.Elements.{banks_of}
use Rattle.dh_views.specs.Kept.{number_bound}
use Rattle.dh_shape.proofs.Counts.{counting_starts, times_turn}
use Rattle.dh_views.proofs.accesses.banks.Goals as goal

pub loop-dim-init : goal.loop-dim-init
loop-dim-init c = counting_starts number_bound (banks_of c.args.dims.now) (omega arith)

pub loop-dim-preserved : goal.loop-dim-preserved
loop-dim-preserved c = times_turn number_bound (λ d. d.banks) banks_of (λ d ds. refl) c.args.dims.now c.loop-dim.dim-index c.loop-dim.count c.times_banks-count.result _ c.loop-dim-test.true c.times_banks-count.ensures c.loop-dim.invariant
