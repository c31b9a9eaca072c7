use Rattle.std.proofs.Common.{refl}
use Rattle.dh_tree.specs.Tables.{elements_of}
use Rattle.dh_extents.proofs.DimSizes.{elements_some}
use Rattle.dh_net.proofs.TableCounts.{counting_goes, counting_stops}
use Rattle.dh_net.proofs.tables.elements_within.Goals as goal

pub returns-in-None : goal.returns-in-None
returns-in-None c =
    counting_stops elements_of (λ d. d.size) (λ d ds. refl) (λ d h. h.size) elements_some c.args.dims.now c.loop-dim.dim-index _ c.loop-dim-test.true c.loop-dim.count c.args.most c.in-None.ensures c.loop-dim.invariant

pub loop-dim-preserved : goal.loop-dim-preserved
loop-dim-preserved c =
    counting_goes elements_of (λ d. d.size) (λ d ds. refl) (λ d h. h.size) elements_some c.args.dims.now c.loop-dim.dim-index _ c.loop-dim-test.true c.loop-dim.count c.in-Some.product c.args.most c.requires.most c.in-Some.ensures.0 c.in-Some.ensures.1 c.loop-dim.invariant
