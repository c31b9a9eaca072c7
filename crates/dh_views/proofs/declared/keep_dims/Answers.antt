use Rattle.std.proofs.Common.{◌∙◌}
use Rattle.dh_views.proofs.KeptIndices.{dims_turn}
use Rattle.dh_views.proofs.declared.keep_dims.Goals as goal

pub loop-i-preserved : goal.loop-i-preserved
loop-i-preserved c =
    dims_turn c.args.at c.loop-i.kept c.keep_placed.new.kept c.args.dims.now c.args.places.now c.loop-i.i _ c.loop-i-test.true c.keep_placed.ensures
    ∙ c.loop-i.invariant
