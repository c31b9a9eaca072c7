use Rattle.std.proofs.Common.{length, refl}
use Rattle.dh_lengths.proofs.KeptViews.{sets_begin, sets_end, sets_turn}
use Rattle.dh_lengths.proofs.views.keep_levels.Goals as goal

pub loop-i-init : goal.loop-i-init
loop-i-init c = sets_begin c.args.held.now c.args.first (length c.args.levels.now) c.args.levels.now refl

pub loop-i-preserved : goal.loop-i-preserved
loop-i-preserved c =
    sets_turn c.args.held.now c.loop-i.held c.assign_at.new.self c.args.first c.loop-i.i c.args.levels.now c.loop-i-test.true c.loop-i.auto.i c.loop-i.invariant c.in_ok-assign_at.ensures

pub returns : goal.returns
returns c = sets_end c.args.held.now c.loop-i.held c.args.first c.loop-i.i c.args.levels.now c.loop-i-test.false c.loop-i.invariant
