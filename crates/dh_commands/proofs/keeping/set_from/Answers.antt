use Rattle.std.proofs.Common.{add-one}
use Rattle.dh_commands.proofs.KeptWords.{set_all, set_first, set_more}
use Rattle.dh_commands.proofs.keeping.set_from.Goals as goal

pub loop-i-init : goal.loop-i-init
loop-i-init c = set_first c.args.scene.now c.args.lane.now c.args.first c.args.kept.now c.args.values.now

pub loop-i-preserved : goal.loop-i-preserved
loop-i-preserved c = rw (add-one c.loop-i.i)
    (set_more c.args.scene.now c.args.lane.now c.args.first c.args.kept.now c.loop-i.i c.args.values.now c.loop-i.values c.set_behind.new.values _ c.loop-i-test.true c.in_ok-set_behind.ensures c.loop-i.invariant)

pub returns : goal.returns
returns c = set_all c.args.scene.now c.args.lane.now c.args.first c.args.kept.now c.loop-i.i c.args.values.now c.loop-i.values c.loop-i-test.false c.loop-i.invariant
