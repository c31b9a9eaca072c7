use Rattle.std.proofs.Common.{add-one}
use Rattle.dh_code.proofs.ViewsFlattened.{kept_end, kept_place}
use Rattle.dh_code.proofs.flattening.kept_in.Goals as goal

pub loop-i-preserved : goal.loop-i-preserved
loop-i-preserved c = rw (add-one c.loop-i.i)
    (kept_place c.args.names.now.places.now c.args.first c.loop-i.i c.args.offsets.now c.loop-i.kept c.push.new.self _ c.place_behind-held.result c.loop-i-test.true c.in_ok-push.ensures c.place_behind-held.ensures c.loop-i.invariant)

pub returns : goal.returns
returns c = kept_end c.args.names.now.places.now c.args.first c.loop-i.i c.args.offsets.now c.loop-i.kept c.loop-i-test.false c.loop-i.invariant
