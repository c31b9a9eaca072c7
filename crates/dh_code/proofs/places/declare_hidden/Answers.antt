use Rattle.std.proofs.Common.{◌++◌, refl, map, add-one}
use Rattle.dh_code.specs.Placed.{hidden_as}
use Rattle.dh_code.proofs.ViewsFlattened.{mapped_at, mapped_end}
use Rattle.dh_code.proofs.places.declare_hidden.Goals as goal

pub loop-one-preserved : goal.loop-one-preserved
loop-one-preserved c = rw (add-one c.loop-one.one-index)
    (mapped_at hidden_as c.args.hidden.now c.loop-one.one-index c.loop-one.list.items c.push.new.self.items (c.args.list.now.items ++ map hidden_as c.args.hidden.now) _ _ c.loop-one-test.true c.in_ok-push.ensures.items refl c.loop-one.invariant)

pub returns : goal.returns
returns c = mapped_end hidden_as c.args.hidden.now c.loop-one.one-index c.loop-one.list.items (c.args.list.now.items ++ map hidden_as c.args.hidden.now) c.loop-one-test.false c.loop-one.invariant
