use Rattle.dh_ports.specs.Carriers.{source_in}
use Rattle.dh_ports.proofs.CarrierTurns.{map_done, map_next}
use Rattle.dh_ports.proofs.carrying.sources_on.Goals as goal

pub loop-i-preserved : goal.loop-i-preserved
loop-i-preserved c =
    map_next (source_in c.args.view.now.sort c.args.view.now.shape.dims c.args.view.now.parent.dims) c.args.behind.now c.loop-i.sources.items c.push.new.self.items c.loop-i.i c.source_at-source.result c.loop-i-test.true c.loop-i.invariant c.source_at-source.ensures
    c.in_ok-push.ensures.items

pub returns : goal.returns
returns c = map_done (source_in c.args.view.now.sort c.args.view.now.shape.dims c.args.view.now.parent.dims) c.args.behind.now c.loop-i.sources.items c.loop-i.i c.loop-i-test.false c.loop-i.invariant
