use Rattle.std.proofs.Common.{◌+◌, ap}
use Rattle.dh_sim.proofs.Firsts.{listing_goes}
use Rattle.dh_sim.proofs.layouts.list_firsts.Goals as goal

pub loop-entry-preserved : goal.loop-entry-preserved
loop-entry-preserved c =
    listing_goes c.loop-entry.firsts.items c.loop-entry.next c.args.table.now c.loop-entry.entry-index c.entry-item.result c.loop-entry-test.true c.entry-item.is
    c.loop-entry.invariant c.push.new.self.items (c.loop-entry.next + c.count_ports-next.result) c.in_ok-push.ensures.items (ap (λ n. c.loop-entry.next + n) c.count_ports-next.ensures.is)
