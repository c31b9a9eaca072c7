use Rattle.dh_control.proofs.GatheredItems.{gather_start, gather_step, gather_end}
use Rattle.dh_control.proofs.gathering.gather.Goals as goal

pub loop-entry-init : goal.loop-entry-init
loop-entry-init g c = gather_start c.args.count c.in_ok-lists.lists.items c.args.entries.now c.in_ok-lists.ensures

pub loop-entry-preserved : goal.loop-entry-preserved
loop-entry-preserved g c =
    gather_step c.args.count c.loop-entry.entry-index c.loop-entry.lists.len c.loop-entry.lists.items c.as_mut_slice.result.now c.put.new.lists c.args.entries.now c.entry-item.result
    c.loop-entry-test.true c.entry-item.is c.loop-entry.lists.ok.0 c.as_mut_slice.ensures.value c.in_ok-put.ensures c.loop-entry.invariant

pub returns-clause-each : goal.returns-clause-each
returns-clause-each g c = gather_end c.args.count c.loop-entry.entry-index c.loop-entry.lists.items c.args.entries.now c.loop-entry-test.false c.loop-entry.invariant

pub returns-clause-long : goal.returns-clause-long
returns-clause-long g c = c.loop-entry.invariant.long
