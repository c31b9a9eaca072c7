use Rattle.std.proofs.Common.{length, ◌<◌, ◌^◌, ap, arith}
use Rattle.dh_plan.specs.SeenPlans.{nodes_seen, plan_seen}
use Rattle.dh_flow.proofs.GraphMade.{graph_made, thread_made}
use Rattle.dh_flow.proofs.ToldForms.{rest_is}
use Rattle.dh_flow.proofs.flowing.flow.Goals as goal

pub returns-clause-graph : goal.returns-clause-graph
returns-clause-graph c =
    let o = c.measure.new.marks.ok in
    let s = c.measure.new.marks.small in
    let short : length c.measure.new.marks.items < 2 ^ 63 = omega (arith, o.0, o.1, s) in
    graph_made _ (nodes_seen c.as_slice-body.result.now) c.new-marks.result.items c.measure.new.marks.items c.walk.new.marks.items c.in_ok-whole.whole c.in_ok-graph.graph c.walk.new.graph _
    c.requires (ap nodes_seen c.as_slice-body.ensures.value) c.new-marks.ensures.items rest_is short c.in_ok-whole.ensures c.in_ok-graph.ensures c.in_ok-walk.ensures

pub returns-clause-thread : goal.returns-clause-thread
returns-clause-thread c =
    let o = c.measure.new.marks.ok in
    let s = c.measure.new.marks.small in
    let short : length c.measure.new.marks.items < 2 ^ 63 = omega (arith, o.0, o.1, s) in
    thread_made (plan_seen c.args.plan.now) (nodes_seen c.as_slice-body.result.now) c.new-marks.result.items c.measure.new.marks.items c.walk.new.marks.items c.in_ok-whole.whole c.in_ok-graph.graph c.walk.new.graph _
    (ap nodes_seen c.as_slice-body.ensures.value) c.new-marks.ensures.items rest_is short c.in_ok-whole.ensures c.in_ok-graph.ensures c.in_ok-walk.ensures
