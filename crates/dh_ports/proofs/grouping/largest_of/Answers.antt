use Rattle.std.proofs.Common.{◌≡◌, length, slice_index, ap, ◌∙◌, arith}
use Rattle.dh_viewing.specs.Carried.{largest}
use Rattle.dh_ports.proofs.GroupTurns.{largest_turn}
use Rattle.dh_ports.proofs.grouping.largest_of.Goals as goal

pub loop-i-preserved : goal.loop-i-preserved
loop-i-preserved c = largest_turn c.args.counts.now c.loop-i.i c.loop-i.most c.max-most.result c.loop-i-test.true c.loop-i.invariant c.max-most.ensures

pub returns : goal.returns
returns c =
    let all : c.loop-i.i ≡ length c.args.counts.now = omega (arith, c.loop-i-test.false, c.loop-i.auto.i-end) in
    c.loop-i.invariant ∙ ap (largest (slice_index c.args.counts.now)) all
