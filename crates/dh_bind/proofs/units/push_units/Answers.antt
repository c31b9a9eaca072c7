-- One operation on: what was counted is how many stand before it in its clock.
use Rattle.std.proofs.Common.{arith, ◌∙◌}
use Rattle.std.specs.Prelude.{slice_index}
use Rattle.dh_bind.specs.Units.{counted_at}
use Rattle.dh_bind.proofs.Counted.{unit_turn, counts_turn, few_yet}
use Rattle.dh_bind.proofs.units.push_units.Goals as goal

pub unit_for-requires : goal.unit_for-requires
unit_for-requires c =
    let few = few_yet (slice_index c.args.clocks.now c.loop-i.i) c.args.operations.now c.args.clocks.now c.loop-i.i (counted_at c.loop-i.counts (slice_index c.args.clocks.now c.loop-i.i)) (omega arith)
    (c.loop-i.invariant.counts (slice_index c.args.clocks.now c.loop-i.i)) in
    omega (arith, few)

pub loop-i-preserved : goal.loop-i-preserved
loop-i-preserved c = record {
  units = unit_turn c.args.operations.now c.args.clocks.now c.loop-i.i c.index-operations-i.result c.args.units.now c.loop-i.units c.push.new.self c.in_ok-unit.unit (omega arith) c.index-operations-i.is
      c.loop-i.invariant.units c.in_ok-push.ensures (λ p. c.in_ok-unit.ensures.number p ∙ c.loop-i.invariant.counts (slice_index c.args.clocks.now c.loop-i.i));
  counts = λ q. counts_turn q c.args.operations.now c.args.clocks.now c.loop-i.i c.index-operations-i.result (counted_at c.loop-i.counts q) (counted_at c.unit_for.new.counts q) (omega arith) c.requires c.index-operations-i.is
      (c.loop-i.invariant.counts q) (c.in_ok-unit.ensures.counted q);
}
