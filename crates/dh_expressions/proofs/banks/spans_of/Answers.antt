use Rattle.std.proofs.Common.{◌≡◌, ◌+◌, ◌-◌, ◌<◌, length, map, arith}
use Rattle.dh_tree.specs.Seen.{term_seen}
use Rattle.dh_expressions.proofs.BankSpans.{spans_more, times_more}
use Rattle.dh_expressions.proofs.banks.spans_of.Goals as goal

pub loop-i-preserved : goal.loop-i-preserved
loop-i-preserved c =
    let some = c.loop-i-test.true in
    let few = c.loop-i.auto.i in
    let back : c.loop-i.i ≡ c.loop-i.i - 1 + 1 = omega (arith, some) in
    let within : c.loop-i.i - 1 < length c.args.dims.now = omega (arith, some, few) in
    record {
      tells = spans_more c.args.scene.now c.args.levels.now c.args.dims.now (map term_seen c.args.indices.now) (c.loop-i.i - 1) c.loop-i.i c.loop-i.times (record { size = 0; banks = 0 }) c.loop-i.spans.items c.add_span_at.new.spans.items back within
          c.loop-i.invariant.tells c.loop-i.invariant.times c.in_ok-add_span_at.ensures;
      times = times_more c.args.scene.now c.args.levels.now c.args.dims.now (map term_seen c.args.indices.now) (c.loop-i.i - 1) c.loop-i.i c.loop-i.times c.saturating_mul-times.result (record { size = 0; banks = 0 }) back within
          c.loop-i.invariant.times c.saturating_mul-times.ensures;
    }
