use Rattle.std.proofs.Common.{◌∙◌}
use Rattle.dh_gathering.proofs.BlocksCut.{cut_last, cut_step}
use Rattle.dh_gathering.proofs.cutting.cut.Goals as goal

pub loop-i-preserved : goal.loop-i-preserved
loop-i-preserved c =
    cut_step c.args.operations.items c.args.starts.now c.loop-i.i c.min-start.result c.len.result c.loop-i.operations.items c.split_off.new.self.items c.in_ok-own.own.items c.loop-i.blocks.items c.push.new.self.items (record { operations = c.from_vec.result })
    c.loop-i-test.true c.loop-i.auto.i c.min-start.ensures (c.len.ensures ∙ c.loop-i.operations.ok.0) c.in_ok-own.ensures.items c.in_ok-own.ensures.tail c.from_vec.ensures c.in_ok-push.ensures.items c.loop-i.invariant

pub returns : goal.returns
returns c = cut_last c.args.operations.items c.args.starts.now c.loop-i.i c.loop-i.operations.items c.loop-i.blocks.items c.reverse.new.self.items c.from_vec-2.result c.loop-i-test.false c.reverse.ensures.items c.from_vec-2.ensures c.loop-i.invariant
