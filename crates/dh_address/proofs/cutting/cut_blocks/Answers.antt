use Rattle.std.proofs.Common.{◌≡◌, ap, ◌∙◌, ◌-◌, min, length, arith}
use Rattle.std.specs.Prelude.{slice_index}
use Rattle.dh_address.proofs.BlocksAppended.{cut_back}
use Rattle.dh_address.proofs.cutting.cut_blocks.Goals as goal

pub loop-i-preserved : goal.loop-i-preserved
loop-i-preserved c = λ blocks h is.
    let some = c.loop-i-test.true in
    let within = c.loop-i.auto.i in
    let long : c.len.result ≡ length c.loop-i.operations.items = let e = c.len.ensures in let o = c.loop-i.operations.ok.0 in omega (arith, e, o) in
    cut_back blocks c.args.starts.now c.loop-i.i c.loop-i.operations.items c.loop-i.blocks.items c.push.new.self.items c.min-start.result c.split_off.new.self.items c.in_ok-own.own.items c.from_vec.result
    some (omega (arith, some, within)) (c.min-start.ensures ∙ ap (λ n. min (slice_index c.args.starts.now (c.loop-i.i - 1)) n) long)
    c.in_ok-own.ensures.items c.in_ok-own.ensures.tail c.from_vec.ensures c.in_ok-push.ensures.items h (c.loop-i.invariant blocks h is)
