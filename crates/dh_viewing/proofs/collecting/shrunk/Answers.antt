use Rattle.std.proofs.Common.{arith}
use Rattle.dh_viewing.proofs.ViewsFound.{shrunk_next, shrunk_end}
use Rattle.dh_viewing.proofs.collecting.shrunk.Goals as goal

pub loop-i-preserved : goal.loop-i-preserved
loop-i-preserved c =
    shrunk_next c.args.factors.now c.args.dims.now c.loop-i.all c.push.new.self c.loop-i.i (record { size = 0; banks = 0 }) c.shrunk_dim.result c.loop-i-test.true c.shrunk_dim.ensures c.in_ok-push.ensures c.loop-i.invariant

pub returns : goal.returns
returns c = shrunk_end c.args.factors.now c.args.dims.now c.loop-i.all c.loop-i.i (let l = c.loop-i-test.false in let m = c.loop-i.auto.i-end in omega (arith, l, m)) c.loop-i.invariant
