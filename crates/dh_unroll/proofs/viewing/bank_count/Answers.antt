use Rattle.std.proofs.Common.{arith}
use Rattle.dh_viewing.proofs.Covered.{counted_few}
use Rattle.dh_unroll.proofs.viewing.bank_count.Goals as goal

pub overflow_mul-count : goal.overflow_mul-count
overflow_mul-count c =
    let few = counted_few c.args.dims.now c.loop-i.i (record { size = 0; banks = 0 }) c.loop-i.count 64 c.requires.dims c.requires.few c.loop-i-test.true c.loop-i.invariant in
    omega (arith, few)
