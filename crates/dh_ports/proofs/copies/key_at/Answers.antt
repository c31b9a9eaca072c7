use Rattle.std.proofs.Common.{arith}
use Rattle.dh_ports.proofs.CopyTurns.{key_few}
use Rattle.dh_ports.proofs.copies.key_at.Goals as goal

pub overflow_mul-key : goal.overflow_mul-key
overflow_mul-key c =
    let few = key_few c.args.levels.now c.loop-level.level-index c.args.number (record { factor = 0; stride = 0; share = 0 }) c.loop-level-test.true c.loop-level.key c.copy_at.result 65536 c.requires.spread c.requires.few c.loop-level.invariant c.copy_at.ensures in
    omega (arith, few)

pub overflow_add-key : goal.overflow_add-key
overflow_add-key c =
    let few = key_few c.args.levels.now c.loop-level.level-index c.args.number (record { factor = 0; stride = 0; share = 0 }) c.loop-level-test.true c.loop-level.key c.copy_at.result 65536 c.requires.spread c.requires.few c.loop-level.invariant c.copy_at.ensures in
    omega (arith, few)
