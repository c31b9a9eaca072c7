use Rattle.std.proofs.Common.{arith}
use Rattle.dh_size.proofs.MarkTurns.{marks_most}
use Rattle.dh_size.proofs.banks.count_marks.Goals as goal

pub overflow_add-count : goal.overflow_add-count
overflow_add-count c =
    let few = marks_most c.args.marks.now c.loop-mark.mark-index c.loop-mark.count c.requires.few c.loop-mark.invariant in
    omega (arith, few)
