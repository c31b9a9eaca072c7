use Rattle.dh_lengths.specs.Undone.{mark}
use Rattle.dh_lengths.proofs.UndoneFacts.{redo_turn}
use Rattle.dh_lengths.proofs.undoing.redo.Goals as goal

pub loop-mark-preserved : goal.loop-mark-preserved
loop-mark-preserved c = redo_turn c.args.marks.now c.loop-mark.mark-index (mark 0 0) _ _ _ c.loop-mark-test.true c.in_ok-set_number.ensures c.loop-mark.invariant
