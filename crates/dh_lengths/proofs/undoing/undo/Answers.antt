use Rattle.std.proofs.Common.{rules}
use Rattle.dh_lengths.specs.Undone.{mark}
use Rattle.dh_lengths.proofs.UndoneFacts.{undo_turn}
use Rattle.dh_lengths.proofs.undoing.undo.Goals as goal

pub loop-i-preserved : goal.loop-i-preserved
loop-i-preserved c = undo_turn c.args.log.now c.loop-i.i (mark 0 0) _ _ _ c.loop-i-test.true c.loop-i.auto.i c.in_ok-set_number.ensures c.loop-i.invariant
