-- The assignments from here on are taken back.
use Rattle.dh_commands.proofs.ArmEnded.{EndsFrom}
use Rattle.dh_commands.proofs.choices.end_arm.Given as goal

abbrev pub invariant-loop-i : goal.invariant-loop-i
invariant-loop-i l = EndsFrom l.fn.values l.values l.floor l.i l.left.items
