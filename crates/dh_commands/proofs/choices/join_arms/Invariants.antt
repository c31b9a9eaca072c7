-- What the arms left is noted so far.
use Rattle.std.proofs.Common.{take}
use Rattle.std.specs.Prelude.{[]}
use Rattle.dh_commands.proofs.JoinTurns.{JoinsTo}
use Rattle.dh_commands.proofs.choices.join_arms.Given as goal

abbrev pub invariant-loop-left : goal.invariant-loop-left
invariant-loop-left l = JoinsTo l.fn.values l.values l.chosen l.other (take l.left-index l.chosen) [] l.choices.items

abbrev pub invariant-loop-left-2 : goal.invariant-loop-left-2
invariant-loop-left-2 l = JoinsTo l.fn.values l.values l.chosen l.other l.chosen (take l.left-index l.other) l.choices.items
