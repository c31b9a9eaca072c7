-- The marks of the rest are still to be taken back.
use Rattle.std.proofs.Common.{◌≡◌, drop}
use Rattle.dh_commands.specs.Joined.{all_unmarked}
use Rattle.dh_commands.proofs.choices.unmark.Given as goal

abbrev pub invariant-loop-choice : goal.invariant-loop-choice
invariant-loop-choice l = all_unmarked (drop l.choice-index l.choices) l.marks.items ≡ all_unmarked l.choices l.fn.marks.items
