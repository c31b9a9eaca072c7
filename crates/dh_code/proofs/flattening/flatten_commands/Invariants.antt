-- The code of the commands from one on.
use Rattle.dh_code.proofs.CommandsFlattened.{CommandsFrom}
use Rattle.dh_code.proofs.flattening.flatten_commands.Given as goal

abbrev pub invariant-loop-i : goal.invariant-loop-i
invariant-loop-i l = CommandsFrom l.names l.fn.code l.code l.commands l.i l.first
