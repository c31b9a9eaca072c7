-- The code of the commands from one on stands in front of those behind the block.
use Rattle.std.proofs.Common.{drop}
use Rattle.dh_code.proofs.CommandsFlattened.{FlattensGroups, FlattensPart}
use Rattle.dh_code.proofs.flattening.+flatten_command.Given as goal

abbrev pub invariant-flatten_command-loop-i : goal.invariant-flatten_command-loop-i
invariant-flatten_command-loop-i l = FlattensGroups l.names l.fn.code l.code (drop l.i l.parts) l.first l.fn.next

abbrev pub invariant-flatten_command-loop-j : goal.invariant-flatten_command-loop-j
invariant-flatten_command-loop-j l = FlattensPart l.names l.initial.code l.code (drop l.j l.part) l.first l.initial.first
