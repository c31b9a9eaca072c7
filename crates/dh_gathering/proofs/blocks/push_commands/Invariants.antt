-- Whatever the commands that are left do, all do from the begin.
use Rattle.std.proofs.Common.{drop}
use Rattle.dh_gathering.proofs.BlocksPut.{CommandsLead}
use Rattle.dh_gathering.proofs.blocks.push_commands.Given as goal

abbrev pub invariant-loop-numbered : goal.invariant-loop-numbered
invariant-loop-numbered l = CommandsLead l.scene l.around l.commands (drop l.numbered-index l.commands) l.fn.building l.building
