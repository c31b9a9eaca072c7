-- The guards at the paths so far.
use Rattle.std.specs.Prelude.{true}
use Rattle.dh_commands.specs.Choosing.{MakesGuards}
use Rattle.dh_commands.specs.MadeCommands.{MadeArmGuards}
use Rattle.dh_commands.proofs.guarding.guards_chosen.Given as goal

abbrev pub invariant-loop-i : goal.invariant-loop-i
invariant-loop-i l = record {
  means : MakesGuards l.fn.draft l.draft l.guards l.tests true l.i l.all.items;
  made : MadeArmGuards true l.guards l.tests l.i l.fn.draft l.draft l.all.items;
}
