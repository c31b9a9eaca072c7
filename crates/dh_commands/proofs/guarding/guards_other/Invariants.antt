-- The guards at the paths so far.
use Rattle.std.specs.Prelude.{false}
use Rattle.dh_commands.specs.Choosing.{MakesGuards}
use Rattle.dh_commands.specs.MadeCommands.{MadeArmGuards}
use Rattle.dh_commands.proofs.guarding.guards_other.Given as goal

abbrev pub invariant-loop-i : goal.invariant-loop-i
invariant-loop-i l = record {
  means : MakesGuards l.fn.draft l.draft l.guards l.tests false l.i l.all.items;
  made : MadeArmGuards false l.guards l.tests l.i l.fn.draft l.draft l.all.items;
}
