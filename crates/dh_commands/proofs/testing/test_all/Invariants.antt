-- Done at the paths so far.
use Rattle.dh_tree.specs.Seen.{term_seen}
use Rattle.dh_commands.specs.Setting.{TestsFirst}
use Rattle.dh_commands.specs.MadeCommands.{MadeTests}
use Rattle.dh_commands.proofs.testing.test_all.Given as goal

abbrev pub invariant-loop-i : goal.invariant-loop-i
invariant-loop-i l = record {
  means : TestsFirst l.scene l.around l.fn.building l.building l.first l.next (term_seen l.test) l.tests.items l.i;
  made : MadeTests l.scene l.around l.first (term_seen l.test) l.i l.fn.building l.building l.next l.tests.items;
}
