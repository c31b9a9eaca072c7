-- Done at the paths so far.
use Rattle.dh_tree.specs.Seen.{term_seen}
use Rattle.dh_commands.specs.Setting.{StoresFirst}
use Rattle.dh_commands.specs.MadeCommands.{StoredTo}
use Rattle.dh_commands.proofs.storing.store_all.Given as goal

abbrev pub invariant-loop-i : goal.invariant-loop-i
invariant-loop-i l = record {
  means : StoresFirst l.scene l.around l.fn.building l.building l.first l.next (term_seen l.target) (term_seen l.value) l.i;
  made : StoredTo l.scene l.around l.first (term_seen l.target) (term_seen l.value) l.i l.fn.building l.building l.next;
}
