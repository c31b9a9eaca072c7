-- Done at the paths so far.
use Rattle.dh_tree.specs.Seen.{term_seen}
use Rattle.dh_commands.specs.Setting.{ReducesFirst}
use Rattle.dh_commands.specs.MadeCommands.{ReducedTo}
use Rattle.dh_meaning.specs.CoreOf.{entity_number}
use Rattle.dh_commands.proofs.assigning.reduce_all.Given as goal

abbrev pub invariant-loop-i : goal.invariant-loop-i
invariant-loop-i l = record {
  means : ReducesFirst l.scene l.around l.fn.building l.building l.first l.next l.target l.op (term_seen l.value) l.i;
  made : ReducedTo l.scene l.around l.first (entity_number l.target.entity) l.op (term_seen l.value) l.i l.fn.building l.building l.next;
}
