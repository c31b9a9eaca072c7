-- Done at the paths so far.
use Rattle.dh_tree.specs.Seen.{term_seen}
use Rattle.dh_meaning.specs.CoreOf.{entity_number}
use Rattle.dh_commands.specs.Setting.{AssignsFirst}
use Rattle.dh_commands.specs.MadeCommands.{AssignedTo}
use Rattle.dh_commands.proofs.assigning.assign_all.Given as goal

abbrev pub invariant-loop-i : goal.invariant-loop-i
invariant-loop-i l = record {
  means : AssignsFirst l.scene l.around l.fn.building l.building l.first l.next (entity_number l.target.entity) (term_seen l.value) l.i;
  made : AssignedTo l.scene l.around l.first (entity_number l.target.entity) (term_seen l.value) l.i l.fn.building l.building l.next;
}
