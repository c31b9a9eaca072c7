-- Done at the paths so far.
use Rattle.dh_tree.specs.Seen.{view_plan}
use Rattle.dh_tree.specs.ViewOffsets.{offsets_of}
use Rattle.dh_ways.specs.Seen.{hidden_seen}
use Rattle.dh_commands.specs.Setting.{KeepsFirst}
use Rattle.dh_commands.specs.MadeCommands.{KeptTo}
use Rattle.dh_commands.proofs.keeping.keep_all.Given as goal

abbrev pub invariant-loop-i : goal.invariant-loop-i
invariant-loop-i l = record {
  means : KeepsFirst l.scene l.around l.fn.building l.building l.first l.next (hidden_seen l.hidden) (offsets_of (view_plan l.form)) l.i;
  made : KeptTo l.scene l.around l.first l.hidden.entity (offsets_of (view_plan l.form)) l.i l.fn.building l.building l.next;
}
