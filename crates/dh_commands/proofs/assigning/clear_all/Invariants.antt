-- Done at the paths so far.
use Rattle.std.specs.Prelude.{ℕ}
use Rattle.dh_meaning.specs.CoreOf.{entity_number}
use Rattle.dh_commands.specs.Setting.{ClearsFirst}
use Rattle.dh_commands.specs.MadeCommands.{ClearedTo}
use Rattle.dh_commands.proofs.assigning.clear_all.Given as goal

abbrev pub invariant-loop-i : goal.invariant-loop-i
invariant-loop-i l = record {
  means : ClearsFirst l.scene l.around l.fn.building l.building (entity_number l.target.entity) l.i;
  made : (first : ℕ) → ClearedTo l.scene l.around first (entity_number l.target.entity) l.i l.fn.building l.building first;
}
