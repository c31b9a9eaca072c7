use Rattle.std.proofs.Common.{◌≤◌, drop}
use Rattle.dh_meaning.specs.CoreOf.{Known}
use Rattle.dh_lengths.specs.LedBy.{IsLedBy}
use Rattle.dh_lengths.specs.HeldLevels.{held_access_count, HasSoundLevels}
use Rattle.dh_lengths.proofs.CommandLevels.{GroupsSo, PartSo}
use Rattle.dh_lengths.proofs.commands.+level_command.Given as goal

abbrev pub invariant-level_command-loop-part : goal.invariant-level_command-loop-part
invariant-level_command-loop-part l = (known : Known) → IsLedBy l.ways known → HasSoundLevels l.fn.held → l.outer ≤ held_access_count l.fn.held → GroupsSo known l.fn.held l.held l.outer (drop l.part-index l.part-items) l.part-items

abbrev pub invariant-level_command-loop-command : goal.invariant-level_command-loop-command
invariant-level_command-loop-command l = (known : Known) → IsLedBy l.ways known → HasSoundLevels l.initial.held → l.outer ≤ held_access_count l.initial.held → PartSo l.ways known l.initial.held l.held l.outer (drop l.command-index l.command-items) l.command-items
