use Rattle.std.proofs.Common.{ℕ, List, map, drop}
use Rattle.dh_tree.specs.Seen.{action_seen, actions, groups, part_seen}
use Rattle.dh_meaning.specs.CoreOf.{Known}
use Rattle.dh_meaning.specs.Phases.{Phase}
use Rattle.dh_meaning.specs.Sites.{Around}
use Rattle.dh_events.specs.Tables.{table_at}
use Rattle.dh_lengths.specs.LedBy.{IsLedBy}
use Rattle.dh_lengths.specs.PhaseWalks.{WalkStandsBehind, TellGroups, TellPart}
use Rattle.dh_lengths.proofs.PhaseWalking.{GroupsWalked, PartWalked}
use Rattle.dh_lengths.proofs.lengths.+walking.Given as goal

abbrev pub invariant-walk_command-loop-part : goal.invariant-walk_command-loop-part
invariant-walk_command-loop-part l =
    (known : Known) → IsLedBy l.ways known → (r : Around) (base : List ℕ) (line : List Phase) → TellGroups (table_at l.stages) (groups (map part_seen l.part-items)) → WalkStandsBehind known base l.fn.walk line
    → GroupsWalked l.stages known r base line l.fn.walk l.walk (drop l.part-index l.part-items) l.part-items

abbrev pub invariant-walk_command-loop-command : goal.invariant-walk_command-loop-command
invariant-walk_command-loop-command l =
    (known : Known) → IsLedBy l.ways known → (r : Around) (base : List ℕ) (line : List Phase) → TellPart (table_at l.stages) (actions (map action_seen l.command-items)) → WalkStandsBehind known base l.initial.walk line
    → PartWalked l.stages known r base line l.initial.walk l.walk (drop l.command-index l.command-items) l.command-items
