-- The offsets so far have their operations.
use Rattle.std.proofs.Common.{map}
use Rattle.dh_tree.specs.Seen.{term_seen}
use Rattle.dh_commands.proofs.KeptWords.{WordsSoFar}
use Rattle.dh_commands.proofs.keeping.push_each.Given as goal

abbrev pub invariant-loop-offset : goal.invariant-loop-offset
invariant-loop-offset l = WordsSoFar l.scene l.lane l.current l.fn.draft l.fn.accesses l.first (map term_seen l.offsets) l.offset-index l.draft l.accesses l.values.items l.next
