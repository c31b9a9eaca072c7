-- The offsets so far have their operations.
use Rattle.dh_commands.specs.Keeping.{paired}
use Rattle.dh_commands.proofs.KeptWords.{WordsSoFar}
use Rattle.dh_commands.proofs.keeping.push_pairs.Given as goal

abbrev pub invariant-loop-pair : goal.invariant-loop-pair
invariant-loop-pair l = WordsSoFar l.scene l.lane l.current l.fn.draft l.fn.accesses l.first (paired l.by) l.pair-index l.draft l.accesses l.values.items l.next
