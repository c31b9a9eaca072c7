-- Those before this one are held: whatever those to come give and make, all do.
use Rattle.dh_tree.specs.Seen.{view_plan}
use Rattle.dh_tree.specs.ViewOffsets.{offsets_of}
use Rattle.dh_commands.proofs.KeptWords.{HoldsSoFar}
use Rattle.dh_commands.proofs.keeping.hold_each.Given as goal

abbrev pub invariant-loop-i : goal.invariant-loop-i
invariant-loop-i l = HoldsSoFar l.scene l.first (offsets_of (view_plan l.form)) l.values l.i l.fn.draft l.draft l.held.items
