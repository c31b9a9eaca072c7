-- The paths so far stand on one side or the other.
use Rattle.dh_code.specs.Rows.{contents_of}
use Rattle.dh_code.proofs.ChoicesDone.{PartsSoFar}
use Rattle.dh_code.proofs.running.part.Given as goal

abbrev pub invariant-loop-path : goal.invariant-loop-path
invariant-loop-path l = PartsSoFar l.scene l.fn.state (contents_of l.rows) l.paths l.test l.path-index l.state l.chosen.items l.other.items
