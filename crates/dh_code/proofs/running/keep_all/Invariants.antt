-- The command was done at the paths so far.
use Rattle.dh_code.specs.declared.codes.Action.TheVariants.{Keep}
use Rattle.dh_code.specs.Rows.{contents_of}
use Rattle.dh_code.proofs.PathCommands.{DoneSoFar}
use Rattle.dh_code.proofs.running.keep_all.Given as goal

abbrev pub invariant-loop-path : goal.invariant-loop-path
invariant-loop-path l = DoneSoFar l.scene l.fn.state (contents_of l.rows) l.paths (Keep l.range.0 l.range.1 l.values l.depth) l.path-index l.state
