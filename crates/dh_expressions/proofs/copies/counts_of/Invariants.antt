-- The loops so far are flagged.
use Rattle.dh_tree.specs.Seen.{form_seen}
use Rattle.dh_expressions.specs.Copying.{TellsCountedLevels}
use Rattle.dh_expressions.proofs.copies.counts_of.Given as goal

abbrev pub invariant-loop-level : goal.invariant-loop-level
invariant-loop-level l = TellsCountedLevels l.scene l.level (form_seen l.access.form) l.writes l.counts.items
