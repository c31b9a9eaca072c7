-- The greatest level so far, and of the way behind, is that of the way.
use Rattle.std.proofs.Common.{◌≡◌, max, map}
use Rattle.dh_events.specs.Tables.{table_at}
use Rattle.dh_ways.specs.Linked.{hidden_kept}
use Rattle.dh_ways.specs.Seen.{hidden_seen}
use Rattle.dh_lengths.specs.HeldLevels.{hidden_level}
use Rattle.dh_lengths.proofs.WaysLeveled.{views_left}
use Rattle.dh_lengths.proofs.terms.level_on.Given as goal

abbrev pub invariant-loop-rest : goal.invariant-loop-rest
invariant-loop-rest l = max l.most (hidden_level (table_at l.variables) (map hidden_seen (hidden_kept l.rest))) ≡ max l.level (hidden_level (table_at l.variables) (map hidden_seen l.way.hidden))

abbrev pub decreases-loop-rest : goal.decreases-loop-rest
decreases-loop-rest l = views_left l.rest
