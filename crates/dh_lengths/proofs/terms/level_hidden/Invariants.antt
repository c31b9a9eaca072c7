use Rattle.std.proofs.Common.{◌≡◌, max, map, drop}
use Rattle.dh_events.specs.Tables.{table_at}
use Rattle.dh_ways.specs.Seen.{hidden_seen}
use Rattle.dh_lengths.specs.HeldLevels.{hidden_level}
use Rattle.dh_lengths.proofs.terms.level_hidden.Given as goal

abbrev pub invariant-loop-one : goal.invariant-loop-one
invariant-loop-one l = max l.most (hidden_level (table_at l.variables) (map hidden_seen (drop l.one-index l.hidden))) ≡ max l.level (hidden_level (table_at l.variables) (map hidden_seen l.hidden))
