use Rattle.dh_events.specs.Tables.{table_at}
use Rattle.dh_ports.proofs.RangeCounts.{RangeCounted}
use Rattle.dh_ports.proofs.counting.count_paths.Given as goal

abbrev pub invariant-loop-step : goal.invariant-loop-step
invariant-loop-step l = RangeCounted l.reach l.from l.banks l.seen.moment l.step l.counts.items (table_at l.seen.moments.items)
