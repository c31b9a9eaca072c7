use Rattle.std.proofs.Common.{false, ap, sym, length}
use Rattle.dh_ports.proofs.SumTurns.{no_group}
use Rattle.dh_ports.proofs.keeping.Sums.new.Goals as goal

pub returns : goal.returns
returns c = no_group c.no_reach-reach.result (record { banks = 0; evenly = false; sources = c.new-sources.result }) 0 0 c.new-sums.result.items (sym (ap length c.new-sources.ensures.items)) c.new-sums.ensures.items
