use Rattle.dh_ports.proofs.SumTurns.{no_bank_counted}
use Rattle.dh_ports.proofs.keeping.BankKeyCounts.new.Goals as goal

pub returns : goal.returns
returns c = no_bank_counted c.no_reach-reach.result 0 c.new-counts.result.items c.new-counts.ensures.items
