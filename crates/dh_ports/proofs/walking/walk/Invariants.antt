use Rattle.dh_tree.specs.Seen.{program_seen}
use Rattle.dh_ports.specs.Tallies.{IsReadyTally}
use Rattle.dh_ports.proofs.WalkTurns.{WalksTo}
use Rattle.dh_ports.proofs.walking.walk.Given as goal

abbrev pub invariant-loop-event : goal.invariant-loop-event
invariant-loop-event l = WalksTo (program_seen l.typed) l.layout l.events l.event l.sharing l.lasts l.levels l.walked × IsReadyTally l.tally
