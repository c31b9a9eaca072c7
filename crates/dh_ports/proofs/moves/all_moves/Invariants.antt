use Rattle.std.proofs.Common.{◌≡◌, ◌++◌, drop}
use Rattle.dh_tree.specs.Seen.{program_seen}
use Rattle.dh_events.specs.Accesses.{loops_listed}
use Rattle.dh_events.specs.Noted.{all_seen}
use Rattle.dh_ports.specs.Claims.{moves_from}
use Rattle.dh_ports.specs.EventMoves.{moves_known}
use Rattle.dh_ports.specs.Runs.{moves_in}
use Rattle.dh_ports.specs.Tallies.{IsReadyTally}
use Rattle.dh_ports.proofs.moves.all_moves.Given as goal

abbrev pub invariant-loop-event : goal.invariant-loop-event
invariant-loop-event l =
    (moves_in l.moves.items ++ moves_from (program_seen l.typed) (loops_listed l.layout.rounds.items) l.event (all_seen (drop l.event l.events)) ≡ moves_known (program_seen l.typed) l.layout l.events)
    × IsReadyTally l.tally
