use Rattle.std.proofs.Common.{◌++◌, ap}
use Rattle.dh_tree.specs.Seen.{program_seen}
use Rattle.dh_events.specs.Accesses.{loops_listed}
use Rattle.dh_ports.specs.EventMoves.{moves_known}
use Rattle.dh_ports.specs.Runs.{moves_in}
use Rattle.dh_ports.proofs.MoveTurns.{few_at, moves_done, moves_turn}
use Rattle.dh_ports.proofs.moves.all_moves.Goals as goal

pub loop-event-init : goal.loop-event-init
loop-event-init c = (ap (λ l. moves_in l ++ moves_known (program_seen c.args.typed.now) c.args.layout.now c.args.events.now) c.in_ok-moves.ensures.items, c.new-tally.ensures)

pub move_banks-requires-clause-copies : goal.move_banks-requires-clause-copies
move_banks-requires-clause-copies c = few_at c.args.layout.now.rounds.items c.args.events.now c.loop-event.event c.index-events-event.result c.requires.copies c.loop-event-test.true c.index-events-event.is

pub loop-event-preserved : goal.loop-event-preserved
loop-event-preserved c = (
  moves_turn (program_seen c.args.typed.now) (loops_listed c.args.layout.now.rounds.items) c.args.events.now c.loop-event.event c.index-events-event.result (moves_in c.loop-event.moves.items) (moves_in c.move_banks.new.moves.items) _ c.loop-event-test.true c.index-events-event.is c.loop-event.invariant.0 c.in_ok-move_banks.ensures.moves,
  c.in_ok-move_banks.ensures.past,
)

pub returns : goal.returns
returns c = moves_done (program_seen c.args.typed.now) (loops_listed c.args.layout.now.rounds.items) c.args.events.now c.loop-event.event (moves_in c.loop-event.moves.items) _ c.loop-event-test.false c.loop-event.invariant.0
