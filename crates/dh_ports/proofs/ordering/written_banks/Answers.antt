use Rattle.std.proofs.Common.{length}
use Rattle.dh_ports.specs.Runs.{moves_in}
use Rattle.dh_ports.specs.Scanned.{IsMoveOf}
use Rattle.dh_ports.proofs.QuietPhases.{none_marked}
use Rattle.dh_ports.proofs.RunTurns.{no_run, run_here, run_rest}
use Rattle.dh_ports.proofs.UnreadPhases.{needs_done, needs_first, needs_turn}
use Rattle.dh_ports.proofs.ordering.written_banks.Goals as goal

pub loop-run-init : goal.loop-run-init
loop-run-init c = (needs_first c.new-classes.result c.args.events.now (moves_in c.args.moves.now), (c.requires.within, none_marked c.new-classes.result c.args.marked.now.items c.new-classes.ensures))

pub note_run-requires-clause-within : goal.note_run-requires-clause-within
note_run-requires-clause-within c = run_here (IsMoveOf (length c.args.events.now)) c.args.moves.now c.loop-run.run-index _ c.loop-run-test.true c.loop-run.invariant.1.0

pub loop-run-preserved : goal.loop-run-preserved
loop-run-preserved c = (
  needs_turn c.loop-run.classes c.note_run.new.classes c.args.events.now c.args.moves.now c.loop-run.run-index _ (moves_in c.args.moves.now) c.loop-run-test.true c.in_ok-note_run.ensures.extends c.in_ok-note_run.ensures.written c.loop-run.invariant.0,
  (run_rest (IsMoveOf (length c.args.events.now)) c.args.moves.now c.loop-run.run-index no_run c.loop-run-test.true c.loop-run.invariant.1.0, c.in_ok-note_run.ensures.marked c.loop-run.invariant.1.1),
)

pub returns : goal.returns
returns c = record {
  written = needs_done c.loop-run.classes c.args.events.now c.args.moves.now c.loop-run.run-index (moves_in c.args.moves.now) c.loop-run-test.false c.loop-run.invariant.0;
  marked = c.loop-run.invariant.1.1;
}
