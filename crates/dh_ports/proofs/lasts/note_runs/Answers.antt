use Rattle.std.proofs.Common.{length}
use Rattle.dh_ports.specs.Runs.{moves_in}
use Rattle.dh_ports.specs.Scanned.{IsMoveOf}
use Rattle.dh_ports.proofs.AheadNotes.{ahead_done, ahead_first, ahead_run}
use Rattle.dh_ports.proofs.RunTurns.{no_run, run_here, run_rest}
use Rattle.dh_ports.proofs.lasts.note_runs.Goals as goal

pub loop-run-init : goal.loop-run-init
loop-run-init c = (ahead_first c.args.events.now c.args.lasts.now (moves_in c.args.runs.now), c.requires.within)

pub note_run-requires : goal.note_run-requires
note_run-requires c = record { within = run_here (IsMoveOf (length c.args.events.now)) c.args.runs.now c.loop-run.run-index _ c.loop-run-test.true c.loop-run.invariant.1 }

pub loop-run-preserved : goal.loop-run-preserved
loop-run-preserved c = (
  ahead_run c.args.events.now c.args.lasts.now c.loop-run.lasts c.note_run.new.lasts c.args.runs.now c.loop-run.run-index _ (moves_in c.args.runs.now) c.loop-run-test.true c.in_ok-note_run.ensures c.loop-run.invariant.0,
  run_rest (IsMoveOf (length c.args.events.now)) c.args.runs.now c.loop-run.run-index no_run c.loop-run-test.true c.loop-run.invariant.1,
)

pub returns : goal.returns
returns c = ahead_done c.args.events.now c.args.lasts.now c.loop-run.lasts c.args.runs.now c.loop-run.run-index (moves_in c.args.runs.now) c.loop-run-test.false c.loop-run.invariant.0
