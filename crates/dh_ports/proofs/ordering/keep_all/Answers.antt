use Rattle.std.proofs.Common.{length}
use Rattle.dh_ports.specs.Runs.{moves_in}
use Rattle.dh_ports.specs.Scanned.{IsMoveOf}
use Rattle.dh_ports.proofs.RunTurns.{late_done, late_run, late_start, no_run, run_here, run_rest}
use Rattle.dh_ports.proofs.ordering.keep_all.Goals as goal

pub loop-run-init : goal.loop-run-init
loop-run-init c = (
  c.new-levels.ensures.kept,
  (late_start c.args.classes.now c.args.events.now c.args.starts.items c.new-levels.result (moves_in c.args.moves.now) c.args.kept.now c.new-levels.ensures.starts, c.requires.within),
)

pub keep_run-requires-clause-within : goal.keep_run-requires-clause-within
keep_run-requires-clause-within c = run_here (IsMoveOf (length c.args.events.now)) c.args.moves.now c.loop-run.run-index _ c.loop-run-test.true c.loop-run.invariant.1.1

pub loop-run-preserved : goal.loop-run-preserved
loop-run-preserved c = (
  c.in_ok-keep_run.ensures.kept,
  (
    late_run c.args.classes.now c.args.events.now c.args.moves.now c.loop-run.run-index _ c.loop-run.levels c.keep_run.new.levels _ c.loop-run.kept c.keep_run.new.kept c.loop-run-test.true c.loop-run.invariant.1.0 c.in_ok-keep_run.ensures,
    run_rest (IsMoveOf (length c.args.events.now)) c.args.moves.now c.loop-run.run-index no_run c.loop-run-test.true c.loop-run.invariant.1.1,
  ),
)

pub returns : goal.returns
returns c = late_done c.args.classes.now c.args.events.now c.args.moves.now c.loop-run.run-index c.loop-run.levels c.loop-run.kept _ c.loop-run-test.false c.loop-run.invariant.1.0
