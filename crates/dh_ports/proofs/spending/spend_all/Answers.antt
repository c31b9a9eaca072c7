use Rattle.std.proofs.Common.{Bool, List, [], ◌++◌, get_or, length, refl, subst}
use Rattle.dh_events.specs.Noted.{all_seen}
use Rattle.dh_ports.specs.declared.spending.Walked.{Walked}
use Rattle.dh_ports.specs.Passing.{ComesTo}
use Rattle.dh_ports.specs.Runs.{moves_in, moves_of_run}
use Rattle.dh_ports.specs.Scanned.{IsMoveOf}
use Rattle.dh_ports.proofs.RunTurns.{no_run, run_here, run_rest, spent_done, spent_ends, spent_run}
use Rattle.dh_ports.proofs.spending.spend_all.Goals as goal

pub loop-run-init : goal.loop-run-init
loop-run-init c = (c.requires.kept, (λ more rest. refl, c.requires.within))

pub spend_run-requires-clause-within : goal.spend_run-requires-clause-within
spend_run-requires-clause-within c = run_here (IsMoveOf (length c.args.shared.now)) c.args.moves.now c.loop-run.run-index _ c.loop-run-test.true c.loop-run.invariant.1.1

pub loop-run-preserved : goal.loop-run-preserved
loop-run-preserved c =
    let left = subst (λ (w : Walked). (more : List Bool) → ComesTo (all_seen c.args.events.now) (c.args.shared.now ++ more) c.loop-run.levels (moves_of_run (get_or c.args.moves.now c.loop-run.run-index no_run)) c.spend_run.new.levels w) c.in-Past.is c.in_ok-walked.ensures in (
      (left []).0,
      (
        λ more. spent_run (all_seen c.args.events.now) (c.args.shared.now ++ more) c.args.moves.now c.loop-run.run-index no_run c.args.levels.now c.loop-run.levels (moves_in c.args.moves.now) c.loop-run-test.true (c.loop-run.invariant.1.0 more) c.spend_run.new.levels (left more).1,
        run_rest (IsMoveOf (length c.args.shared.now)) c.args.moves.now c.loop-run.run-index no_run c.loop-run-test.true c.loop-run.invariant.1.1,
      ),
    )

pub returns-in-Beyond : goal.returns-in-Beyond
returns-in-Beyond c =
    let found = subst (λ (w : Walked). (more : List Bool) → ComesTo (all_seen c.args.events.now) (c.args.shared.now ++ more) c.loop-run.levels (moves_of_run (get_or c.args.moves.now c.loop-run.run-index no_run)) c.spend_run.new.levels w) c.in-Beyond.is c.in_ok-walked.ensures in
    λ more. spent_ends (all_seen c.args.events.now) (c.args.shared.now ++ more) c.args.moves.now c.loop-run.run-index no_run c.args.levels.now c.loop-run.levels (moves_in c.args.moves.now) c.loop-run-test.true (c.loop-run.invariant.1.0 more) c.in-Beyond.place (found more)

pub returns : goal.returns
returns c = λ more. (c.loop-run.invariant.0, spent_done (all_seen c.args.events.now) (c.args.shared.now ++ more) c.args.moves.now c.loop-run.run-index c.args.levels.now c.loop-run.levels (moves_in c.args.moves.now) c.loop-run-test.false (c.loop-run.invariant.1.0 more))
