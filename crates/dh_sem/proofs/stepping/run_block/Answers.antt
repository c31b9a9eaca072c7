use Rattle.std.proofs.Common.{false, Ok, Err, ap, ◌∙◌, subst}
use Rattle.std.proofs.lemmas.Result.{err_from_is_err_and}
use Rattle.dh_sem.specs.declared.phases.PhaseForm.{PhaseForm}
use Rattle.dh_sem.specs.Phased.{TestIsHeld}
use Rattle.dh_sem.proofs.BlocksDone.{choice_runs, loop_runs, runs_on, runs_stop, straight_runs, turns_run}
use Rattle.dh_sem.proofs.stepping.run_block.Goals as goal

pub lanes_at-lanes-requires : goal.lanes_at-lanes-requires
lanes_at-lanes-requires c = record { there = (c.requires.course.links.each c.args.at c.phase_at-phase.result.now c.phase_at-phase.ensures).paths }

pub test-requires-clause-held : goal.test-requires-clause-held
test-requires-clause-held c = subst (λ (f : PhaseForm). TestIsHeld c.args.scene.now.code.now.operations f) c.in-Loop.is (c.requires.course.tests c.args.at c.phase_at-phase.result.now c.phase_at-phase.ensures)

pub test-requires-in-Choice-clause-held : goal.test-requires-in-Choice-clause-held
test-requires-in-Choice-clause-held c = subst (λ (f : PhaseForm). TestIsHeld c.args.scene.now.code.now.operations f) c.in-Choice.is (c.requires.course.tests c.args.at c.phase_at-phase.result.now c.phase_at-phase.ensures)

pub returns-in_err-run-in-Straight-clause-runs : goal.returns-in_err-run-in-Straight-clause-runs
returns-in_err-run-in-Straight-clause-runs c =
    let u = err_from_is_err_and c.from_residual.result c.from_residual.ensures.1 in
    let h = runs_stop c.args.scene.now c.args.state.now c.in_err-run-in-Straight.field-0.0 c.from_residual.result c.run.new.state (u.1 ∙ ap (λ x. Err x) u.2) c.as_slice.ensures.value c.as_slice-in-Straight.ensures.value c.in_err-run-in-Straight.ensures.ran in
    straight_runs c.args.scene.now c.args.course.now c.args.state.now c.args.at c.phase_at-phase.result.now c.lanes_at-lanes.result.now c.phase_at-phase.ensures c.lanes_at-lanes.ensures (Unit {0}) (Err c.in_err-run-in-Straight.field-0.0) c.from_residual.result c.run.new.state c.in-Straight.list c.in-Straight.is h.0 h.1

pub returns-in_ok-run-in-Straight-clause-runs : goal.returns-in_ok-run-in-Straight-clause-runs
returns-in_ok-run-in-Straight-clause-runs c =
    straight_runs c.args.scene.now c.args.course.now c.args.state.now c.args.at c.phase_at-phase.result.now c.lanes_at-lanes.result.now c.phase_at-phase.ensures c.lanes_at-lanes.ensures (Unit {0}) (Ok tt) (Ok false) c.run.new.state c.in-Straight.list c.in-Straight.is
    (runs_on c.args.scene.now c.args.state.now c.run.new.state c.as_slice.ensures.value c.as_slice-in-Straight.ensures.value c.in_ok-run-in-Straight.ensures.ran) (λ p y k. k)

pub returns-in-Loop-clause-runs : goal.returns-in-Loop-clause-runs
returns-in-Loop-clause-runs c = loop_runs c.args.scene.now c.args.course.now c.args.state.now c.args.at c.phase_at-phase.result.now c.lanes_at-lanes.result.now c.phase_at-phase.ensures c.lanes_at-lanes.ensures c.test.result c.test.new.state c.in-Loop.condition _ c.in-Loop.is c.test.ensures.tests

pub returns-in-Choice-clause-runs : goal.returns-in-Choice-clause-runs
returns-in-Choice-clause-runs c = choice_runs c.args.scene.now c.args.course.now c.args.state.now c.args.at c.phase_at-phase.result.now c.lanes_at-lanes.result.now c.phase_at-phase.ensures c.lanes_at-lanes.ensures c.test-in-Choice.result c.test-in-Choice.new.state c.in-Choice.condition _ _ c.in-Choice.is c.test-in-Choice.ensures.tests

pub returns-in-Turns-clause-runs : goal.returns-in-Turns-clause-runs
returns-in-Turns-clause-runs c = turns_run c.args.scene.now c.args.course.now c.args.state.now c.args.at c.phase_at-phase.result.now c.lanes_at-lanes.result.now c.phase_at-phase.ensures c.lanes_at-lanes.ensures (Ok false) c.args.state.now _ c.in-Turns.is
