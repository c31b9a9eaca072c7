use Rattle.std.proofs.Common.{ℕ, Err, refl, ap, sym, ◌∙◌, subst}
use Rattle.std.specs.Prelude.{Option, Result}
use Rattle.dh_code.specs.declared.evaluating.StepStop.{StepStop}
use Rattle.dh_sem.specs.Steps.{RunsNext, which}
use Rattle.std.proofs.lemmas.Result.{err_from_is_err_and}
use Rattle.dh_sem.proofs.StepsDone.{block_goes, block_stops}
use Rattle.dh_sem.proofs.stepping.run_next.Goals as goal

pub returns-in_err-holds-clause-runs : goal.returns-in_err-holds-clause-runs
returns-in_err-holds-clause-runs c =
    let u = err_from_is_err_and c.from_residual.result c.from_residual.ensures.1 in
    subst (λ (r : Result (Option ℕ) StepStop). RunsNext c.args.scene.now c.args.course.now c.args.state.now r c.run_block.new.state c.args.at c.args.frames.now.items c.args.frames.now.items) (ap (λ (r : Result (Unit {0}) StepStop). which r c.args.next.now) (sym (u.1 ∙ ap (λ x. Err x) u.2)))
    (block_stops c.args.scene.now c.args.course.now c.args.state.now c.run_block.new.state c.args.at c.args.frames.now.items c.in_err-holds.field-0.0 (Err c.in_err-holds.field-0.0) c.args.frames.now.items refl c.in_err-holds.ensures.runs)

pub returns-clause-runs : goal.returns-clause-runs
returns-clause-runs c = block_goes c.args.scene.now c.args.course.now c.args.state.now c.run_block.new.state c.args.at c.args.frames.now.items c.in_ok-holds.holds c.in_ok-next.field-0 c.go_on.new.state c.go_on.new.frames.items c.in_ok-holds.ensures.runs c.go_on.ensures.only c.in_ok-next.ensures.goes
