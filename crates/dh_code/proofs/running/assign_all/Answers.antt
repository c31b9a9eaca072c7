use Rattle.std.proofs.Common.{ap, ◌∙◌, Err, Ok, add-one}
use Rattle.std.specs.Prelude.{slice_index}
use Rattle.std.proofs.lemmas.Result.{err_from_is_err_and}
use Rattle.dh_code.specs.declared.codes.Action.TheVariants.{Assign}
use Rattle.dh_code.specs.Rows.{contents_of}
use Rattle.dh_code.proofs.PathCommands.{assigns_one, assigns_all, done_end, done_first, done_stop, done_turn}
use Rattle.dh_code.proofs.Ranges.{get_whatever}
use Rattle.dh_code.proofs.running.assign_all.Goals as goal

pub loop-path-init : goal.loop-path-init
loop-path-init c = done_first c.args.scene.now c.args.state.now (contents_of c.args.rows.now) c.args.paths.now (Assign c.args.value.now c.args.first c.args.depth) c.requires.ready

pub assign-requires-clause-ready : goal.assign-requires-clause-ready
assign-requires-clause-ready c = c.loop-path.invariant.ready

pub returns-in_err-assign-clause-ran : goal.returns-in_err-assign-clause-ran
returns-in_err-assign-clause-ran c =
    let u = err_from_is_err_and c.from_residual.result c.from_residual.ensures.1 in
    assigns_all c.args.scene.now c.args.state.now _ c.from_residual.result (contents_of c.args.rows.now) c.args.paths.now c.args.value.now c.args.first c.args.depth
    (done_stop c.args.scene.now c.args.state.now (contents_of c.args.rows.now) c.args.paths.now (Assign c.args.value.now c.args.first c.args.depth) c.loop-path.path-index c.loop-path.state (slice_index c.args.paths.now c.loop-path.path-index) c.ranks_at.result.now c.loop-path-test.true (get_whatever c.args.paths.now c.loop-path.path-index 0 (slice_index c.args.paths.now c.loop-path.path-index) c.loop-path-test.true) c.ranks_at.ensures c.loop-path.invariant
    (Unit {0}) (Unit {0}) c.in_err-assign.field-0.0 c.assign.new.state _ c.from_residual.result (u.1 ∙ ap (λ x. Err x) u.2)
    (assigns_one {A = Unit {0}} c.args.scene.now c.loop-path.state c.assign.new.state (Err c.in_err-assign.field-0.0) c.ranks_at.result.now c.args.value.now c.args.first c.args.depth c.in_err-assign.ensures.ran))

pub loop-path-preserved : goal.loop-path-preserved
loop-path-preserved c = rw (add-one c.loop-path.path-index)
    (done_turn c.args.scene.now c.args.state.now (contents_of c.args.rows.now) c.args.paths.now (Assign c.args.value.now c.args.first c.args.depth) c.loop-path.path-index c.loop-path.state (slice_index c.args.paths.now c.loop-path.path-index) c.ranks_at.result.now c.loop-path-test.true (get_whatever c.args.paths.now c.loop-path.path-index 0 (slice_index c.args.paths.now c.loop-path.path-index) c.loop-path-test.true) c.ranks_at.ensures c.loop-path.invariant
    (Unit {0}) tt c.assign.new.state c.assign.ensures.ready c.assign.ensures.back
    (assigns_one {A = Unit {0}} c.args.scene.now c.loop-path.state c.assign.new.state (Ok tt) c.ranks_at.result.now c.args.value.now c.args.first c.args.depth c.in_ok-assign.ensures.ran))

pub returns-clause-ran : goal.returns-clause-ran
returns-clause-ran c =
    assigns_all {A = Unit {0}} c.args.scene.now c.args.state.now c.loop-path.state (Ok tt) (contents_of c.args.rows.now) c.args.paths.now c.args.value.now c.args.first c.args.depth
    (done_end c.args.scene.now c.args.state.now (contents_of c.args.rows.now) c.args.paths.now (Assign c.args.value.now c.args.first c.args.depth) c.loop-path.path-index c.loop-path.state c.loop-path-test.false c.loop-path.invariant)
