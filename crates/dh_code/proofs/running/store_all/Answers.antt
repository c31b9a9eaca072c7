use Rattle.std.proofs.Common.{ap, ◌∙◌, Err, Ok, add-one}
use Rattle.std.specs.Prelude.{slice_index}
use Rattle.std.proofs.lemmas.Result.{err_from_is_err_and}
use Rattle.dh_code.specs.declared.codes.Action.TheVariants.{Store}
use Rattle.dh_code.specs.Rows.{contents_of}
use Rattle.dh_code.proofs.PathCommands.{stores_one, stores_all, done_end, done_first, done_stop, done_turn}
use Rattle.dh_code.proofs.Ranges.{get_whatever}
use Rattle.dh_code.proofs.running.store_all.Goals as goal

pub loop-path-init : goal.loop-path-init
loop-path-init c = done_first c.args.scene.now c.args.state.now (contents_of c.args.rows.now) c.args.paths.now (Store c.args.value.now c.args.access.now) c.requires.ready

pub store-requires-clause-ready : goal.store-requires-clause-ready
store-requires-clause-ready c = c.loop-path.invariant.ready

pub returns-in_err-store-clause-ran : goal.returns-in_err-store-clause-ran
returns-in_err-store-clause-ran c =
    let u = err_from_is_err_and c.from_residual.result c.from_residual.ensures.1 in
    stores_all c.args.scene.now c.args.state.now _ c.from_residual.result (contents_of c.args.rows.now) c.args.paths.now c.args.value.now c.args.access.now
    (done_stop c.args.scene.now c.args.state.now (contents_of c.args.rows.now) c.args.paths.now (Store c.args.value.now c.args.access.now) c.loop-path.path-index c.loop-path.state (slice_index c.args.paths.now c.loop-path.path-index) c.ranks_at.result.now c.loop-path-test.true (get_whatever c.args.paths.now c.loop-path.path-index 0 (slice_index c.args.paths.now c.loop-path.path-index) c.loop-path-test.true) c.ranks_at.ensures c.loop-path.invariant
    (Unit {0}) (Unit {0}) c.in_err-store.field-0.0 c.store.new.state _ c.from_residual.result (u.1 ∙ ap (λ x. Err x) u.2)
    (stores_one {A = Unit {0}} c.args.scene.now c.loop-path.state c.store.new.state (Err c.in_err-store.field-0.0) c.ranks_at.result.now c.args.value.now c.args.access.now c.in_err-store.ensures.ran))

pub loop-path-preserved : goal.loop-path-preserved
loop-path-preserved c = rw (add-one c.loop-path.path-index)
    (done_turn c.args.scene.now c.args.state.now (contents_of c.args.rows.now) c.args.paths.now (Store c.args.value.now c.args.access.now) c.loop-path.path-index c.loop-path.state (slice_index c.args.paths.now c.loop-path.path-index) c.ranks_at.result.now c.loop-path-test.true (get_whatever c.args.paths.now c.loop-path.path-index 0 (slice_index c.args.paths.now c.loop-path.path-index) c.loop-path-test.true) c.ranks_at.ensures c.loop-path.invariant
    (Unit {0}) tt c.store.new.state c.store.ensures.ready c.store.ensures.back
    (stores_one {A = Unit {0}} c.args.scene.now c.loop-path.state c.store.new.state (Ok tt) c.ranks_at.result.now c.args.value.now c.args.access.now c.in_ok-store.ensures.ran))

pub returns-clause-ran : goal.returns-clause-ran
returns-clause-ran c =
    stores_all {A = Unit {0}} c.args.scene.now c.args.state.now c.loop-path.state (Ok tt) (contents_of c.args.rows.now) c.args.paths.now c.args.value.now c.args.access.now
    (done_end c.args.scene.now c.args.state.now (contents_of c.args.rows.now) c.args.paths.now (Store c.args.value.now c.args.access.now) c.loop-path.path-index c.loop-path.state c.loop-path-test.false c.loop-path.invariant)
