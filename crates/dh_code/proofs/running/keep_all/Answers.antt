use Rattle.std.proofs.Common.{ap, ◌∙◌, Err, Ok, add-one}
use Rattle.std.specs.Prelude.{slice_index}
use Rattle.std.proofs.lemmas.Result.{err_from_is_err_and}
use Rattle.dh_code.specs.declared.codes.Action.TheVariants.{Keep}
use Rattle.dh_code.specs.Rows.{contents_of}
use Rattle.dh_code.proofs.PathCommands.{keeps_one, keeps_all, done_end, done_first, done_stop, done_turn}
use Rattle.dh_code.proofs.Ranges.{get_whatever}
use Rattle.dh_code.proofs.running.keep_all.Goals as goal

pub loop-path-init : goal.loop-path-init
loop-path-init c = done_first c.args.scene.now c.args.state.now (contents_of c.args.rows.now) c.args.paths.now (Keep c.args.range.0 c.args.range.1 c.args.values.now c.args.depth) c.requires.ready

pub keep-requires-clause-ready : goal.keep-requires-clause-ready
keep-requires-clause-ready c = c.loop-path.invariant.ready

pub returns-in_err-keep-clause-ran : goal.returns-in_err-keep-clause-ran
returns-in_err-keep-clause-ran c =
    let u = err_from_is_err_and c.from_residual.result c.from_residual.ensures.1 in
    keeps_all c.args.scene.now c.args.state.now _ c.from_residual.result (contents_of c.args.rows.now) c.args.paths.now c.args.range.0 c.args.range.1 c.args.values.now c.args.depth
    (done_stop c.args.scene.now c.args.state.now (contents_of c.args.rows.now) c.args.paths.now (Keep c.args.range.0 c.args.range.1 c.args.values.now c.args.depth) c.loop-path.path-index c.loop-path.state (slice_index c.args.paths.now c.loop-path.path-index) c.ranks_at.result.now c.loop-path-test.true (get_whatever c.args.paths.now c.loop-path.path-index 0 (slice_index c.args.paths.now c.loop-path.path-index) c.loop-path-test.true) c.ranks_at.ensures c.loop-path.invariant
    (Unit {0}) (Unit {0}) c.in_err-keep.field-0.0 c.keep.new.state _ c.from_residual.result (u.1 ∙ ap (λ x. Err x) u.2)
    (keeps_one {A = Unit {0}} c.args.scene.now c.loop-path.state c.keep.new.state (Err c.in_err-keep.field-0.0) c.ranks_at.result.now c.args.range.0 c.args.range.1 c.args.values.now c.args.depth c.in_err-keep.ensures.ran))

pub loop-path-preserved : goal.loop-path-preserved
loop-path-preserved c = rw (add-one c.loop-path.path-index)
    (done_turn c.args.scene.now c.args.state.now (contents_of c.args.rows.now) c.args.paths.now (Keep c.args.range.0 c.args.range.1 c.args.values.now c.args.depth) c.loop-path.path-index c.loop-path.state (slice_index c.args.paths.now c.loop-path.path-index) c.ranks_at.result.now c.loop-path-test.true (get_whatever c.args.paths.now c.loop-path.path-index 0 (slice_index c.args.paths.now c.loop-path.path-index) c.loop-path-test.true) c.ranks_at.ensures c.loop-path.invariant
    (Unit {0}) tt c.keep.new.state c.keep.ensures.ready c.keep.ensures.back
    (keeps_one {A = Unit {0}} c.args.scene.now c.loop-path.state c.keep.new.state (Ok tt) c.ranks_at.result.now c.args.range.0 c.args.range.1 c.args.values.now c.args.depth c.in_ok-keep.ensures.ran))

pub returns-clause-ran : goal.returns-clause-ran
returns-clause-ran c =
    keeps_all {A = Unit {0}} c.args.scene.now c.args.state.now c.loop-path.state (Ok tt) (contents_of c.args.rows.now) c.args.paths.now c.args.range.0 c.args.range.1 c.args.values.now c.args.depth
    (done_end c.args.scene.now c.args.state.now (contents_of c.args.rows.now) c.args.paths.now (Keep c.args.range.0 c.args.range.1 c.args.values.now c.args.depth) c.loop-path.path-index c.loop-path.state c.loop-path-test.false c.loop-path.invariant)
