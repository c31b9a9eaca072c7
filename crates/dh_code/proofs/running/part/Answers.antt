use Rattle.std.proofs.Common.{ℕ, Bool, add-one, ap, sym, subst, ◌∙◌, List, [], Err}
use Rattle.std.specs.Prelude.{slice_index, Result, Vec, IfOk}
use Rattle.std.specs.Global.{Global}
use Rattle.std.proofs.lemmas.Result.{err_from_is_err_and}
use Rattle.dh_meaning.specs.Effects.{holds_at}
use Rattle.dh_code.specs.declared.evaluating.StepStop.{StepStop}
use Rattle.dh_code.specs.Rows.{contents_of}
use Rattle.dh_code.specs.Scenes.{begun_in}
use Rattle.dh_code.specs.States.{AreParts}
use Rattle.dh_code.proofs.ChoicesDone.{PartsSoFar, parts_either, parts_end, parts_first, parts_stop}
use Rattle.dh_code.proofs.Ranges.{get_whatever}
use Rattle.dh_code.proofs.running.part.Goals as goal

pub loop-path-init : goal.loop-path-init
loop-path-init c =
    subst (λ (l : List ℕ). PartsSoFar c.args.scene.now c.args.state.now (contents_of c.args.rows.now) c.args.paths.now c.args.test.now 0 c.args.state.now l c.new-other.result.items) (sym c.new-chosen.ensures.items)
    (subst (λ (l : List ℕ). PartsSoFar c.args.scene.now c.args.state.now (contents_of c.args.rows.now) c.args.paths.now c.args.test.now 0 c.args.state.now [] l) (sym c.new-other.ensures.items)
    (parts_first c.args.scene.now c.args.state.now (contents_of c.args.rows.now) c.args.paths.now c.args.test.now c.requires.ready))

pub decide-requires-clause-ready : goal.decide-requires-clause-ready
decide-requires-clause-ready c = c.loop-path.invariant.ready

pub returns-in_err-holds-clause-parts : goal.returns-in_err-holds-clause-parts
returns-in_err-holds-clause-parts c = λ p factors paths t are flat can.
    let u = err_from_is_err_and c.from_residual.result c.from_residual.ensures.1 in (
      parts_stop c.args.scene.now c.args.state.now (contents_of c.args.rows.now) c.args.paths.now c.args.test.now c.loop-path.path-index c.loop-path.state c.loop-path.chosen.items c.loop-path.other.items (slice_index c.args.paths.now c.loop-path.path-index) c.ranks_at.result.now c.loop-path-test.true (get_whatever c.args.paths.now c.loop-path.path-index 0 (slice_index c.args.paths.now c.loop-path.path-index) c.loop-path-test.true) c.ranks_at.ensures c.loop-path.invariant
          Bool (Vec ℕ Global × Vec ℕ Global) c.in_err-holds.field-0.0 c.decide.new.state c.decide.new.state c.from_residual.result (u.1 ∙ ap (λ x. Err x) u.2) (λ p factors path t at flat can. (c.in_err-holds.ensures.decides p factors path t at flat can).0) p factors paths t are flat can,
      λ e k. subst (λ (r : Result (Vec ℕ Global × Vec ℕ Global) StepStop). IfOk r (λ parts. AreParts (contents_of c.args.rows.now) factors paths (holds_at (begun_in c.args.scene.now) e.variables t) (parts.0.items, parts.1.items))) (sym u.1) tt,
    )

pub loop-path-preserved : goal.loop-path-preserved
loop-path-preserved c = rw (add-one c.loop-path.path-index)
    (parts_either c.args.scene.now c.args.state.now (contents_of c.args.rows.now) c.args.paths.now c.args.test.now c.loop-path.path-index c.loop-path.state c.loop-path.chosen.items c.loop-path.other.items (slice_index c.args.paths.now c.loop-path.path-index) c.ranks_at.result.now c.loop-path-test.true (get_whatever c.args.paths.now c.loop-path.path-index 0 (slice_index c.args.paths.now c.loop-path.path-index) c.loop-path-test.true) c.ranks_at.ensures c.loop-path.invariant
    c.in_ok-holds.holds c.decide.new.state c.decide.ensures.ready c.decide.ensures.back c.in_ok-holds.ensures.decides c.put_aside.new.chosen.items c.put_aside.new.other.items c.in_ok-put_aside.ensures)

pub returns-clause-parts : goal.returns-clause-parts
returns-clause-parts c = λ p factors paths t are flat can. (
  λ e k. (parts_end c.args.scene.now c.args.state.now (contents_of c.args.rows.now) c.args.paths.now c.args.test.now c.loop-path.path-index c.loop-path.state c.loop-path.chosen.items c.loop-path.other.items c.loop-path-test.false c.loop-path.invariant p factors paths t are flat can e k).0,
  λ e k. (parts_end c.args.scene.now c.args.state.now (contents_of c.args.rows.now) c.args.paths.now c.args.test.now c.loop-path.path-index c.loop-path.state c.loop-path.chosen.items c.loop-path.other.items c.loop-path-test.false c.loop-path.invariant p factors paths t are flat can e k).1,
)
