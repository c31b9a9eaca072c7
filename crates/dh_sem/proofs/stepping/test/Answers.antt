use Rattle.std.proofs.Common.{◌≡◌, ◌<◌, ◌≤◌, ℕ, List, length, get_or, Ok, Err, ap, ◌∙◌, subst, add-one}
use Rattle.std.specs.Prelude.{Vec}
use Rattle.std.specs.Global.{Global}
use Rattle.std.proofs.lemmas.Result.{err_from_is_err_and}
use Rattle.dh_code.specs.States.{Decides}
use Rattle.dh_sem.proofs.BlocksDone.{tests_end, tests_first, tests_stop, tests_turn}
use Rattle.dh_sem.proofs.stepping.test.Goals as goal

pub loop-i-init : goal.loop-i-init
loop-i-init c = tests_first c.args.scene.now c.args.state.now c.args.lanes.now c.args.test.now c.requires.ready

pub decide-requires-clause-ready : goal.decide-requires-clause-ready
decide-requires-clause-ready c = c.loop-i.invariant.ready

pub returns-in_err-holds-clause-tests : goal.returns-in_err-holds-clause-tests
returns-in_err-holds-clause-tests c =
    let u = err_from_is_err_and c.from_residual.result c.from_residual.ensures.1 in
    tests_stop c.args.scene.now c.args.state.now c.args.lanes.now c.args.test.now c.loop-i.i c.loop-i.state c.loop-i.first c.loop-i.invariant c.index-rows-i.result (subst (λ (l : List (Vec ℕ Global)). c.loop-i.i < length l) c.as_slice-rows.ensures.value c.loop-i-test.true) (subst (λ (l : List (Vec ℕ Global)). c.index-rows-i.result ≡ get_or l c.loop-i.i c.index-rows-i.result) c.as_slice-rows.ensures.value c.index-rows-i.is)
    c.in_err-holds.field-0.0 c.decide.new.state c.from_residual.result (u.1 ∙ ap (λ x. Err x) u.2)
    (subst (λ (l : List ℕ). Decides c.args.scene.now c.loop-i.state (Err c.in_err-holds.field-0.0) c.decide.new.state l c.args.test.now) c.as_slice.ensures.value c.in_err-holds.ensures.decides)

pub loop-i-preserved : goal.loop-i-preserved
loop-i-preserved c = rw (add-one c.loop-i.i)
    (tests_turn c.args.scene.now c.args.state.now c.args.lanes.now c.args.test.now c.loop-i.i c.loop-i.state c.loop-i.first c.loop-i.invariant c.index-rows-i.result (subst (λ (l : List (Vec ℕ Global)). c.loop-i.i < length l) c.as_slice-rows.ensures.value c.loop-i-test.true) (subst (λ (l : List (Vec ℕ Global)). c.index-rows-i.result ≡ get_or l c.loop-i.i c.index-rows-i.result) c.as_slice-rows.ensures.value c.index-rows-i.is)
    c.in_ok-holds.holds c.first_of-first.result c.decide.new.state c.decide.ensures.ready c.decide.ensures.back
    (subst (λ (l : List ℕ). Decides c.args.scene.now c.loop-i.state (Ok c.in_ok-holds.holds) c.decide.new.state l c.args.test.now) c.as_slice.ensures.value c.in_ok-holds.ensures.decides) c.first_of-first.ensures)

pub returns-clause-tests : goal.returns-clause-tests
returns-clause-tests c = tests_end c.args.scene.now c.args.state.now c.args.lanes.now c.args.test.now c.loop-i.i c.loop-i.state c.loop-i.first c.loop-i.invariant (subst (λ (l : List (Vec ℕ Global)). length l ≤ c.loop-i.i) c.as_slice-rows.ensures.value c.loop-i-test.false)
