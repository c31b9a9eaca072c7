use Rattle.std.proofs.Common.{◌<◌, ◌≤◌, ◌+◌, ◌*◌, ℕ, List, [], ◌∷◌, true, false, ap, sym, subst, ◌∙◌, length, Bool, Err, Ok, if◌then◌else◌, rules}
use Rattle.std.specs.Prelude.{Option, Vec, slice_index}
use Rattle.std.specs.Global.{Global}
use Rattle.std.proofs.lemmas.Bool.{ltb-true}
use Rattle.std.proofs.lemmas.Result.{err_from_is_err_and}
use Rattle.dh_code.specs.declared.codes.Action.{Action}
use Rattle.dh_code.specs.declared.codes.Action.TheVariants.{Choose, Keep}
use Rattle.dh_code.specs.declared.codes.Kept.{Kept}
use Rattle.dh_code.specs.Rows.{contents_of}
use Rattle.dh_meaning.specs.Effects.{holds_at, paths_where}
use Rattle.dh_code.specs.Scenes.{AreHeldValues, begun_in}
use Rattle.dh_code.specs.States.{AreRows, CanBeDone, DoesAll, DoesOne}
use Rattle.dh_code.proofs.ListsRun.{action_depth, action_lower, can_be_done, choose_both, choose_one, choose_stop, choose_stop_first, choose_stop_one, found_step, lost_step, next_low, none_is, only_path, run_end, run_lost, run_more, run_nothing, run_stop, run_turn}
use Rattle.dh_code.proofs.running.+run.Goals as goal

pub run-loop-list-init : goal.run-loop-list-init
run-loop-list-init t c = c.assign_on-list.ensures

pub run-run_one-requires : goal.run-run_one-requires
run-run_one-requires t c =
    let within = ltb-true c.in-Some.at (length c.as_slice.result.now) (sym c.in-Some-get.ensures.lookup.0) in
    let get = found_step c.args.scene.now.code.now.steps c.as_slice.result.now c.in-Some.at c.in-Some-get.step.now c.as_slice.ensures within c.in-Some-get.ensures.lookup.1 in (
      subst (λ (n : ℕ). 4 * action_depth c.in-Some-get.step.now.action + 2 < n) c.decreases (action_lower c.args.scene.now c.requires.scene c.in-Some.at c.in-Some-get.step.now c.args.list c.loop-list.list get c.in-Some.is c.loop-list.invariant.low),
      (c.requires.scene, (c.loop-list.invariant.ready, can_be_done c.args.scene.now c.requires.scene c.in-Some.at c.in-Some-get.step.now get)),
    )

pub run-returns-in_err-run_one-clause-ran : goal.run-returns-in_err-run_one-clause-ran
run-returns-in_err-run_one-clause-ran t c =
    let u = err_from_is_err_and c.from_residual.result c.from_residual.ensures.1 in
    let within = ltb-true c.in-Some.at (length c.as_slice.result.now) (sym c.in-Some-get.ensures.lookup.0) in
    let get = found_step c.args.scene.now.code.now.steps c.as_slice.result.now c.in-Some.at c.in-Some-get.step.now c.as_slice.ensures within c.in-Some-get.ensures.lookup.1 in
    run_stop c.args.scene.now c.args.state.now (contents_of c.args.rows.now) c.args.paths.now c.args.list c.loop-list.state c.loop-list.list c.loop-list.invariant
    c.in-Some.at c.in-Some-get.step.now c.in-Some.is get (Unit {0}) (Unit {0}) c.in_err-run_one.field-0.0 c.run_one.new.state c.run_one.new.state c.from_residual.result (u.1 ∙ ap (λ x. Err x) u.2) c.in_err-run_one.ensures.ran

pub run-loop-list-preserved : goal.run-loop-list-preserved
run-loop-list-preserved t c =
    let within = ltb-true c.in-Some.at (length c.as_slice.result.now) (sym c.in-Some-get.ensures.lookup.0) in
    let get = found_step c.args.scene.now.code.now.steps c.as_slice.result.now c.in-Some.at c.in-Some-get.step.now c.as_slice.ensures within c.in-Some-get.ensures.lookup.1 in
    run_more c.args.scene.now c.args.state.now c.run_one.new.state c.assign_on-list-in-Some.new.state (contents_of c.args.rows.now) c.args.paths.now c.args.list c.in-Some-get.step.now.next c.assign_on-list-in-Some.result
    (run_turn c.args.scene.now c.args.state.now (contents_of c.args.rows.now) c.args.paths.now c.args.list c.loop-list.state c.loop-list.list c.loop-list.invariant
    c.in-Some.at c.in-Some-get.step.now c.in-Some.is get (Unit {0}) tt c.run_one.new.state c.run_one.ensures.ready c.run_one.ensures.back (next_low c.args.scene.now c.requires.scene c.in-Some.at c.in-Some-get.step.now get) c.in_ok-run_one.ensures.ran)
    c.assign_on-list-in-Some.ensures

pub run-returns-in_default-get-clause-ran : goal.run-returns-in_default-get-clause-ran
run-returns-in_default-get-clause-ran t c =
    let past : length c.as_slice.result.now ≤ c.in-Some.at = search rules in
    run_lost c.args.scene.now c.args.state.now (contents_of c.args.rows.now) c.args.paths.now c.args.list c.loop-list.state c.loop-list.list c.loop-list.invariant (Unit {0}) c.in-Some.at (Ok tt) c.in-Some.is (lost_step c.args.scene.now.code.now.steps c.as_slice.result.now c.in-Some.at c.as_slice.ensures past)

pub run-returns-clause-ran : goal.run-returns-clause-ran
run-returns-clause-ran t c = run_end c.args.scene.now c.args.state.now (contents_of c.args.rows.now) c.args.paths.now c.args.list c.loop-list.state c.loop-list.list c.loop-list.invariant (Unit {0}) tt c.in_default.is

-- a view that keeps its offsets
pub run_one-keep_all-requires-clause-held : goal.run_one-keep_all-requires-clause-held
run_one-keep_all-requires-clause-held t c =
    let has = subst (λ (a : Action). CanBeDone c.args.scene.now a) c.in-Keep.is c.requires.done in
    subst (λ (ks : List Kept). AreHeldValues c.args.scene.now.code.now.operations c.in-Keep.from c.in-Keep.to ks) (sym c.as_slice.ensures) has

pub run_one-returns-in-Keep-clause-ran : goal.run_one-returns-in-Keep-clause-ran
run_one-returns-in-Keep-clause-ran t c =
    subst (λ (a : Action). DoesOne c.args.scene.now c.args.state.now c.keep_all.result c.keep_all.new.state (contents_of c.args.rows.now) c.args.paths.now a) (sym c.in-Keep.is)
    (subst (λ (ks : List Kept). DoesOne c.args.scene.now c.args.state.now c.keep_all.result c.keep_all.new.state (contents_of c.args.rows.now) c.args.paths.now (Keep c.in-Keep.from c.in-Keep.to ks c.in-Keep.depth)) c.as_slice.ensures c.keep_all.ensures.ran)

-- an `if` at several paths
pub choose-returns-in_err-first-clause-ran : goal.choose-returns-in_err-first-clause-ran
choose-returns-in_err-first-clause-ran t c =
    let u = err_from_is_err_and c.from_residual.result c.from_residual.ensures.1 in
    choose_stop c.args.scene.now c.args.state.now (contents_of c.args.rows.now) c.args.paths.now c.args.test.now c.args.chosen c.args.other
    (Vec ℕ Global × Vec ℕ Global) (Unit {0}) c.in_err-first.field-0.0 c.part.new.state c.part.new.state c.from_residual.result (u.1 ∙ ap (λ x. Err x) u.2) (λ p factors paths t are flat can. (c.in_err-first.ensures.parts p factors paths t are flat can).0)

pub choose-returns-in_err-run-clause-ran : goal.choose-returns-in_err-run-clause-ran
choose-returns-in_err-run-clause-ran t c =
    let u = err_from_is_err_and c.from_residual-in_err-run.result c.from_residual-in_err-run.ensures.1 in
    choose_stop_first c.args.scene.now c.args.state.now (contents_of c.args.rows.now) c.args.paths.now c.args.test.now c.args.chosen c.args.other c.as_slice.result.now c.in_ok-first.second.items c.part.new.state
    (λ p factors paths t are flat can e k. let d = c.in_ok-first.ensures.parts p factors paths t are flat can in
    (d.0 e k, (subst (λ (l : List ℕ). AreRows factors (contents_of c.args.rows.now) l (paths_where true (holds_at (begun_in c.args.scene.now) e.variables t) paths)) (sym c.as_slice.ensures.value) (d.1 e k).0, (d.1 e k).1)))
    (Unit {0}) (Unit {0}) c.in_err-run.field-0.0 c.run.new.state c.run.new.state c.from_residual-in_err-run.result (u.1 ∙ ap (λ x. Err x) u.2) c.in_err-run.ensures.ran

pub choose-returns-clause-ran : goal.choose-returns-clause-ran
choose-returns-clause-ran t c =
    choose_both c.args.scene.now c.args.state.now (contents_of c.args.rows.now) c.args.paths.now c.args.test.now c.args.chosen c.args.other c.as_slice.result.now c.as_slice-2.result.now c.part.new.state
    (λ p factors paths t are flat can e k. let d = c.in_ok-first.ensures.parts p factors paths t are flat can in
    (d.0 e k, (subst (λ (l : List ℕ). AreRows factors (contents_of c.args.rows.now) l (paths_where true (holds_at (begun_in c.args.scene.now) e.variables t) paths)) (sym c.as_slice.ensures.value) (d.1 e k).0, subst (λ (l : List ℕ). AreRows factors (contents_of c.args.rows.now) l (paths_where false (holds_at (begun_in c.args.scene.now) e.variables t) paths)) (sym c.as_slice-2.ensures.value) (d.1 e k).1)))
    {A = Unit {0}} tt c.run.new.state c.run-2.new.state c.run-2.result c.in_ok-run.ensures.ran c.run-2.ensures.ran

-- an `if` at one path
pub choose_at-returns-in_err-holds-clause-ran : goal.choose_at-returns-in_err-holds-clause-ran
choose_at-returns-in_err-holds-clause-ran t c =
    let u = err_from_is_err_and c.from_residual.result c.from_residual.ensures.1 in
    subst (λ (l : List ℕ). DoesOne c.args.scene.now c.args.state.now c.from_residual.result c.decide.new.state (contents_of c.args.rows.now) l (Choose c.args.test.now c.args.chosen c.args.other)) (sym (only_path c.args.paths.now c.requires.one))
    (choose_stop_one c.args.scene.now c.args.state.now (contents_of c.args.rows.now) (slice_index c.args.paths.now 0) c.args.test.now c.args.chosen c.args.other c.ranks_at.result.now c.ranks_at.ensures
    Bool (Unit {0}) c.in_err-holds.field-0.0 c.decide.new.state c.decide.new.state c.from_residual.result (u.1 ∙ ap (λ x. Err x) u.2) (λ p factors path t at flat can. (c.in_err-holds.ensures.decides p factors path t at flat can).0))

pub choose_at-returns-then-is_none-clause-ran : goal.choose_at-returns-then-is_none-clause-ran
choose_at-returns-then-is_none-clause-ran t c =
    let n = slice_index c.args.paths.now 0 in
    let none = sym c.either-arm.ensures ∙ none_is c.either-arm.result c.is_none.result c.is_none.ensures c.if-is_none.true in
    subst (λ (l : List ℕ). DoesOne {A = Unit {0}} c.args.scene.now c.args.state.now (Ok tt) c.decide.new.state (contents_of c.args.rows.now) l (Choose c.args.test.now c.args.chosen c.args.other)) (sym (only_path c.args.paths.now c.requires.one))
    (choose_one c.args.scene.now c.args.state.now (contents_of c.args.rows.now) n c.args.test.now c.args.chosen c.args.other c.ranks_at.result.now c.ranks_at.ensures {A = Unit {0}} c.in_ok-holds.holds c.decide.new.state c.decide.new.state (Ok tt) c.in_ok-holds.ensures.decides
    (subst (λ (o : Option ℕ). DoesAll {A = Unit {0}} c.args.scene.now c.decide.new.state (Ok tt) c.decide.new.state (contents_of c.args.rows.now) (n ∷ []) o) (sym none)
    (run_nothing {A = Unit {0}} c.args.scene.now c.decide.new.state (contents_of c.args.rows.now) (n ∷ []) tt c.decide.ensures.ready)))

pub choose_at-returns-clause-ran : goal.choose_at-returns-clause-ran
choose_at-returns-clause-ran t c =
    let n = slice_index c.args.paths.now 0 in
    subst (λ (l : List ℕ). DoesOne c.args.scene.now c.args.state.now c.run.result c.run.new.state (contents_of c.args.rows.now) l (Choose c.args.test.now c.args.chosen c.args.other)) (sym (only_path c.args.paths.now c.requires.one))
    (choose_one c.args.scene.now c.args.state.now (contents_of c.args.rows.now) n c.args.test.now c.args.chosen c.args.other c.ranks_at.result.now c.ranks_at.ensures c.in_ok-holds.holds c.decide.new.state c.run.new.state c.run.result c.in_ok-holds.ensures.decides
    (subst (λ (l : List ℕ). DoesAll c.args.scene.now c.decide.new.state c.run.result c.run.new.state (contents_of c.args.rows.now) l (if c.in_ok-holds.holds then c.args.chosen else c.args.other)) (only_path c.args.paths.now c.requires.one)
    (subst (λ (o : Option ℕ). DoesAll c.args.scene.now c.decide.new.state c.run.result c.run.new.state (contents_of c.args.rows.now) c.args.paths.now o) c.either-arm.ensures c.run.ensures.ran)))
