use Rattle.std.proofs.Common.{ap, ◌∙◌, subst, Err}
use Rattle.std.proofs.lemmas.Result.{err_from_is_err_and}
use Rattle.dh_code.specs.declared.spots.Element.{Element}
use Rattle.dh_code.specs.States.{Puts}
use Rattle.dh_code.proofs.StoresKept.{store_ends, store_faults, store_stops}
use Rattle.dh_code.proofs.running.store.Goals as goal

pub returns-in_err-evaluate-clause-ran : goal.returns-in_err-evaluate-clause-ran
returns-in_err-evaluate-clause-ran c = λ p factors path reach target t at is suits inside can e k.
    let u = err_from_is_err_and c.from_residual.result c.from_residual.ensures.1 in
    store_stops c.args.scene.now c.requires.scene p factors c.args.ranks.now path reach target t c.args.value.now c.args.access.now e c.args.state.now c.evaluate.new.state at is suits inside can k c.requires.ready
    (Unit {0}) c.in_err-evaluate.field-0.0 c.from_residual.result _ (u.1 ∙ ap (λ x. Err x) u.2) c.in_err-evaluate.ensures.spends

pub returns-in_default-clause-ran : goal.returns-in_default-clause-ran
returns-in_default-clause-ran c = λ p factors path reach target t at is suits inside can e k.
    store_faults c.args.scene.now c.requires.scene p factors c.args.ranks.now path reach target t c.args.value.now c.args.access.now e c.args.state.now c.evaluate.new.state at is suits inside can k c.requires.ready
    c.value_in-word.result c.value_in-word.ensures.value c.in_ok-evaluate.ensures.seen c.evaluate.ensures.kept c.in_ok-evaluate.ensures.spends
    (Unit {0}) c.out_of_range.result _ c.out_of_range.ensures c.in_default.ensures

pub returns-clause-ran : goal.returns-clause-ran
returns-clause-ran c = λ p factors path reach target t at is suits inside can e k.
    store_ends c.args.scene.now c.requires.scene p factors c.args.ranks.now path reach target t c.args.value.now c.args.access.now e c.args.state.now c.evaluate.new.state at is suits inside can k c.requires.ready
    c.value_in-word.result c.value_in-word.ensures.value c.in_ok-evaluate.ensures.seen c.evaluate.ensures.kept c.in_ok-evaluate.ensures.spends
    c.in-Some.spread c.in-Some.ensures.0 c.put.result c.put.new.state c.put.ensures.kept
    (subst (λ (el : Element). Puts c.args.scene.now c.evaluate.new.state c.put.result c.put.new.state c.args.access.now.place el c.value_in-word.result) c.element_at.ensures c.put.ensures.puts)
