use Rattle.std.proofs.Common.{ap, ◌∙◌, Err}
use Rattle.std.proofs.lemmas.Result.{err_from_is_err_and}
use Rattle.dh_code.proofs.StatesKept.{assigned_keeps, flat_worth, stopped_of}
use Rattle.dh_code.proofs.running.assign_any.Goals as goal

pub returns-in_err-evaluate-clause-ran : goal.returns-in_err-evaluate-clause-ran
returns-in_err-evaluate-clause-ran c = λ p factors path deep entity t at flat slots inside can e k.
    let u = err_from_is_err_and c.from_residual.result c.from_residual.ensures.1 in
    stopped_of c.args.scene.now c.requires.scene p factors c.args.ranks.now path t c.args.value.now e c.args.state.now c.evaluate.new.state at flat can k c.requires.ready
    (Unit {0}) (Unit {0}) c.in_err-evaluate.field-0.0 c.from_residual.result _ _ (u.1 ∙ ap (λ x. Err x) u.2) c.in_err-evaluate.ensures.spends

pub returns-clause-ran : goal.returns-clause-ran
returns-clause-ran c = λ p factors path deep entity t at flat slots inside can e k.
    assigned_keeps c.args.scene.now c.requires.scene p factors c.args.ranks.now path t c.args.value.now e c.args.state.now c.evaluate.new.state at flat can k c.requires.ready
    deep entity c.args.first c.args.depth c.slot.result c.whole.result c.value_in-word.result c.set_slot.new.state slots inside c.evaluate.ensures.kept (flat_worth c.args.scene.now c.requires.scene p factors c.args.ranks.now path t c.args.value.now e c.args.state.now c.evaluate.new.state at flat can k c.requires.ready c.value_in-word.result c.value_in-word.ensures.value c.in_ok-evaluate.ensures.seen) c.in_ok-evaluate.ensures.spends c.slot.ensures c.whole.ensures
    c.set_slot.ensures.banks c.set_slot.ensures.writes c.in_ok-set_slot.ensures.set
