use Rattle.std.proofs.Common.{◌≡◌, ap, sym, subst, ◌∙◌, Err, Bool}
use Rattle.std.specs.Prelude.{Result, IfOk}
use Rattle.std.proofs.lemmas.Result.{err_from_is_err_and}
use Rattle.dh_meaning.specs.Effects.{holds_at}
use Rattle.dh_code.specs.declared.evaluating.StepStop.{StepStop}
use Rattle.dh_code.specs.Scenes.{begun_in}
use Rattle.dh_code.proofs.StatesKept.{flat_worth, holds_as, stopped_of, tested_keeps}
use Rattle.dh_code.proofs.running.decide_any.Goals as goal

pub returns-in_err-evaluate-clause-decides : goal.returns-in_err-evaluate-clause-decides
returns-in_err-evaluate-clause-decides c = λ p factors path t at flat can.
    let u = err_from_is_err_and c.from_residual.result c.from_residual.ensures.1 in (
      λ e k. stopped_of c.args.scene.now c.requires.scene p factors c.args.ranks.now path t c.args.test.now e c.args.state.now c.evaluate.new.state at flat can k c.requires.ready
          (Unit {0}) Bool c.in_err-evaluate.field-0.0 c.from_residual.result _ _ (u.1 ∙ ap (λ x. Err x) u.2) c.in_err-evaluate.ensures.spends,
      λ e k. subst (λ (r : Result Bool StepStop). IfOk r (λ holds. holds_at (begun_in c.args.scene.now) e.variables t path ≡ holds)) (sym u.1) tt,
    )

pub returns-clause-decides : goal.returns-clause-decides
returns-clause-decides c = λ p factors path t at flat can. (
  λ e k. tested_keeps c.args.scene.now c.requires.scene p factors c.args.ranks.now path t c.args.test.now e c.args.state.now c.evaluate.new.state at flat can k c.requires.ready c.value_in-word.result c.evaluate.ensures.kept c.in_ok-evaluate.ensures.spends,
  λ e k. holds_as c.args.scene.now c.requires.scene p factors c.args.ranks.now path t c.args.test.now e c.args.state.now c.evaluate.new.state at flat can k c.requires.ready c.value_in-word.result (flat_worth c.args.scene.now c.requires.scene p factors c.args.ranks.now path t c.args.test.now e c.args.state.now c.evaluate.new.state at flat can k c.requires.ready c.value_in-word.result c.value_in-word.ensures.value c.in_ok-evaluate.ensures.seen),
)
