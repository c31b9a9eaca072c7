use Rattle.std.proofs.Common.{◌++◌, false, length, ap, sym, ◌∙◌, subst, Err}
use Rattle.std.proofs.lemmas.Result.{err_from_is_err_and}
use Rattle.dh_value.specs.declared.words.Word.{Word}
use Rattle.dh_value.specs.Words.{IsWord}
use Rattle.dh_value.proofs.WordLaws.{truth_is_word}
use Rattle.dh_code.specs.declared.codes.Operand.TheVariants.{Constant}
use Rattle.dh_code.specs.States.{bits_kept, sight_in}
use Rattle.dh_code.proofs.KeptValues.{bits_many, values_keep, values_stop}
use Rattle.dh_code.proofs.running.keep.Goals as goal

pub evaluate-requires-clause-held : goal.evaluate-requires-clause-held
evaluate-requires-clause-held c = record { within = c.requires.held.within; there = c.requires.held.there; operand = subst (λ (w : Word). IsWord w) (sym c.truth-word.ensures) (truth_is_word false) }

pub returns-in_err-evaluate-clause-ran : goal.returns-in_err-evaluate-clause-ran
returns-in_err-evaluate-clause-ran c = λ p factors path deep entity ts at are slots inside can e k.
    let u = err_from_is_err_and c.from_residual.result c.from_residual.ensures.1 in
    values_stop c.args.scene.now c.requires.scene p factors c.args.ranks.now path ts c.args.range.0 c.args.range.1 c.args.values.now (Constant c.truth-word.result) e c.args.state.now c.evaluate.new.state at are can k c.requires.ready
    (Unit {0}) (Unit {0}) c.in_err-evaluate.field-0.0 c.from_residual.result _ _ (u.1 ∙ ap (λ x. Err x) u.2) c.in_err-evaluate.ensures.spends

pub set_all-requires : goal.set_all-requires
set_all-requires c =
    let w = sight_in c.evaluate.new.state c.args.ranks.now in
    record { long = ap (λ l. length l) (c.as_slice.ensures.value ∙ (c.in_ok-find.ensures ∙ ap (λ l. l ++ bits_kept w c.args.values.now) c.clear.ensures.items)) ∙ bits_many w c.args.values.now }

pub returns-clause-ran : goal.returns-clause-ran
returns-clause-ran c = λ p factors path deep entity ts at are slots inside can e k.
    let w = sight_in c.evaluate.new.state c.args.ranks.now in
    values_keep c.args.scene.now c.requires.scene p factors c.args.ranks.now path ts c.args.range.0 c.args.range.1 c.args.values.now (Constant c.truth-word.result) e c.args.state.now c.evaluate.new.state at are can k c.requires.ready
    deep entity c.args.depth c.as_slice.result.now c.set_all.new.state slots inside c.evaluate.ensures.kept c.in_ok-evaluate.ensures.seen c.in_ok-evaluate.ensures.spends
    (c.as_slice.ensures.value ∙ (c.in_ok-find.ensures ∙ ap (λ l. l ++ bits_kept w c.args.values.now) c.clear.ensures.items))
    c.set_all.ensures.banks c.set_all.ensures.writes c.in_ok-set_all.ensures.set
