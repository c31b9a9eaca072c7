use Rattle.std.proofs.Common.{slice_index, ap, sym, ◌∙◌, subst}
use Rattle.dh_code.specs.declared.codes.Operand.{Operand}
use Rattle.dh_code.specs.Operated.{IsValidOperand, lowest_word, operand_word, view_seen}
use Rattle.dh_code.proofs.OperandMasks.{masked_is_word, masked_word}
use Rattle.dh_code.proofs.operands.value_at.Goals as goal

pub returns-in-Variable-clause-value : goal.returns-in-Variable-clause-value
returns-in-Variable-clause-value c =
    let h = subst (λ (o : Operand). IsValidOperand o) c.in-Variable.is c.requires in
    masked_word c.in-Variable.kind c.number_at.result c.in-Variable.mask h.0 h.1
    ∙ (ap (λ n. lowest_word c.in-Variable.kind n) (c.number_at.ensures ∙ ap (λ i. slice_index c.args.view.now.slots.now i) c.slot-at.ensures)
    ∙ ap (λ o. operand_word (view_seen c.args.view.now) o) (sym c.in-Variable.is))

pub returns-in-Variable-clause-word : goal.returns-in-Variable-clause-word
returns-in-Variable-clause-word c =
    let h = subst (λ (o : Operand). IsValidOperand o) c.in-Variable.is c.requires in
    masked_is_word c.in-Variable.kind c.number_at.result c.in-Variable.mask h.0 h.1

pub returns-in-Given-clause-value : goal.returns-in-Given-clause-value
returns-in-Given-clause-value c =
    let h = subst (λ (o : Operand). IsValidOperand o) c.in-Given.is c.requires in
    masked_word c.in-Given.kind c.number_at-in-Given.result c.in-Given.mask h.0 h.1
    ∙ (ap (λ n. lowest_word c.in-Given.kind n) c.number_at-in-Given.ensures
    ∙ ap (λ o. operand_word (view_seen c.args.view.now) o) (sym c.in-Given.is))

pub returns-in-Given-clause-word : goal.returns-in-Given-clause-word
returns-in-Given-clause-word c =
    let h = subst (λ (o : Operand). IsValidOperand o) c.in-Given.is c.requires in
    masked_is_word c.in-Given.kind c.number_at-in-Given.result c.in-Given.mask h.0 h.1
