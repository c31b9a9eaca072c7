use Rattle.std.proofs.Common.{ap, sym, ◌∙◌, subst}
use Rattle.dh_code.specs.declared.codes.Operand.{Operand}
use Rattle.dh_code.specs.Operated.{IsValidOperand, kind_of_operand, mask_of}
use Rattle.dh_code.proofs.operands.mask_at.Goals as goal

pub returns-in-Variable : goal.returns-in-Variable
returns-in-Variable c = let h = subst (λ (o : Operand). IsValidOperand o) c.in-Variable.is c.requires in h.1 ∙ ap (λ o. mask_of (kind_of_operand o)) (sym c.in-Variable.is)

pub returns-in-Given : goal.returns-in-Given
returns-in-Given c = let h = subst (λ (o : Operand). IsValidOperand o) c.in-Given.is c.requires in h.1 ∙ ap (λ o. mask_of (kind_of_operand o)) (sym c.in-Given.is)
