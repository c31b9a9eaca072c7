use Rattle.std.proofs.Common.{bit_and, sym, subst}
use Rattle.std.specs.Prelude.{Some}
use Rattle.dh_value.specs.Words.{with_bits}
use Rattle.dh_code.specs.declared.codes.Operand.{Operand}
use Rattle.dh_code.specs.Operated.{IsValidOperand}
use Rattle.dh_code.specs.Worths.{IsGivenBy}
use Rattle.dh_code.proofs.PlainValues.{given_is}
use Rattle.dh_code.proofs.worths.given_by.Goals as goal

pub returns-then-number-at : goal.returns-then-number-at
returns-then-number-at c =
    let h = subst (λ (o : Operand). IsValidOperand o) c.in-Given.is c.requires in
    subst (λ (o : Operand). IsGivenBy o c.args.at c.args.given (Some (with_bits c.in-Given.kind (bit_and c.args.given c.in-Given.mask)))) (sym c.in-Given.is)
    (given_is c.in-Given.kind c.in-Given.number c.args.at c.in-Given.mask c.args.given c.if-number-at.true h.0 h.1)
