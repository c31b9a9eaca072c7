use Rattle.std.proofs.Common.{ap, sym, ◌∙◌, subst}
use Rattle.dh_value.specs.declared.operators.Op.{Op}
use Rattle.dh_value.specs.Operations.{Suits, binary_of}
use Rattle.dh_code.proofs.MaskedSums.{masked_difference, masked_product, masked_sum}
use Rattle.dh_code.proofs.evaluating.operated.Goals as goal

pub returns-in-Add : goal.returns-in-Add
returns-in-Add c =
    let alike = subst (λ (o : Op). Suits o c.args.left.kind c.args.right.kind) c.in-Add.is c.requires.suits in
    masked_sum c.args.left c.args.right c.requires.left c.requires.right alike c.args.mask c.requires.mask ∙ ap (λ o. (binary_of o c.args.left c.args.right).bits) (sym c.in-Add.is)

pub returns-in-Sub : goal.returns-in-Sub
returns-in-Sub c =
    let alike = subst (λ (o : Op). Suits o c.args.left.kind c.args.right.kind) c.in-Sub.is c.requires.suits in
    masked_difference c.args.left c.args.right c.requires.left c.requires.right alike c.args.mask c.requires.mask ∙ ap (λ o. (binary_of o c.args.left c.args.right).bits) (sym c.in-Sub.is)

pub returns-in-Mul : goal.returns-in-Mul
returns-in-Mul c =
    let alike = subst (λ (o : Op). Suits o c.args.left.kind c.args.right.kind) c.in-Mul.is c.requires.suits in
    masked_product c.args.left c.args.right c.requires.left c.requires.right alike c.args.mask c.requires.mask ∙ ap (λ o. (binary_of o c.args.left c.args.right).bits) (sym c.in-Mul.is)
