use Rattle.std.proofs.Common.{arith, ap, ◌∙◌}
use Rattle.dh_value.specs.Words.{with_bits}
use Rattle.dh_value.proofs.Values.{shl_bits, shl_nothing}
use Rattle.dh_value.proofs.operations.shifted_left.Goals as goal

pub returns-then-amount-from : goal.returns-then-amount-from
returns-then-amount-from c =
    let a = c.args.a in
    c.truncated.ensures ∙ ap (with_bits a.kind) (shl_bits a.kind a.bits c.args.amount c.requires.sized)

pub returns-else-amount-from : goal.returns-else-amount-from
returns-else-amount-from c =
    let a = c.args.a in
    c.of_kind.ensures ∙ ap (with_bits a.kind) (shl_nothing a.kind a.bits c.args.amount (omega (arith, c.width.ensures)))
