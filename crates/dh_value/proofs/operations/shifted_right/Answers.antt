use Rattle.std.proofs.Common.{sym, ap, ◌∙◌, ◌-◌, ◌^◌}
use Rattle.dh_value.specs.Words.{with_bits}
use Rattle.dh_value.proofs.Values.{shr_negative, shr_other}
use Rattle.dh_value.proofs.operations.shifted_right.Goals as goal

pub returns-then-is_negative : goal.returns-then-is_negative
returns-then-is_negative c =
    let a = c.args.a in
    let last = c.mask-last.ensures ∙ ap (λ w. 2 ^ w - 1) c.width.ensures in
    let negative = sym c.is_negative.ensures ∙ c.if-is_negative.true in
    c.of_kind.ensures ∙ ap (with_bits a.kind) (ap (λ q. c.mask-last.result - q) c.quotient.ensures ∙ shr_negative a.kind a.bits c.args.amount c.requires.fits c.mask-last.result negative last)

pub returns-else-is_negative : goal.returns-else-is_negative
returns-else-is_negative c =
    let a = c.args.a in
    let other = sym c.is_negative.ensures ∙ c.if-is_negative.false in
    c.of_kind-else-is_negative.ensures ∙ ap (with_bits a.kind) (c.quotient-else-is_negative.ensures ∙ shr_other a.kind a.bits c.args.amount c.requires.fits other)
