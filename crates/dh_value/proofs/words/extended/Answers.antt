use Rattle.std.proofs.Common.{sym, ap, ◌∙◌, ◌-◌, ◌^◌}
use Rattle.dh_value.proofs.Values.{extended_bits}
use Rattle.dh_value.proofs.words.extended.Goals as goal

pub returns-then-is_negative : goal.returns-then-is_negative
returns-then-is_negative c =
    let a = c.args.a in
    extended_bits a.kind a.bits c.mask.result c.requires.sized c.requires.fits (sym c.is_negative.ensures ∙ c.if-is_negative.true) (c.mask.ensures ∙ ap (λ w. 2 ^ w - 1) c.width.ensures)
