use Rattle.std.proofs.Common.{◌*◌, ◌-◌, ◌^◌, min, ◌∙◌}
use Rattle.dh_ways.proofs.StandsCut.{cut_more, kept_same}
use Rattle.dh_ways.proofs.standing.copies_in.Goals as goal

pub returns-then-factor-le1 : goal.returns-then-factor-le1
returns-then-factor-le1 c = kept_same c.args.copies (min (c.args.copies * c.args.factor) (2 ^ 64 - 1)) c.args.factor c.if-factor-le1.true

pub returns-else-factor-le1 : goal.returns-else-factor-le1
returns-else-factor-le1 c = c.saturating_mul.ensures ∙ cut_more c.args.copies (min (c.args.copies * c.args.factor) (2 ^ 64 - 1)) c.args.factor c.if-factor-le1.false
