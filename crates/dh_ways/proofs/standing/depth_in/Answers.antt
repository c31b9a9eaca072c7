use Rattle.std.proofs.Common.{◌+◌, ◌-◌, ◌^◌, min, ◌∙◌}
use Rattle.dh_ways.proofs.StandsCut.{cut_more, kept_same}
use Rattle.dh_ways.proofs.standing.depth_in.Goals as goal

pub returns-then-factor-le1 : goal.returns-then-factor-le1
returns-then-factor-le1 c = kept_same c.args.depth (min (c.args.depth + 1) (2 ^ 32 - 1)) c.args.factor c.if-factor-le1.true

pub returns-else-factor-le1 : goal.returns-else-factor-le1
returns-else-factor-le1 c = c.saturating_add.ensures ∙ cut_more c.args.depth (min (c.args.depth + 1) (2 ^ 32 - 1)) c.args.factor c.if-factor-le1.false
