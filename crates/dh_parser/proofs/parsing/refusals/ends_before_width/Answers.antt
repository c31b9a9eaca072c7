use Rattle.std.proofs.Common.{◌∙◌}
use Rattle.dh_parser.proofs.WidthPlaces.{none_before, last_two}
use Rattle.dh_parser.proofs.parsing.refusals.ends_before_width.Goals as goal

pub returns-then-length-lt2 : goal.returns-then-length-lt2
returns-then-length-lt2 c = none_before _ c.if-length-lt2.true

pub returns : goal.returns
returns c = c.is_width_start.ensures ∙ last_two _ _ _ c.if-length-lt2.false
