use Rattle.std.proofs.Common.{ap, sym, ◌∙◌}
use Rattle.dh_expressions.specs.Named.{number_at}
use Rattle.dh_unroll.proofs.viewing.parent_number.Goals as goal

pub returns-in-Some : goal.returns-in-Some
returns-in-Some c = c.narrow.ensures ∙ ap number_at (sym c.in-Some.is)

pub returns-in-None : goal.returns-in-None
returns-in-None c = ap number_at (sym c.in-None.is)
