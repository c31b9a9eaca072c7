use Rattle.std.proofs.Common.{ap, sym, ◌∙◌}
use Rattle.dh_expressions.specs.Named.{number_at}
use Rattle.dh_expressions.proofs.naming.view_number.Goals as goal

pub returns-in-Some : goal.returns-in-Some
returns-in-Some c = c.narrow.ensures ∙ ap number_at (sym c.in-Some.is ∙ c.place_of.ensures.place)

pub returns-in-None : goal.returns-in-None
returns-in-None c = ap number_at (sym c.in-None.is ∙ c.place_of.ensures.place)
