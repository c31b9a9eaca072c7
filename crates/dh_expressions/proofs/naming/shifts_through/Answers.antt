use Rattle.std.proofs.Common.{ap, sym, ◌∙◌}
use Rattle.std.specs.Prelude.{option_map}
use Rattle.dh_ways.specs.Seen.{way_seen}
use Rattle.dh_expressions.specs.Named.{shifts_on}
use Rattle.dh_expressions.proofs.naming.shifts_through.Goals as goal

pub returns-in-Some : goal.returns-in-Some
returns-in-Some c = c.shifts.ensures ∙ ap shifts_on (sym (ap (option_map way_seen) c.in-Some.is) ∙ c.way_through.ensures)

pub returns-in-None : goal.returns-in-None
returns-in-None c = ap shifts_on (sym (ap (option_map way_seen) c.in-None.is) ∙ c.way_through.ensures)
