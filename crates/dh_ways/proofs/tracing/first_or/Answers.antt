use Rattle.std.proofs.Common.{sym, ◌∙◌}
use Rattle.dh_ways.proofs.LinksTold.{in_front, none_first}
use Rattle.dh_ways.proofs.tracing.first_or.Goals as goal

pub returns-in-Some : goal.returns-in-Some
returns-in-Some c others e = sym (in_front c.args.hidden.now others 0 c.in-Some.one (sym c.first_of.ensures ∙ c.in-Some.is))

pub returns-in-None : goal.returns-in-None
returns-in-None c others e = e ∙ none_first c.args.hidden.now others (sym c.first_of.ensures ∙ c.in-None.is)
