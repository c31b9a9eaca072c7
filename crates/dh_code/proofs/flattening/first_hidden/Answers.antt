use Rattle.std.proofs.Common.{ap, sym, ◌∙◌}
use Rattle.std.specs.Prelude.{option_map}
use Rattle.dh_meaning.specs.CoreOf.{way_of}
use Rattle.dh_ways.specs.Seen.{way_seen}
use Rattle.dh_code.specs.Flattening.{known_by_names}
use Rattle.dh_code.proofs.ViewsFlattened.{hidden_found, hidden_nowhere}
use Rattle.dh_code.proofs.flattening.first_hidden.Goals as goal

pub returns-in-Some : goal.returns-in-Some
returns-in-Some c =
    hidden_found (way_of (known_by_names c.args.names.now) c.args.of.now) c.in-Some.way c.first_hidden.result (sym (ap (option_map way_seen) c.in-Some.is) ∙ c.way_of.ensures)
    c.first_hidden.ensures

pub returns-in-None : goal.returns-in-None
returns-in-None c = hidden_nowhere (way_of (known_by_names c.args.names.now) c.args.of.now) (sym (ap (option_map way_seen) c.in-None.is) ∙ c.way_of.ensures)
