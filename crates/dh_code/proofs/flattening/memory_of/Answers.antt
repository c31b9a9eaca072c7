use Rattle.std.proofs.Common.{ap, sym, ◌∙◌}
use Rattle.std.specs.Prelude.{option_map}
use Rattle.dh_tree.specs.Memories.{number_in}
use Rattle.dh_meaning.specs.CoreOf.{entity_number}
use Rattle.dh_meaning.specs.Ways.{base_of}
use Rattle.dh_ways.specs.Seen.{way_seen}
use Rattle.dh_code.specs.Flattening.{known_by_names}
use Rattle.dh_code.proofs.flattening.memory_of.Goals as goal

pub returns-in-Some : goal.returns-in-Some
returns-in-Some c =
    let ms = (known_by_names c.args.names.now).memories in
    c.number_of.ensures ∙ (ap (λ o. entity_number (number_in ms o)) c.memory.ensures ∙ ap (λ w. entity_number (number_in ms (base_of w c.args.of.now.entity))) (sym (ap (option_map way_seen) c.in-Some.is) ∙ c.way_of.ensures))

pub returns-in-None : goal.returns-in-None
returns-in-None c =
    let ms = (known_by_names c.args.names.now).memories in
    c.number_of-in-None.ensures ∙ ap (λ w. entity_number (number_in ms (base_of w c.args.of.now.entity))) (sym (ap (option_map way_seen) c.in-None.is) ∙ c.way_of.ensures)
