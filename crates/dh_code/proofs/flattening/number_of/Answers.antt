use Rattle.std.proofs.Common.{ap, sym, ◌∙◌}
use Rattle.dh_tree.specs.Memories.{number_in}
use Rattle.dh_meaning.specs.CoreOf.{entity_number}
use Rattle.dh_code.specs.Flattening.{known_by_names}
use Rattle.dh_code.proofs.Entries.{none_stands}
use Rattle.dh_code.proofs.flattening.number_of.Goals as goal

pub returns-in_default : goal.returns-in_default
returns-in_default c =
    let ms = (known_by_names c.args.names.now).memories in
    sym (ap (λ o. entity_number (number_in ms o)) c.in_default.is ∙ ap entity_number (none_stands ms))
