use Rattle.std.proofs.Common.{Some, ap, sym, ◌∙◌}
use Rattle.std.specs.Option.{is_some}
use Rattle.dh_tree.specs.Memories.{memory_in}
use Rattle.dh_code.specs.Flattening.{known_by_names}
use Rattle.dh_ways.proofs.NamesLed.{nothing_stands, numbered_same}
use Rattle.dh_code.proofs.flattening.is_memory.Goals as goal

pub returns-in_default : goal.returns-in_default
returns-in_default c =
    let ms = (known_by_names c.args.names.now).memories in
    sym (ap (λ o. is_some (memory_in ms o)) c.in_default.is ∙ ap is_some (nothing_stands ms))

pub returns : goal.returns
returns c =
    let ms = (known_by_names c.args.names.now).memories in
    c.is_some.ensures ∙ (ap is_some c.memory_number.ensures ∙ (numbered_same ms (Some c.in-Some.entity) ∙ ap (λ o. is_some (memory_in ms o)) (sym c.in-Some.is)))
