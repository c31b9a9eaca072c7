use Rattle.std.proofs.Common.{Some, ap, sym, ◌∙◌}
use Rattle.std.specs.Option.{is_some}
use Rattle.dh_tree.specs.Memories.{memories_of, memory_in}
use Rattle.dh_tree.specs.Seen.{program_seen}
use Rattle.dh_ways.proofs.NamesLed.{nothing_stands, numbered_same}
use Rattle.dh_lengths.proofs.leads.is_memory.Goals as goal

pub returns-in_default : goal.returns-in_default
returns-in_default c =
    let ms = memories_of (program_seen c.args.program.now) in
    sym (ap (λ o. is_some (memory_in ms o)) c.in_default.is ∙ ap is_some (nothing_stands ms))

pub returns : goal.returns
returns c =
    let ms = memories_of (program_seen c.args.program.now) in
    c.is_some.ensures ∙ (ap is_some c.memory_number.ensures ∙ (numbered_same ms (Some c.in-Some.one) ∙ ap (λ o. is_some (memory_in ms o)) (sym c.in-Some.is)))
