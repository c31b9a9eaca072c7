use Rattle.std.proofs.Common.{sym, ◌∙◌}
use Rattle.dh_tree.specs.Memories.{memory_in}
use Rattle.dh_meaning.specs.Ways.{way_in}
use Rattle.dh_code.specs.Flattening.{known_by_names}
use Rattle.dh_ways.proofs.NamesLed.{unless_memory, unless_none}
use Rattle.dh_code.proofs.flattening.way_of.Goals as goal

pub returns-then-is_memory : goal.returns-then-is_memory
returns-then-is_memory c =
    let known = known_by_names c.args.names.now in
    unless_memory (memory_in known.memories c.args.of.now.entity) (way_in known.ways c.args.of.now.entity) (sym c.is_memory.ensures ∙ c.if-is_memory.true)

pub returns-else-is_memory : goal.returns-else-is_memory
returns-else-is_memory c =
    let known = known_by_names c.args.names.now in
    c.get.ensures ∙ unless_none (memory_in known.memories c.args.of.now.entity) (way_in known.ways c.args.of.now.entity) (sym c.is_memory.ensures ∙ c.if-is_memory.false)
