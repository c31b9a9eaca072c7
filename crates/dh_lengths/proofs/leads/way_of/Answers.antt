use Rattle.std.proofs.Common.{map, ap, sym, ◌∙◌}
use Rattle.dh_tree.specs.Memories.{memories_of, memory_in}
use Rattle.dh_tree.specs.Seen.{program_seen}
use Rattle.dh_meaning.specs.Ways.{way_in}
use Rattle.dh_ways.specs.Seen.{led_seen}
use Rattle.dh_ways.proofs.NamesLed.{unless_memory, unless_none}
use Rattle.dh_lengths.proofs.leads.way_of.Goals as goal

pub returns-then-is_memory : goal.returns-then-is_memory
returns-then-is_memory c =
    let ms = memories_of (program_seen c.args.leads.now.program.now) in
    unless_memory (memory_in ms c.args.entity) (way_in (map led_seen c.args.leads.now.ways.now) c.args.entity) (sym c.is_memory.ensures ∙ c.if-is_memory.true)

pub returns-else-is_memory : goal.returns-else-is_memory
returns-else-is_memory c =
    let ms = memories_of (program_seen c.args.leads.now.program.now) in
    c.get.ensures ∙ unless_none (memory_in ms c.args.entity) (way_in (map led_seen c.args.leads.now.ways.now) c.args.entity) (sym c.is_memory.ensures ∙ c.if-is_memory.false)
