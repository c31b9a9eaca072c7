use Rattle.std.proofs.Common.{◌∙◌, refl, slice_get}
use Rattle.dh_tree.specs.Memories.{memories_of}
use Rattle.dh_tree.specs.Seen.{program_seen}
use Rattle.dh_viewing.proofs.ViewsFound.{no_memory, no_number, told_by_entry}
use Rattle.dh_viewing.proofs.collecting.shape_of_memory.Goals as goal

pub returns-in_default : goal.returns-in_default
returns-in_default c = no_memory (memories_of (program_seen c.args.typed.now)) c.args.entity c.in_default.is

pub returns-in_default-memory_number : goal.returns-in_default-memory_number
returns-in_default-memory_number c = no_number (memories_of (program_seen c.args.typed.now)) c.args.entity c.in-Some.entity c.memory_number.result c.in-Some.is c.memory_number.ensures c.in_default-memory_number.is

pub returns : goal.returns
returns c =
    c.shape_at.ensures
    ∙ told_by_entry (memories_of (program_seen c.args.typed.now)) c.args.entity c.in-Some.entity c.memory_number.result c.in-Some-memory_number.number c.as_slice.result.now (slice_get c.as_slice.result.now c.in-Some-memory_number.number)
    c.in-Some.is c.memory_number.ensures c.in-Some-memory_number.is (c.as_slice.ensures ∙ c.memories.ensures) refl
