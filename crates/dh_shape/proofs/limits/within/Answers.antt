use Rattle.std.proofs.Common.{sym, ◌∙◌}
use Rattle.dh_tree.specs.Seen.{program_seen}
use Rattle.dh_shape.proofs.Counts.{excess_told, none_told}
use Rattle.dh_shape.proofs.limits.within.Goals as goal

pub returns-in-Some : goal.returns-in-Some
returns-in-Some c =
    excess_told _ (program_seen c.args.typed.now) c.program_copies-copies.result c.as_slice.result.now c.in-Some.excess c.program_copies-copies.ensures (c.as_slice.ensures ∙ c.memories.ensures)
    (sym c.table_excess.ensures ∙ c.in-Some.is)

pub returns-in-None : goal.returns-in-None
returns-in-None c =
    none_told (program_seen c.args.typed.now) c.program_copies-copies.result c.as_slice.result.now _ c.program_copies-copies.ensures (c.as_slice.ensures ∙ c.memories.ensures) (sym c.table_excess.ensures ∙ c.in-None.is)
