use Rattle.std.proofs.Common.{ℕ, ◌+◌, ap, ◌∙◌}
use Rattle.dh_tree.specs.Elements.{rows_of}
use Rattle.dh_net.specs.RowWidths.{row_width_of}
use Rattle.dh_net.proofs.RowWidths.{row_width_is}
use Rattle.dh_build.proofs.MemoriesListed.{listing_goes, listing_ends, with_bits}
use Rattle.dh_build.proofs.memories.list_memories.Goals as goal

pub loop-entry-preserved : goal.loop-entry-preserved
loop-entry-preserved c =
    listing_goes c.loop-entry.memories c.loop-entry.next c.args.table.now c.loop-entry.entry-index c.entry-item.result c.loop-entry-test.true c.entry-item.is c.loop-entry.invariant
    c.push.new.self _ (c.loop-entry.next + c.count_ports-next.result) c.in_ok-push.ensures
    (ap (λ (k : ℕ). with_bits c.loop-entry.next c.entry-item.result.shape.ports k)
    (row_width_is c.measure-rows.result.rows c.row_width.result c.row_width.ensures ∙ ap row_width_of (c.measure-rows.ensures.1.0 ∙ ap rows_of c.as_slice.ensures)))
    (ap (λ (n : ℕ). c.loop-entry.next + n) c.count_ports-next.ensures.is)

pub returns : goal.returns
returns c = listing_ends c.loop-entry.memories c.loop-entry.next c.args.table.now c.loop-entry.entry-index c.loop-entry-test.false c.loop-entry.invariant
