use Rattle.std.proofs.Common.{rules, ◌≡◌, max, get_or}
use Rattle.dh_events.specs.Tables.{table_at, with_number}
use Rattle.dh_lengths.specs.Undone.{mark}
use Rattle.dh_lengths.proofs.UndoneFacts.{join_turn}
use Rattle.dh_lengths.proofs.undoing.join.Goals as goal

pub loop-mark-preserved : goal.loop-mark-preserved
loop-mark-preserved c =
    let m = get_or c.args.marks.now c.loop-mark.mark-index (mark 0 0) in
    let set : table_at c.set_number.new.numbers.items ≡ with_number (table_at c.loop-mark.variables.items) m.entity (max c.args.test (max (table_at c.loop-mark.variables.items m.entity) m.level)) = search rules in
    join_turn c.args.test c.args.marks.now c.loop-mark.mark-index (mark 0 0) _ _ _ c.loop-mark-test.true set c.loop-mark.invariant
