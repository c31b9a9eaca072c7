use Rattle.std.proofs.Common.{length, ap, ◌∙◌, [], add-one}
use Rattle.dh_code.specs.Rows.{contents_of}
use Rattle.dh_sem.specs.Lanes.{rank_kept}
use Rattle.dh_sem.proofs.LanesMade.{long_rows, one_more_row}
use Rattle.dh_sem.proofs.lanes.add_copies.Goals as goal

pub loop-preserved : goal.loop-preserved
loop-preserved c =
    let before = c.args.rows.now.items in
    rw (add-one c.loop.counter)
    (one_more_row c.loop.rows.items c.push.new.self.items (contents_of before) c.args.row.now [] c.in_ok-copied.field-0 (length before) c.rank_behind-rank.result c.loop.counter c.loop.invariant c.in_ok-push.ensures.items c.in_ok-copied.ensures
    (c.rank_behind-rank.ensures ∙ ap rank_kept (c.len.ensures ∙ c.loop.rows.ok.0)) (long_rows c.loop.rows.items before c.args.row.now (length before) c.loop.counter c.loop.invariant))
