use Rattle.dh_code.specs.Rows.{contents_of}
use Rattle.dh_sem.specs.Lanes.{copied_rows}
use Rattle.dh_sem.proofs.LanesMade.{rows_more}
use Rattle.dh_sem.proofs.lanes.copies.Goals as goal

pub loop-row-preserved : goal.loop-row-preserved
loop-row-preserved c =
    rows_more c.loop-row.rows.items c.add_copies.new.rows.items c.args.outer.now c.loop-row.row-index c.args.factor c.row-item.result c.as_slice.result.now (copied_rows 0 c.args.factor (contents_of c.args.outer.now))
    c.loop-row-test.true c.row-item.is c.as_slice.ensures.value c.in_ok-add_copies.ensures c.loop-row.invariant
