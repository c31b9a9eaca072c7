-- What the bytes mean, or the line of their fault.
use Rattle.dh_app.specs.Replies.{reply_seen}
use Rattle.dh_app.proofs.DataLines.{bad_bytes, good_bytes}
use Rattle.dh_app.proofs.sources.memories_of.Goals as goal

pub returns-in-Err : goal.returns-in-Err
returns-in-Err c =
    bad_bytes c.args.bytes.now c.args.table.now c.in-Err.fault c.bad_data_line.result (reply_seen c.reply_with.result) c.in-Err.ensures.reads c.in-Err.ensures.only c.bad_data_line.ensures c.reply_with.ensures

pub returns-in-Ok : goal.returns-in-Ok
returns-in-Ok c = good_bytes c.args.bytes.now c.args.table.now c.in-Ok.memories c.in-Ok.ensures.reads c.in-Ok.ensures.only c.in-Ok.ensures.fits
