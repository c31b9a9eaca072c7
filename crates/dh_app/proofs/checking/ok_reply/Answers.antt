use Rattle.dh_base.specs.declared.statuses.Status.TheVariants as status
use Rattle.dh_app.specs.Lines.{ok_line}
use Rattle.dh_app.specs.Replies.{reply_seen}
use Rattle.dh_app.proofs.Lined.{with_line}
use Rattle.dh_app.proofs.checking.ok_reply.Goals as goal

pub returns : goal.returns
returns c = with_line status.Done ok_line c.ok_line.result (reply_seen c.reply_with.result) c.ok_line.ensures c.reply_with.ensures
