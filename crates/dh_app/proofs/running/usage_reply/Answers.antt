use Rattle.dh_base.specs.declared.statuses.Status.TheVariants as status
use Rattle.dh_app.specs.Lines.{usage_line}
use Rattle.dh_app.specs.Replies.{reply_seen}
use Rattle.dh_app.proofs.Lined.{with_line}
use Rattle.dh_app.proofs.running.usage_reply.Goals as goal

pub returns : goal.returns
returns c = with_line status.Usage usage_line c.usage_line.result (reply_seen c.reply_with.result) c.usage_line.ensures c.reply_with.ensures
