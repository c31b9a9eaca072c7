-- The count is the limit and one.
use Rattle.std.proofs.Common.{◌+◌}
use Rattle.dh_base.specs.Limits.{greatest_of}
use Rattle.dh_base.specs.declared.statuses.Status.TheVariants as status
use Rattle.dh_app.specs.Lines.{too_large_line}
use Rattle.dh_app.specs.Replies.{reply_seen}
use Rattle.dh_app.proofs.Lined.{with_line}
use Rattle.dh_app.proofs.replies.too_large.Goals as goal

pub returns : goal.returns
returns c =
    with_line status.TooLarge (too_large_line c.args.limit (greatest_of c.args.limit + 1)) c.too_large_line-line.result (reply_seen c.reply_with.result)
    (rw c.greatest-count.ensures at c.too_large_line-line.ensures) c.reply_with.ensures
