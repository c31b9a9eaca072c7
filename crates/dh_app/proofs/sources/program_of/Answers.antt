-- A text that is not accepted is answered with the line of its verdict.
use Rattle.std.proofs.Common.{true}
use Rattle.dh_app.specs.Replies.{reply_seen}
use Rattle.dh_app.proofs.Reading.{fault_refuses}
use Rattle.dh_app.proofs.sources.program_of.Goals as goal

pub returns-in-Err : goal.returns-in-Err
returns-in-Err c =
    record { program = fault_refuses true c.args.text.now c.in-Err.fault (reply_seen c.fault_line.result) c.in-Err.ensures.verdict c.fault_line.ensures }
