-- The engine is asked once, and its one answer is reported.
use Rattle.dh_app.specs.Replies.{reply_seen}
use Rattle.dh_app.proofs.Reported.{run_reported, only_answer}
use Rattle.dh_app.proofs.simulating.report_run.Goals as goal

pub report_first-requires : goal.report_first-requires
report_first-requires g c =
    record {
      answers = rw c.answers.ensures (only_answer c.args.net.now c.args.memories (g.E.Engine.seen c.finish.new.self).answers (rw c.in-Ok.ensures at c.in-Ok-finish.ensures.answers));
      table = c.requires.valid.table;
    }

pub returns : goal.returns
returns g c =
    λ p plays.
    run_reported p c.args.net.now c.args.memories c.args.clocks (g.E.Engine.seen c.args.engine.now) (g.E.Engine.seen c.finish.new.self) (reply_seen c.report_first.result)
    plays c.requires.fits c.in-Ok-finish.ensures.asks (rw c.in-Ok.ensures at c.in-Ok-finish.ensures.answers)
    (λ e. rw c.in-Ok.ensures at (c.in-Ok-finish.ensures.right e)) (rw c.answers.ensures at c.report_first.ensures)
