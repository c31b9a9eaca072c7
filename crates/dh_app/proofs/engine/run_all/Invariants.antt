-- The answers so far are those to the memories so far.
use Rattle.dh_app.specs.Engines.{AnswersTo, AreRuns}
use Rattle.dh_app.proofs.engine.run_all.Given as goal

abbrev pub invariant-loop-memories : goal.invariant-loop-memories
invariant-loop-memories l = AnswersTo l.net l.yielded l.answers.items × AreRuns l.net l.limit l.yielded l.answers.items
