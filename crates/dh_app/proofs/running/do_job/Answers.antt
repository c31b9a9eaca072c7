-- The words that a job names are those that are read.
use Rattle.std.proofs.Common.{◌∙◌, string_bytes, Some, refl, ap}
use Rattle.dh_app.specs.declared.words.Job.TheVariants.{Check, Lower, Interpret, Simulate}
use Rattle.dh_app.proofs.Naming.{file_within, data_within}
use Rattle.dh_app.proofs.running.do_job.Goals as goal

pub word-requires : goal.word-requires
word-requires g c = file_within string_bytes c.args.words.now (Check c.in-Check.file) (c.requires ∙ ap Some c.in-Check.is)

pub word-requires-in-Lower : goal.word-requires-in-Lower
word-requires-in-Lower g c = file_within string_bytes c.args.words.now (Lower c.in-Lower.file) (c.requires ∙ ap Some c.in-Lower.is)

pub word-file-requires : goal.word-file-requires
word-file-requires g c =
    file_within string_bytes c.args.words.now (Interpret c.in-Interpret.file c.in-Interpret.data_ c.in-Interpret.steps c.in-Interpret.unchecked) (c.requires ∙ ap Some c.in-Interpret.is)

pub word-data_-requires : goal.word-data_-requires
word-data_-requires g c =
    data_within string_bytes c.args.words.now (Interpret c.in-Interpret.file c.in-Interpret.data_ c.in-Interpret.steps c.in-Interpret.unchecked) c.in-Interpret.data_ (c.requires ∙ ap Some c.in-Interpret.is) refl

pub word-file-requires-in-Simulate : goal.word-file-requires-in-Simulate
word-file-requires-in-Simulate g c = file_within string_bytes c.args.words.now (Simulate c.in-Simulate.file c.in-Simulate.data_ c.in-Simulate.clocks) (c.requires ∙ ap Some c.in-Simulate.is)

pub word-data_-requires-in-Simulate : goal.word-data_-requires-in-Simulate
word-data_-requires-in-Simulate g c = data_within string_bytes c.args.words.now (Simulate c.in-Simulate.file c.in-Simulate.data_ c.in-Simulate.clocks) c.in-Simulate.data_ (c.requires ∙ ap Some c.in-Simulate.is) refl

pub returns-in-Check-clause-comes : goal.returns-in-Check-clause-comes
returns-in-Check-clause-comes g c = rw c.in-Check.is (rw c.word.ensures at (c.check_file.ensures.comes (g.E.Engine.seen c.args.engine.now)))

pub returns-in-Lower-clause-comes : goal.returns-in-Lower-clause-comes
returns-in-Lower-clause-comes g c = rw c.in-Lower.is (rw c.word-in-Lower.ensures at (c.lower.ensures.comes (g.E.Engine.seen c.args.engine.now)))

pub returns-in-Interpret-clause-comes : goal.returns-in-Interpret-clause-comes
returns-in-Interpret-clause-comes g c =
    rw c.in-Interpret.is (rw (c.word-file.ensures, c.word-data_.ensures) at (c.interpret.ensures.comes (g.E.Engine.seen c.args.engine.now)))

pub returns-in-Simulate-clause-comes : goal.returns-in-Simulate-clause-comes
returns-in-Simulate-clause-comes g c = rw c.in-Simulate.is (rw (c.word-file-in-Simulate.ensures, c.word-data_-in-Simulate.ensures) at c.simulate.ensures.comes)
