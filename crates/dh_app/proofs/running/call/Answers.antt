-- By what the words came to, and what was written.
use Rattle.std.proofs.Common.{map, string_bytes, refl, inl}
use Rattle.dh_app.specs.Inputs.{inputs_of}
use Rattle.dh_app.proofs.Endings.{written}
use Rattle.dh_app.proofs.running.call.Goals as goal

pub returns-in-Answer-clause-ends : goal.returns-in-Answer-clause-ends
returns-in-Answer-clause-ends g c =
    written (map string_bytes c.args.words.now) (inputs_of (g.F.Files.seen c.args.files.now) (g.E.Engine.seen c.args.engine.now)) (inputs_of (g.F.Files.seen c.reply_to.new.files) (g.E.Engine.seen c.reply_to.new.engine))
    (g.S.Sink.seen c.args.out.now) (g.S.Sink.seen c.write_answer.new.out) c.in-Answer.answer c.write_answer.result (rw c.in-Answer.is at c.reply_to.ensures.comes) c.write_answer.ensures.written

pub returns-in-ReadFault-clause-ends : goal.returns-in-ReadFault-clause-ends
returns-in-ReadFault-clause-ends g c = (rw c.in-ReadFault.is at c.reply_to.ensures.comes, refl)

pub returns-in-NoMemory-clause-ends : goal.returns-in-NoMemory-clause-ends
returns-in-NoMemory-clause-ends g c = inl (rw c.in-NoMemory.is at c.reply_to.ensures.comes, refl)
