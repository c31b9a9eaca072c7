-- What follows of how the call ends.
use Rattle.std.proofs.Common.{map, string_bytes}
use Rattle.dh_app.specs.Inputs.{inputs_of}
use Rattle.dh_app.proofs.Endings.{counts_faults, touches, succeeds, one_answer}
use Rattle.dh_app.proofs.running.run.Goals as goal

pub returns-clause-faults : goal.returns-clause-faults
returns-clause-faults g c =
    counts_faults (map string_bytes c.args.words.now) (inputs_of (g.F.Files.seen c.args.files.now) (g.E.Engine.seen c.args.engine.now)) (inputs_of (g.F.Files.seen c.call.new.files) (g.E.Engine.seen c.call.new.engine))
    (g.S.Sink.seen c.args.out.now) (g.S.Sink.seen c.call.new.out) c.call.result c.call.ensures.ends

pub returns-clause-touches : goal.returns-clause-touches
returns-clause-touches g c =
    touches (map string_bytes c.args.words.now) (inputs_of (g.F.Files.seen c.args.files.now) (g.E.Engine.seen c.args.engine.now)) (inputs_of (g.F.Files.seen c.call.new.files) (g.E.Engine.seen c.call.new.engine))
    (g.S.Sink.seen c.args.out.now) (g.S.Sink.seen c.call.new.out) c.call.result c.call.ensures.ends

pub returns-clause-succeeds : goal.returns-clause-succeeds
returns-clause-succeeds g c =
    succeeds (map string_bytes c.args.words.now) (inputs_of (g.F.Files.seen c.args.files.now) (g.E.Engine.seen c.args.engine.now)) (inputs_of (g.F.Files.seen c.call.new.files) (g.E.Engine.seen c.call.new.engine))
    (g.S.Sink.seen c.args.out.now) (g.S.Sink.seen c.call.new.out) c.call.result c.call.ensures.ends

pub returns-clause-only : goal.returns-clause-only
returns-clause-only g c =
    one_answer (map string_bytes c.args.words.now) (inputs_of (g.F.Files.seen c.args.files.now) (g.E.Engine.seen c.args.engine.now)) (inputs_of (g.F.Files.seen c.call.new.files) (g.E.Engine.seen c.call.new.engine))
    (g.S.Sink.seen c.args.out.now) (g.S.Sink.seen c.call.new.out) c.call.result c.call.ensures.ends
