-- Words name a job, or none.
use Rattle.std.proofs.Common.{◌∙◌, Option, map, string_bytes, refl, sym, subst}
use Rattle.dh_app.specs.Inputs.{inputs_of}
use Rattle.dh_app.specs.Jobs.{ComesFor}
use Rattle.dh_app.specs.Replies.{reply_seen}
use Rattle.dh_app.specs.declared.words.Job.{Job}
use Rattle.dh_app.proofs.running.reply_to.Goals as goal

pub do_job-requires : goal.do_job-requires
do_job-requires g c = sym c.of.ensures ∙ c.in-Some.is

pub returns-in-Some-clause-comes : goal.returns-in-Some-clause-comes
returns-in-Some-clause-comes g c =
    let P : Option Job → Type 0 =
    λ o. ComesFor (map string_bytes c.args.words.now) (inputs_of (g.F.Files.seen c.args.files.now) (g.E.Engine.seen c.args.engine.now)) (inputs_of (g.F.Files.seen c.do_job.new.files) (g.E.Engine.seen c.do_job.new.engine)) o (reply_seen c.do_job.result) in
    record { comes = subst P (sym (sym c.of.ensures ∙ c.in-Some.is)) c.do_job.ensures.comes }

pub returns-in-None-clause-comes : goal.returns-in-None-clause-comes
returns-in-None-clause-comes g c =
    let P : Option Job → Type 0 =
    λ o. ComesFor (map string_bytes c.args.words.now) (inputs_of (g.F.Files.seen c.args.files.now) (g.E.Engine.seen c.args.engine.now)) (inputs_of (g.F.Files.seen c.args.files.now) (g.E.Engine.seen c.args.engine.now)) o (reply_seen c.usage_reply.result) in
    record { comes = subst P (sym (sym c.of.ensures ∙ c.in-None.is)) (refl, c.usage_reply.ensures) }
