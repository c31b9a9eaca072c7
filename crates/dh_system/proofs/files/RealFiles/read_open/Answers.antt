-- An error after some bytes, more bytes than the limit, and the whole file.
use Rattle.std.proofs.Common.{◌∙◌, [], ap, arith}
use Rattle.dh_system.proofs.Readings.{met_ends, too_long, whole}
use Rattle.dh_system.proofs.files.RealFiles.read_open.Goals as goal

pub returns-in-Err-clause-answer : goal.returns-in-Err-clause-answer
returns-in-Err-clause-answer g c = met_ends _ [] c.args.limit c.args.self.now _ c.met.new.self c.met.result (ap (λ s. s.faults) c.self.view_is) c.met.ensures.answer

pub returns-in-Ok-clause-answer : goal.returns-in-Ok-clause-answer
returns-in-Ok-clause-answer g c =
    let v = ap (λ s. s.taken) c.self.view_is in
    let l = c.len-long.ensures in
    let t = c.saturating_add-self-inside.ensures in
    too_long g.F.Read.remaining _ _ c.take.ensures.inner _ _ _ _ c.new-contents.ensures.items c.in-Ok.ensures.bytes c.args.self.now.taken _ (omega arith) (omega arith)

pub returns-in-Ok-2-clause-answer : goal.returns-in-Ok-2-clause-answer
returns-in-Ok-2-clause-answer g c =
    let l = c.len-long.ensures in
    let o = c.read_to_end-end.new.buf.ok in
    let s = c.read_to_end-end.new.buf.small in
    whole g.F.Read.remaining _ _ c.take.ensures.inner _ _ _ _ c.new-contents.ensures.items c.in-Ok.ensures.bytes (c.take.ensures.limit ∙ c.saturating_add-cut.ensures) (omega arith) (omega arith)
