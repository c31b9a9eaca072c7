-- The reply is that of the compiler, of the data, or of the run. The data is read by the net's table,
-- which is the program's.
use Rattle.std.proofs.Common.{List, Ok, Err, refl, subst, inl, inr}
use Rattle.dh_tree.specs.declared.tables.MemEntry.{MemEntry}
use Rattle.dh_tree.specs.Seen.{program_seen}
use Rattle.dh_app.specs.Parts.{DataRead}
use Rattle.dh_app.proofs.simulating.simulate_program.Goals as goal

pub read_memories-requires : goal.read_memories-requires
read_memories-requires g c = c.in-Ok.ensures.plays.valid.table

pub report_run-requires : goal.report_run-requires
report_run-requires g c = record { valid = c.in-Ok.ensures.plays.valid; fits = c.in-Ok-read_memories.ensures.fits }

pub returns-in-Err-clause-comes : goal.returns-in-Err-clause-comes
returns-in-Err-clause-comes g c = λ first begun. inl (record { read = begun.read; idle = refl }, c.in-Err.ensures)

pub returns-in-Ok-read_memories-clause-comes : goal.returns-in-Ok-read_memories-clause-comes
returns-in-Ok-read_memories-clause-comes g c =
    λ first begun.
    let is = c.in-Ok.ensures in
    let P : List MemEntry → Type 0 = λ t. DataRead first (g.F.Files.seen c.read_memories.new.files) c.args.data_.now t (Ok c.in-Ok-read_memories.memories) in
    let read = subst P is.plays.table (c.in-Ok-read_memories.ensures.read first begun) in
    inr (c.in-Ok.net, (is, inr (c.in-Ok-read_memories.memories, (read.0, (read.1, c.report_run.ensures (program_seen c.args.accepted.now) is)))))

pub returns-clause-comes : goal.returns-clause-comes
returns-clause-comes g c =
    λ first begun.
    let is = c.in-Ok.ensures in
    let P : List MemEntry → Type 0 = λ t. DataRead first (g.F.Files.seen c.read_memories.new.files) c.args.data_.now t (Err c.in-Err-read_memories.reply) in
    inr (c.in-Ok.net, (is, inl (subst P is.plays.table (c.in-Err-read_memories.ensures.read first begun), refl)))
