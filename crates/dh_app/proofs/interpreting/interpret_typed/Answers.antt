-- The reply is that of the data, or of the run. The data is read by the program's table.
use Rattle.std.proofs.Common.{List, Ok, Err, refl, sym, subst, inl, inr}
use Rattle.dh_tree.specs.declared.tables.MemEntry.{MemEntry}
use Rattle.dh_tree.specs.Seen.{program_seen}
use Rattle.dh_tree.specs.Shapes.{IsProgramTable}
use Rattle.dh_app.specs.Parts.{DataRead}
use Rattle.dh_app.proofs.interpreting.interpret_typed.Goals as goal

pub read_memories-requires : goal.read_memories-requires
read_memories-requires g c =
    let T : List MemEntry → Type 0 = IsProgramTable in
    subst T (sym c.memories.ensures) (c.ready_programs_have_tables.ensures (program_seen c.args.typed.now) c.requires.ready)

pub returns-in-Ok-clause-comes : goal.returns-in-Ok-clause-comes
returns-in-Ok-clause-comes g c =
    λ first engine begun.
    let P : List MemEntry → Type 0 = λ t. DataRead first (g.F.Files.seen c.read_memories.new.files) c.args.data_.now t (Ok c.in-Ok.memories) in
    let read = subst P c.memories.ensures (c.in-Ok.ensures.read first begun) in
    inr (c.in-Ok.memories, (read.0, (record { read = read.1; idle = refl }, c.report_standing.ensures)))

pub returns-in-Err-clause-comes : goal.returns-in-Err-clause-comes
returns-in-Err-clause-comes g c =
    λ first engine begun.
    let P : List MemEntry → Type 0 = λ t. DataRead first (g.F.Files.seen c.read_memories.new.files) c.args.data_.now t (Err c.in-Err.reply) in
    inl (subst P c.memories.ensures (c.in-Err.ensures.read first begun), refl)
