-- The interpreter stands where the run does, and its memories fit the table.
use Rattle.std.proofs.Common.{◌∙◌, sym, subst, List, ℕ}
use Rattle.dh_tree.specs.Memories.{table_of}
use Rattle.dh_tree.specs.Seen.{program_seen}
use Rattle.dh_tree.specs.Tables.{Fits}
use Rattle.dh_tree.specs.Shapes.{IsProgramTable}
use Rattle.dh_tree.specs.declared.tables.MemEntry.{MemEntry}
use Rattle.dh_app.proofs.Interpreted.{memories_are, memories_fit, ending_is}
use Rattle.dh_app.specs.Replies.{reply_seen}
use Rattle.dh_app.proofs.Reported.{standing_reported}
use Rattle.dh_app.proofs.interpreting.report_standing.Goals as goal

pub report_ending-reply-requires : goal.report_ending-reply-requires
report_ending-reply-requires c =
    let p = program_seen c.args.typed.now in
    let T : List MemEntry → Type 0 = IsProgramTable in
    let P : List MemEntry → Type 0 = λ t. Fits t c.memories-2.result.now in
    let Q : List (List ℕ) → Type 0 = λ ms. Fits (table_of (program_seen c.args.typed.now)) ms in
    record {
      table = subst T (sym c.memories.ensures) (c.ready_programs_have_tables.ensures p c.requires.ready);
      fits = subst P (sym c.memories.ensures) (subst Q (sym c.memories-2.ensures) (memories_fit p c.args.memories c.args.steps c.in-Ok.interp c.requires.fits c.in-Ok.ensures));
    }

pub returns : goal.returns
returns c =
    let p = program_seen c.args.typed.now in
    standing_reported p c.args.memories c.args.steps c.memories.result.now c.memories-2.result.now _ (reply_seen c.report_ending-reply.result) c.memories.ensures
    (c.memories-2.ensures ∙ memories_are p c.args.memories c.args.steps c.in-Ok.interp c.in-Ok.ensures)
    (ending_is p c.args.memories c.args.steps c.in-Ok.interp c.outcome.result c.steps.result c.outcome.ensures c.steps.ensures c.in-Ok.ensures)
    c.report_ending-reply.ensures
