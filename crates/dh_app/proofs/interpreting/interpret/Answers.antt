-- The reply is that of the file, or that of its program; what was asked of the text is what the words ask.
use Rattle.std.proofs.Common.{Bool, refl, sym, subst, inl, inr}
use Rattle.dh_tree.specs.Seen.{program_seen}
use Rattle.dh_tree.specs.declared.trees.programs.Tree.{Tree}
use Rattle.dh_app.specs.Asking.{interpreted}
use Rattle.dh_app.specs.Replies.{reply_seen}
use Rattle.dh_app.specs.Sources.{IsProgram, NoProgram}
use Rattle.dh_app.proofs.interpreting.interpret.Goals as goal

pub returns-in-Ok-clause-comes : goal.returns-in-Ok-clause-comes
returns-in-Ok-clause-comes g c =
    λ engine.
    let read = c.in-Ok.ensures.read in
    let P : Bool → Type 0 = λ u. IsProgram (g.F.Files.seen c.args.files.now) (interpreted u) c.args.file.now (program_seen c.in-Ok.typed) in
    inr (program_seen c.in-Ok.typed, (subst P (sym c.if-unchecked.true) read.0, c.interpret_typed-reply.ensures.comes (g.F.Files.seen c.args.files.now) engine (record { keeps = c.in-Ok.ensures.files; read = read.1.0 })))

pub returns-in-Err-clause-comes : goal.returns-in-Err-clause-comes
returns-in-Err-clause-comes g c =
    λ engine.
    let P : Bool → Type 0 = λ u. NoProgram (g.F.Files.seen c.args.files.now) (g.F.Files.seen c.read_typed.new.files) (interpreted u) c.args.file.now (reply_seen c.in-Err.reply) in
    inl (subst P (sym c.if-unchecked.true) c.in-Err.ensures.read, refl)

pub returns-in-Ok-read_program-clause-comes : goal.returns-in-Ok-read_program-clause-comes
returns-in-Ok-read_program-clause-comes g c =
    λ engine.
    let read = c.in-Ok-read_program.ensures.read in
    let P : Bool → Type 0 = λ u. IsProgram (g.F.Files.seen c.args.files.now) (interpreted u) c.args.file.now (program_seen c.in-Ok-read_program.accepted) in
    let Q : Tree → Type 0 = λ t. IsProgram (g.F.Files.seen c.args.files.now) (interpreted c.args.unchecked) c.args.file.now (program_seen t) in
    inr (
      program_seen c.typed.result.now,
      (
        subst Q (sym c.typed.ensures.typed) (subst P (sym c.if-unchecked.false) read.0),
        c.interpret_typed-reply-in-Ok-read_program.ensures.comes (g.F.Files.seen c.args.files.now) engine (record { keeps = c.in-Ok-read_program.ensures.files; read = read.1 }),
      ),
    )

pub returns-in-Err-read_program-clause-comes : goal.returns-in-Err-read_program-clause-comes
returns-in-Err-read_program-clause-comes g c =
    λ engine.
    let P : Bool → Type 0 = λ u. NoProgram (g.F.Files.seen c.args.files.now) (g.F.Files.seen c.read_program.new.files) (interpreted u) c.args.file.now (reply_seen c.in-Err-read_program.reply) in
    inl (subst P (sym c.if-unchecked.false) c.in-Err-read_program.ensures.read, refl)
