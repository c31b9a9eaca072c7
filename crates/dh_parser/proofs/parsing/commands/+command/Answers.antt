use Rattle.std.proofs.Common.{rules, ◌+◌, refl, ap, sym, ◌∙◌}
use Rattle.dh_parser.specs.Grammar.{block, if_alone, if_else, while_loop, simple_then, compound_then, semicolon_then, part_then}
use Rattle.dh_parser.specs.Reading.{the_part, the_parts, the_block, begins_simple, begins_compound, begins_nothing}
use Rattle.dh_parser.proofs.Going.{ok_then, err_then, given, known, made_of, took_ok}
use Rattle.dh_parser.proofs.Loops.{loop_begins, loop_turn, loop_ends, through}
use Rattle.dh_parser.proofs.WholeBlocks.{block_is, if_by_asked, while_by_asked, compound_is_if}
use Rattle.dh_parser.proofs.BlockForms.{arms_made, block_made, if_made, while_made, for_made, moved}
use Rattle.dh_parser.proofs.PartLoops.{part_begins, parts_begin, simple_more, compound_more, semicolon_more, part_more, part_ends, part_last, parts_end, part_moved, part_by, simple_turn, simple_last, compound_turn, semicolon_turn, parts_turn, parts_last}
use Rattle.dh_parser.proofs.parsing.commands.+command.Goals as goal

pub read_block-returns-in_err-place-clause-answer : goal.read_block-returns-in_err-place-clause-answer
read_block-returns-in_err-place-clause-answer t c =
    rw (block_is c.args.reader.now.rest.now, given c.from_residual.ensures)
    (err_then _ c.in_err-place.ensures.answer)

pub read_block-returns-in_err-body-clause-answer : goal.read_block-returns-in_err-body-clause-answer
read_block-returns-in_err-body-clause-answer t c =
    rw (block_is c.args.reader.now.rest.now, given c.from_residual-in_err-body.ensures)
    (ok_then _ c.in_ok-place.ensures.answer λ a0 p0.
    err_then _ c.in_err-body.ensures.answer)

pub read_compound-returns-then-is_next-clause-answer : goal.read_compound-returns-then-is_next-clause-answer
read_compound-returns-then-is_next-clause-answer t c =
    rw (compound_is_if _ (sym c.if-is_next.ensures)) (through if_alone c.read_if.ensures.answer (λ v i s. s))

pub read_for-returns-clause-answer : goal.read_for-returns-clause-answer
read_for-returns-clause-answer t c =
    ok_then _ c.in_ok-head.ensures.answer λ h p0.
    ok_then _ c.in_ok-body.ensures.answer λ b p1.
    ok_then _ c.in_ok-combine.ensures.answer λ m p2.
    record { holds = (for_made c.begin-id.result _ _ _ _ c.in_ok-head.head h _ _ _ _ b m c.in_ok-whole.ensures (c.begin-id.ensures.id ∙ c.in_ok-head.ensures.commands) (c.begin-id.ensures.count ∙ ap (λ n. n + 1) c.in_ok-head.ensures.commands) p0 refl p1 p2.0 p2.1, refl) }

pub read_part-loop-reader-init : goal.read_part-loop-reader-init
read_part-loop-reader-init t c = record {
  loops = loop_begins (the_part the_block) c.args.reader.now.rest.now (part_begins _ _ c.in_ok-commands.ensures);
  room = search rules;
  shorter = search rules;
}

pub read_part-returns-in_err-command-in-Simple-clause-answer : goal.read_part-returns-in_err-command-in-Simple-clause-answer
read_part-returns-in_err-command-in-Simple-clause-answer t c =
    rw (given c.from_residual-in_err-command-in-Simple.ensures)
    (loop_ends c.loop-reader.invariant.loops (λ k. rw (part_by _ begins_simple c.in-Simple.ensures k) (err_then _ c.in_err-command-in-Simple.ensures.answer)))

pub read_part-returns-then-not-take-clause-answer : goal.read_part-returns-then-not-take-clause-answer
read_part-returns-then-not-take-clause-answer t c =
    let s = known c.in_ok-command-in-Simple.ensures.answer in
    loop_ends c.loop-reader.invariant.loops (λ k. rw (simple_last _ _ s.0 c.in-Simple.ensures s.1.1 c.if-not-take.ensures.took.0 k)
    (record { holds = ((λ put so. part_last c.shrink_to_fit.new.self _ s.0 s.1.0.0 (c.shrink_to_fit.ensures.items ∙ c.in_ok-append-in-Simple.ensures) (c.if-not-take.ensures.commands ∙ s.1.0.1) so), c.if-not-take.ensures.took.1) }))

pub read_part-loop-reader-preserved-else-not-take : goal.read_part-loop-reader-preserved-else-not-take
read_part-loop-reader-preserved-else-not-take t c =
    let s = known c.in_ok-command-in-Simple.ensures.answer in
    let m = c.if-not-take.ensures.took in record {
      loops = loop_turn (simple_then s.0 m.1.0) c.loop-reader.invariant.loops (simple_turn _ _ _ s.0 m.1.0 c.in-Simple.ensures s.1.1 m.0 m.1.1) (search rules)
          (λ put so. simple_more _ s.0 m.1.0 s.1.0.0 c.in_ok-append-in-Simple.ensures (c.if-not-take.ensures.commands ∙ s.1.0.1) so);
      room = search rules;
      shorter = search rules;
    }

pub read_part-returns-in_err-command-in-Compound-clause-answer : goal.read_part-returns-in_err-command-in-Compound-clause-answer
read_part-returns-in_err-command-in-Compound-clause-answer t c =
    rw (given c.from_residual-in_err-command-in-Compound.ensures)
    (loop_ends c.loop-reader.invariant.loops (λ k. rw (part_by _ begins_compound c.in-Compound.ensures k) (err_then _ c.in_err-command-in-Compound.ensures.answer)))

pub read_part-loop-reader-preserved-in-Continue-branch-5 : goal.read_part-loop-reader-preserved-in-Continue-branch-5
read_part-loop-reader-preserved-in-Continue-branch-5 t c =
    let s = known c.in_ok-command-in-Compound.ensures.answer in record {
      loops = loop_turn (compound_then s.0) c.loop-reader.invariant.loops (compound_turn _ _ s.0 c.in-Compound.ensures s.1.1) (search rules)
          (λ put so. compound_more _ s.0 s.1.0 c.in_ok-append-in-Compound.ensures so);
      room = search rules;
      shorter = search rules;
    }

pub read_part-loop-reader-preserved : goal.read_part-loop-reader-preserved
read_part-loop-reader-preserved t c =
    let s = known c.in_ok-skip-in-Semicolon.ensures.answer in record {
      loops = loop_turn (semicolon_then s.0) c.loop-reader.invariant.loops (semicolon_turn _ _ s.0 c.in-Semicolon.ensures s.1.1) (search rules)
          (λ put so. semicolon_more s.0 c.in_ok-skip-in-Semicolon.ensures.commands so);
      room = search rules;
      shorter = search rules;
    }

pub read_part-returns-in-Nothing-clause-answer : goal.read_part-returns-in-Nothing-clause-answer
read_part-returns-in-Nothing-clause-answer t c =
    loop_ends c.loop-reader.invariant.loops (λ k. rw (part_by _ begins_nothing c.in-Nothing.ensures k) (record { holds = ((λ put so. part_ends c.shrink_to_fit-in-Nothing.new.self c.shrink_to_fit-in-Nothing.ensures.items so), refl) }))

pub read_sequence-loop-parts-init : goal.read_sequence-loop-parts-init
read_sequence-loop-parts-init t c = record {
  loops = loop_begins (the_parts the_block) c.args.reader.now.rest.now (parts_begin _ _ c.new-parts.ensures.items);
  room = search rules;
  shorter = search rules;
}

pub read_sequence-returns-in_err-part-clause-answer : goal.read_sequence-returns-in_err-part-clause-answer
read_sequence-returns-in_err-part-clause-answer t c =
    rw (given c.from_residual.ensures)
    (loop_ends c.loop-parts.invariant.loops (λ k. err_then _ c.in_err-part.ensures.answer))

pub read_sequence-returns-then-not-take-clause-answer : goal.read_sequence-returns-then-not-take-clause-answer
read_sequence-returns-then-not-take-clause-answer t c =
    let s = known c.in_ok-part.ensures.answer in
    loop_ends c.loop-parts.invariant.loops (λ k. rw (parts_last c.loop-parts.reader.rest.now _ s.0 s.1.1 c.if-not-take.ensures.took.0 k)
    (record { holds = ((λ put so. parts_end c.put_part.new.parts c.in_ok-part.part s.0 (part_moved s.1.0 c.if-not-take.ensures.commands) c.in_ok-put_part.ensures so), c.if-not-take.ensures.took.1) }))

pub read_sequence-loop-parts-preserved : goal.read_sequence-loop-parts-preserved
read_sequence-loop-parts-preserved t c =
    let s = known c.in_ok-part.ensures.answer in
    let m = c.if-not-take.ensures.took in record {
      loops = loop_turn (λ more. part_then s.0 m.1.0 more) c.loop-parts.invariant.loops (parts_turn c.loop-parts.reader.rest.now _ _ s.0 m.1.0 s.1.1 m.0 m.1.1) (search rules)
          (λ put so. part_more c.in_ok-part.part s.0 m.1.0 (part_moved s.1.0 c.if-not-take.ensures.commands) c.in_ok-put_part.ensures so);
      room = search rules;
      shorter = search rules;
    }

pub read_for-returns-in_err-head-clause-answer : goal.read_for-returns-in_err-head-clause-answer
read_for-returns-in_err-head-clause-answer t c =
    rw (given c.from_residual.ensures)
    (err_then _ c.in_err-head.ensures.answer)

pub read_for-returns-in_err-body-clause-answer : goal.read_for-returns-in_err-body-clause-answer
read_for-returns-in_err-body-clause-answer t c =
    rw (given c.from_residual-in_err-body.ensures)
    (ok_then _ c.in_ok-head.ensures.answer λ a0 p0.
    err_then _ c.in_err-body.ensures.answer)

pub read_block-returns-clause-answer : goal.read_block-returns-clause-answer
read_block-returns-clause-answer t c =
    rw (block_is c.args.reader.now.rest.now)
    (ok_then _ c.in_ok-place.ensures.answer λ opener p0.
    ok_then _ c.in_ok-body.ensures.answer λ p p1.
    through (λ closer. block opener p closer) c.closed_block.ensures.answer
    (λ v closer s. moved (block_made c.begin-id.result _ _ _ c.in_ok-place.place opener closer c.in_ok-body.body p s (c.begin-id.ensures.id ∙ c.in_ok-place.ensures.commands) (c.begin-id.ensures.count ∙ ap (λ n. n + 1) c.in_ok-place.ensures.commands) p0 p1) c.closed_block.ensures.commands))

pub read_block-returns-clause-taken : goal.read_block-returns-clause-taken
read_block-returns-clause-taken t c = took_ok c.closed_block.result (search rules)

pub read_if-returns-in_err-asked-clause-answer : goal.read_if-returns-in_err-asked-clause-answer
read_if-returns-in_err-asked-clause-answer t c =
    rw (if_by_asked c.args.reader.now.rest.now, given c.from_residual.ensures)
    (err_then _ c.in_err-asked.ensures.answer)

pub read_if-returns-clause-answer : goal.read_if-returns-clause-answer
read_if-returns-clause-answer t c =
    rw (if_by_asked c.args.reader.now.rest.now)
    (ok_then _ c.in_ok-asked.ensures.answer λ a p0.
    made_of (λ p. if_else a.0 a.1.opener a.1.test a.1.closer p.0 p.1) c.read_arms-arms.ensures.answer c.if_of.ensures
    (λ v w p s m. if_made c.in_ok-asked.asked a v p m p0 s))

pub read_if-returns-clause-taken : goal.read_if-returns-clause-taken
read_if-returns-clause-taken t c = took_ok c.if_of.result (search rules)

pub read_arms-returns-in_err-chosen-clause-answer : goal.read_arms-returns-in_err-chosen-clause-answer
read_arms-returns-in_err-chosen-clause-answer t c =
    rw (given c.from_residual.ensures)
    (err_then _ c.in_err-chosen.ensures.answer)

pub read_arms-returns-clause-answer : goal.read_arms-returns-clause-answer
read_arms-returns-clause-answer t c =
    ok_then _ c.in_ok-chosen.ensures.answer λ b p0.
    made_of (λ e. (b, e)) c.read_else-other.ensures.answer c.arms_of.ensures
    (λ v w e s m. arms_made c.in_ok-chosen.chosen v b e m p0 s)

pub read_while-returns-in_err-asked-clause-answer : goal.read_while-returns-in_err-asked-clause-answer
read_while-returns-in_err-asked-clause-answer t c =
    rw (while_by_asked c.args.reader.now.rest.now, given c.from_residual.ensures)
    (err_then _ c.in_err-asked.ensures.answer)

pub read_while-returns-clause-answer : goal.read_while-returns-clause-answer
read_while-returns-clause-answer t c =
    rw (while_by_asked c.args.reader.now.rest.now)
    (ok_then _ c.in_ok-asked.ensures.answer λ a p0.
    made_of (λ b. while_loop a.0 a.1.opener a.1.test a.1.closer b) c.read_boxed_block-body.ensures.answer c.while_of.ensures
    (λ v w b s m. while_made c.in_ok-asked.asked a v b m p0 s))

pub read_while-returns-clause-taken : goal.read_while-returns-clause-taken
read_while-returns-clause-taken t c = took_ok c.while_of.result (search rules)
