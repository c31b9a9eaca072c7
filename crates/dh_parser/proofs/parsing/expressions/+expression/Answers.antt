use Rattle.std.proofs.Common.{rules, refl, ap, map, sym, ◌∙◌}
use Rattle.dh_tree.specs.Seen.{term_seen, terms}
use Rattle.dh_parser.specs.Grammar.{element, physical, bracket, cast, index, index_then, no_indices}
use Rattle.dh_parser.specs.Reading.{expression, the_index, more_indices}
use Rattle.dh_parser.proofs.Going.{ok_then, err_then, given, when_true, when_false, made_of, took_ok}
use Rattle.dh_parser.proofs.Loops.{loop_after, loop_goes, loop_refused, loop_done, through}
use Rattle.dh_parser.proofs.OperatorLoops.{chain_begins, chain_none, joins_goes, joins_refused}
use Rattle.dh_parser.proofs.TermLoops.{terms_first, terms_listed, terms_listed_all, indices_go, indices_end, element_is, row_is, bracket_is}
use Rattle.dh_parser.specs.TreesOfTexts.{text_of_name}
use Rattle.dh_parser.proofs.TermForms.{unnumbered, variable_seen, access_seen, physical_seen, cast_seen}
use Rattle.dh_parser.proofs.parsing.expressions.+expression.Goals as goal

pub read_expression-returns-in_err-left-clause-answer :
    goal.read_expression-returns-in_err-left-clause-answer
read_expression-returns-in_err-left-clause-answer t c =
    rw (given c.from_residual.ensures) (chain_none c.args.level _ c.in_err-left.ensures.answer)

pub read_expression-loop-op-init : goal.read_expression-loop-op-init
read_expression-loop-op-init t c = record {
  chains = chain_begins c.args.level _ c.in_ok-left.ensures.answer;
  commands = search rules;
  shorter = search rules;
}

pub read_indices-loop-reader-init : goal.read_indices-loop-reader-init
read_indices-loop-reader-init t c = record {
  loops = loop_after (more_indices expression) (λ i more. (i, more)) c.in_ok-read_further.ensures.answer (λ i s more. terms_first s.0 _ s.1.0 c.in_ok-indices.ensures.items s.1.1);
  commands = search rules;
  shorter = search rules;
}

pub read_indices-returns-in_err-read_further-2-clause-answer :
    goal.read_indices-returns-in_err-read_further-2-clause-answer
read_indices-returns-in_err-read_further-2-clause-answer t c =
    rw (given c.from_residual-in_err-read_further-2.ensures)
    (loop_refused (the_index expression) index_then c.loop-reader.invariant.loops (indices_go _ (search rules)) c.in_err-read_further-2.ensures.answer)

pub read_indices-loop-reader-preserved : goal.read_indices-loop-reader-preserved
read_indices-loop-reader-preserved t c = record {
  loops = loop_goes (the_index expression) index_then c.loop-reader.invariant.loops (indices_go _ (search rules)) c.in_ok-read_further-2.ensures.answer (search rules)
      (λ put i so s more. terms_listed _ s.0 _ (so (index_then i more)) s.1.0 s.1.1);
  commands = search rules;
  shorter = search rules;
}

pub read_indices-returns-clause-answer : goal.read_indices-returns-clause-answer
read_indices-returns-clause-answer t c =
    loop_done no_indices c.loop-reader.invariant.loops (indices_end _ (search rules))
    (λ put so. ap (λ es. terms (map term_seen es)) c.shrink_to_fit.ensures.items ∙ terms_listed_all _ (so no_indices))

pub read_named-returns-clause-answer : goal.read_named-returns-clause-answer
read_named-returns-clause-answer t c =
    when_false _ _ (sym c.if-goes_on.ensures) (record { holds = (variable_seen _ (text_of_name c.args.of) c.plain.ensures (unnumbered c.args.of c.requires), refl) })

pub read_index-returns-in_err-skip-clause-answer : goal.read_index-returns-in_err-skip-clause-answer
read_index-returns-in_err-skip-clause-answer t c =
    rw (given c.from_residual.ensures)
    (err_then _ c.in_err-skip.ensures.answer)

pub read_index-returns-in_err-index-clause-answer : goal.read_index-returns-in_err-index-clause-answer
read_index-returns-in_err-index-clause-answer t c =
    rw (given c.from_residual-in_err-index.ensures)
    (ok_then _ c.in_ok-skip.ensures.answer λ a0 p0.
    err_then _ c.in_err-index.ensures.answer)

pub read_further-returns-in_err-skip-clause-answer : goal.read_further-returns-in_err-skip-clause-answer
read_further-returns-in_err-skip-clause-answer t c =
    rw (given c.from_residual.ensures)
    (err_then _ c.in_err-skip.ensures.answer)

pub read_further-returns-in_err-index-clause-answer : goal.read_further-returns-in_err-index-clause-answer
read_further-returns-in_err-index-clause-answer t c =
    rw (given c.from_residual-in_err-index.ensures)
    (ok_then _ c.in_ok-skip.ensures.answer λ a0 p0.
    err_then _ c.in_err-index.ensures.answer)

pub read_further-returns-clause-answer : goal.read_further-returns-clause-answer
read_further-returns-clause-answer t c =
    ok_then _ c.in_ok-skip.ensures.answer λ opener p0.
    ok_then _ c.in_ok-index.ensures.answer λ e p1.
    through (λ closer. index opener e closer) c.put_index.ensures.answer (λ v p s. (c.in_ok-index.index, (s, p1)))

pub read_further-returns-clause-taken : goal.read_further-returns-clause-taken
read_further-returns-clause-taken t c = took_ok c.put_index.result (search rules)

pub read_bracketed-returns-in_err-inner-clause-answer : goal.read_bracketed-returns-in_err-inner-clause-answer
read_bracketed-returns-in_err-inner-clause-answer t c =
    rw (bracket_is c.args.opening c.args.reader.now.rest.now, given c.from_residual.ensures)
    (err_then _ c.in_err-inner.ensures.answer)

pub read_access-returns-then-not-is_next-clause-answer : goal.read_access-returns-then-not-is_next-clause-answer
read_access-returns-then-not-is_next-clause-answer t c =
    rw (element_is (text_of_name c.args.of) _ (sym c.if-not-is_next.ensures))
    (made_of (λ p. element (text_of_name c.args.of) p.0 p.1) c.read_indices-indices.ensures.answer c.element_of.ensures
    (λ es e p s m. access_seen c.args.of (text_of_name c.args.of) es p.0 p.1 m (unnumbered c.args.of c.requires) s))

pub read_access-returns-clause-answer : goal.read_access-returns-clause-answer
read_access-returns-clause-answer t c =
    rw (row_is (text_of_name c.args.of) _ (sym c.if-not-is_next.ensures))
    (made_of (λ p. physical (text_of_name c.args.of) p.0.opener p.0.bank p.0.closer p.1) c.read_row-row.ensures.answer c.row_of.ensures
    (λ w e p s m. physical_seen c.args.of (text_of_name c.args.of) w p.0 p.1 m (unnumbered c.args.of c.requires) s))

pub read_row-returns-in_err-bank-clause-answer : goal.read_row-returns-in_err-bank-clause-answer
read_row-returns-in_err-bank-clause-answer t c =
    rw (given c.from_residual.ensures)
    (err_then _ c.in_err-bank.ensures.answer)

pub read_row-returns-in_err-row-clause-answer : goal.read_row-returns-in_err-row-clause-answer
read_row-returns-in_err-row-clause-answer t c =
    rw (given c.from_residual-in_err-row.ensures)
    (ok_then _ c.in_ok-bank.ensures.answer λ b p0.
    err_then _ c.in_err-row.ensures.answer)

pub read_row-returns-clause-answer : goal.read_row-returns-clause-answer
read_row-returns-clause-answer t c =
    ok_then _ c.in_ok-bank.ensures.answer λ b p0.
    ok_then _ c.in_ok-row.ensures.answer λ i p1.
    record { holds = ((p0, p1), refl) }

pub read_expression-loop-op-preserved : goal.read_expression-loop-op-preserved
read_expression-loop-op-preserved t c = record {
  chains = joins_goes c.loop-op.invariant.chains c.in-Some.ensures.took (rw c.level_above.ensures at c.read_expression-right.ensures.answer) c.in_ok-left-2.ensures (search rules);
  commands = search rules;
  shorter = search rules;
}

pub read_expression-returns-in_err-left-2-clause-answer : goal.read_expression-returns-in_err-left-2-clause-answer
read_expression-returns-in_err-left-2-clause-answer t c =
    rw (given c.from_residual-in_err-left-2.ensures)
    (joins_refused c.loop-op.invariant.chains c.in-Some.ensures.took (rw c.level_above.ensures at c.read_expression-right.ensures.answer) c.in_err-left-2.ensures)

pub read_index-returns-clause-answer : goal.read_index-returns-clause-answer
read_index-returns-clause-answer t c =
    ok_then _ c.in_ok-skip.ensures.answer λ opener p0.
    ok_then _ c.in_ok-index.ensures.answer λ e p1.
    through (λ closer. index opener e closer) c.read_closing.ensures.answer (λ v p s. ap term_seen s ∙ p1)

pub read_index-returns-clause-taken : goal.read_index-returns-clause-taken
read_index-returns-clause-taken t c = took_ok c.read_closing.result (search rules)

pub read_bracketed-returns-then-not-is_next-clause-answer : goal.read_bracketed-returns-then-not-is_next-clause-answer
read_bracketed-returns-then-not-is_next-clause-answer t c =
    rw (bracket_is c.args.opening c.args.reader.now.rest.now)
    (ok_then _ c.in_ok-inner.ensures.answer λ e p0.
    when_false _ _ (sym c.if-not-is_next.ensures)
    (through (λ closer. bracket c.args.opening e closer) c.read_closing.ensures.answer (λ v p s. ap term_seen s ∙ p0)))

pub read_bracketed-returns-clause-answer : goal.read_bracketed-returns-clause-answer
read_bracketed-returns-clause-answer t c =
    rw (bracket_is c.args.opening c.args.reader.now.rest.now)
    (ok_then _ c.in_ok-inner.ensures.answer λ e p0.
    when_true _ _ (sym c.if-not-is_next.ensures)
    (through (λ k. cast c.args.opening e k.word k.kind k.closer) c.read_cast_of.ensures.answer (λ v k s. cast_seen c.args.opening c.in_ok-inner.inner v e k s p0)))
