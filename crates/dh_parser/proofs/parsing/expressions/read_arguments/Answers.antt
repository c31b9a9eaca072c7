use Rattle.std.proofs.Common.{rules, ◌≡◌, ◌++◌, map, refl, sym, subst}
use Rattle.dh_tree.specs.Seen.{term_seen}
use Rattle.dh_parser.specs.Grammar.{MoreArgumentsText, ArgumentsText, argument_then, some_arguments, no_more_arguments}
use Rattle.dh_parser.specs.TreesOfTexts.{arguments_of, more_arguments_of}
use Rattle.dh_parser.specs.Reading.{Outcome, more_arguments, the_argument}
use Rattle.dh_parser.proofs.Going.{ok_then, err_then, given}
use Rattle.dh_parser.proofs.Loops.{Loops, loop_after, loop_goes, loop_refused, loop_last}
use Rattle.dh_parser.proofs.TermLoops.{seen_first, seen_listed, seen_all, arguments_go, arguments_end, some_arguments_is}
use Rattle.dh_parser.proofs.parsing.expressions.read_arguments.Goals as goal

pub loop-reader-init : goal.loop-reader-init
loop-reader-init c = record {
  loops = subst (λ (w : Outcome ArgumentsText). Loops more_arguments c.read_expression.new.reader.rest.now w (λ put. (more : MoreArgumentsText) → arguments_of (put more) ≡ map term_seen c.push.new.self.items ++ more_arguments_of more))
      (some_arguments_is _ (sym c.if-is_next.ensures))
      (loop_after more_arguments some_arguments c.in_ok-first.ensures.answer (λ e s more. seen_first _ _ c.in_ok-push.ensures.items c.new-arguments.ensures.items s));
  commands = search rules;
  shorter = search rules;
}

pub returns-in_err-argument-clause-answer : goal.returns-in_err-argument-clause-answer
returns-in_err-argument-clause-answer c =
    rw (given c.from_residual-in_err-argument.ensures)
    (loop_refused the_argument (λ a. argument_then a.0 a.1) c.loop-reader.invariant.loops (arguments_go _ (sym c.loop-reader-test.ensures)) c.in_err-argument.ensures.answer)

pub loop-reader-preserved : goal.loop-reader-preserved
loop-reader-preserved c = record {
  loops = loop_goes the_argument (λ a. argument_then a.0 a.1) c.loop-reader.invariant.loops (arguments_go _ (sym c.loop-reader-test.ensures)) c.in_ok-argument.ensures.answer (search rules)
      (λ put a so s more. seen_listed _ _ _ (so (argument_then a.0 a.1 more)) c.in_ok-push-2.ensures.items s);
  commands = search rules;
  shorter = search rules;
}

pub returns-in_err-skip-2-clause-answer : goal.returns-in_err-skip-2-clause-answer
returns-in_err-skip-2-clause-answer c =
    rw (given c.from_residual-in_err-skip-2.ensures)
    (loop_last _ c.loop-reader.invariant.loops (arguments_end _ (sym c.loop-reader-test.ensures)) (err_then _ c.in_err-skip-2.ensures.answer))

pub returns-clause-answer : goal.returns-clause-answer
returns-clause-answer c =
    loop_last _ c.loop-reader.invariant.loops (arguments_end _ (sym c.loop-reader-test.ensures))
    (ok_then _ c.in_ok-skip-2.ensures.answer λ closer p. record { holds = ((λ put so. seen_all _ (so (no_more_arguments closer))), refl) })
