use Rattle.std.proofs.Common.{rules, ◌≡◌, ◌++◌, map, refl, ap, sym, subst}
use Rattle.dh_tree.specs.Seen.{formal_seen}
use Rattle.dh_parser.specs.Grammar.{MoreParametersText, ParametersText, parameter_then, some_parameters, no_more_parameters}
use Rattle.dh_parser.specs.TreesOfTexts.{formals_of, more_formals}
use Rattle.dh_parser.specs.Reading.{Outcome, more_parameters, further_parameter}
use Rattle.dh_parser.proofs.Going.{ok_then, err_then, given}
use Rattle.dh_parser.proofs.Loops.{Loops, loop_after, loop_goes, loop_refused, loop_last}
use Rattle.dh_parser.proofs.BracketLoops.{pushed_map, first_in, next_in, all_in}
use Rattle.dh_parser.proofs.ItemLoops.{parameters_go, parameters_end, some_parameters_is}
use Rattle.dh_parser.proofs.parsing.programs.read_parameters.Goals as goal

pub loop-reader-init : goal.loop-reader-init
loop-reader-init c = record {
  loops = subst (λ (w : Outcome ParametersText). Loops more_parameters c.read_parameter.new.reader.rest.now w (λ put. (more : MoreParametersText) → formals_of (put more) ≡ map formal_seen c.push.new.self.items ++ more_formals more))
      (some_parameters_is _ (sym c.if-is_next.ensures))
      (loop_after more_parameters some_parameters c.in_ok-first.ensures.answer (λ p s more. first_in _ _ (pushed_map _ formal_seen _ c.in_ok-push.ensures.items) (ap (λ l. map formal_seen l) c.new-parameters.ensures.items) s));
  commands = search rules;
  shorter = search rules;
}

pub returns-in_err-parameter-clause-answer : goal.returns-in_err-parameter-clause-answer
returns-in_err-parameter-clause-answer c =
    rw (given c.from_residual-in_err-parameter.ensures)
    (loop_refused further_parameter (λ a. parameter_then a.0 a.1) c.loop-reader.invariant.loops (parameters_go _ (sym c.loop-reader-test.ensures)) c.in_err-parameter.ensures.answer)

pub loop-reader-preserved : goal.loop-reader-preserved
loop-reader-preserved c = record {
  loops = loop_goes further_parameter (λ a. parameter_then a.0 a.1) c.loop-reader.invariant.loops (parameters_go _ (sym c.loop-reader-test.ensures)) c.in_ok-parameter.ensures.answer (search rules)
      (λ put a so s more. next_in _ _ _ (so (parameter_then a.0 a.1 more)) (pushed_map _ formal_seen _ c.in_ok-push-2.ensures.items) s);
  commands = search rules;
  shorter = search rules;
}

pub returns-in_err-skip-2-clause-answer : goal.returns-in_err-skip-2-clause-answer
returns-in_err-skip-2-clause-answer c =
    rw (given c.from_residual-in_err-skip-2.ensures)
    (loop_last _ c.loop-reader.invariant.loops (parameters_end _ (sym c.loop-reader-test.ensures)) (err_then _ c.in_err-skip-2.ensures.answer))

pub returns-clause-answer : goal.returns-clause-answer
returns-clause-answer c =
    loop_last _ c.loop-reader.invariant.loops (parameters_end _ (sym c.loop-reader-test.ensures))
    (ok_then _ c.in_ok-skip-2.ensures.answer λ closer p. record { holds = ((λ put so. all_in _ (so (no_more_parameters closer))), refl) })
