use Rattle.std.proofs.Common.{rules, [], ◌∷◌, map, ap, sym}
use Rattle.dh_tree.specs.Seen.{factor_seen}
use Rattle.dh_parser.specs.Reading.{the_suffix, more_of}
use Rattle.dh_parser.proofs.Going.{given}
use Rattle.dh_parser.proofs.Loops.{loop_after, loop_goes, loop_refused, loop_done}
use Rattle.dh_parser.proofs.BracketLoops.{pushed_map, first_in, next_in, all_in, suffix_seen, brackets_go, brackets_end}
use Rattle.dh_parser.proofs.parsing.views.read_suffixes.Goals as goal

pub loop-reader-init : goal.loop-reader-init
loop-reader-init c = record {
  loops = loop_after (more_of the_suffix) (λ a more. (a, more)) c.in_ok-first.ensures.answer (λ a s more. (first_in _ _ (pushed_map _ factor_seen _ c.in_ok-push.ensures.items) (ap (λ l. map factor_seen l) c.in_ok-by.ensures.items) (suffix_seen _ _ a s), first_in _ _ c.in_ok-push-2.ensures.items c.in_ok-by_place.ensures.items s.0.1));
  commands = search rules;
  shorter = search rules;
}

pub returns-in_err-factor-clause-answer : goal.returns-in_err-factor-clause-answer
returns-in_err-factor-clause-answer c =
    rw (given c.from_residual-in_err-factor.ensures)
    (loop_refused the_suffix (λ a more. a ∷ more) c.loop-reader.invariant.loops (brackets_go the_suffix _ (sym c.loop-reader-test.ensures)) c.in_err-factor.ensures.answer)

pub loop-reader-preserved : goal.loop-reader-preserved
loop-reader-preserved c = record {
  loops = loop_goes the_suffix (λ a more. a ∷ more) c.loop-reader.invariant.loops (brackets_go the_suffix _ (sym c.loop-reader-test.ensures)) c.in_ok-factor.ensures.answer (search rules)
      (λ put a so s more. (next_in _ _ _ (so (a ∷ more)).0 (pushed_map _ factor_seen _ c.in_ok-push-3.ensures.items) (suffix_seen _ _ a s), next_in _ _ _ (so (a ∷ more)).1 c.in_ok-push-4.ensures.items s.0.1));
  commands = search rules;
  shorter = search rules;
}

pub returns-clause-answer : goal.returns-clause-answer
returns-clause-answer c =
    loop_done [] c.loop-reader.invariant.loops (brackets_end the_suffix _ (sym c.loop-reader-test.ensures)) (λ put so. (all_in _ (so []).0, all_in _ (so []).1))
