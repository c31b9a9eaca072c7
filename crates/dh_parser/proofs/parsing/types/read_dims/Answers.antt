use Rattle.std.proofs.Common.{rules}
use Rattle.dh_parser.specs.Grammar.{no_dims}
use Rattle.dh_parser.specs.Reading.{the_dims, the_dim}
use Rattle.dh_parser.proofs.Going.{given}
use Rattle.dh_parser.proofs.Loops.{loop_goes, loop_refused, loop_done, loop_begins, listed, all_listed}
use Rattle.dh_parser.proofs.DimLoops.{dims_go, dims_end}
use Rattle.dh_parser.proofs.parsing.types.read_dims.Goals as goal

pub loop-reader-init : goal.loop-reader-init
loop-reader-init c = record {
  loops = loop_begins the_dims c.args.reader.now.rest.now (λ more. (search rules, search rules));
  commands = search rules;
  shorter = search rules;
}

pub returns-in_err-written-clause-answer : goal.returns-in_err-written-clause-answer
returns-in_err-written-clause-answer c =
    rw (given c.from_residual-in_err-written.ensures)
    (loop_refused the_dim (λ put more. put more) c.loop-reader.invariant.loops (dims_go _ (search rules)) c.in_err-written.ensures.answer)

pub loop-reader-preserved : goal.loop-reader-preserved
loop-reader-preserved c = record {
  loops = loop_goes the_dim (λ put more. put more) c.loop-reader.invariant.loops (dims_go _ (search rules)) c.in_ok-written.ensures.answer (search rules) (λ put one so same more.
      (listed _ (so (one more)).0 (same more).0 c.in_ok-push.ensures, listed _ (so (one more)).1 (same more).1 c.in_ok-push-2.ensures));
  commands = search rules;
  shorter = search rules;
}

pub returns-clause-answer : goal.returns-clause-answer
returns-clause-answer c =
    loop_done no_dims c.loop-reader.invariant.loops (dims_end _ (search rules)) (λ put so. (all_listed _ (so no_dims).0, all_listed _ (so no_dims).1))
