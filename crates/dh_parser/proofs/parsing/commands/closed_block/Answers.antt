use Rattle.std.proofs.Common.{ap}
use Rattle.dh_tree.specs.PlainTrees.{action}
use Rattle.dh_tree.proofs.SeenActions.{block_is}
use Rattle.dh_parser.proofs.Going.{ok_as, err_as, given}
use Rattle.dh_parser.proofs.parsing.commands.closed_block.Goals as goal

pub returns-in_err-skip-clause-answer : goal.returns-in_err-skip-clause-answer
returns-in_err-skip-clause-answer c = rw (given c.from_residual.ensures) (err_as c.in_err-skip.ensures.answer)

pub returns-clause-answer : goal.returns-clause-answer
returns-clause-answer c = ok_as c.in_ok-skip.ensures.answer (λ p s. ap (λ f. action c.args.id c.args.place f) (block_is c.args.body))
