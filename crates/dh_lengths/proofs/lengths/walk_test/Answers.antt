use Rattle.std.proofs.lemmas.Result.{on_ok_weaker}
use Rattle.dh_lengths.proofs.PhaseWalking.{tested_so}
use Rattle.dh_lengths.proofs.lengths.walk_test.Goals as goal

pub returns : goal.returns
returns c = on_ok_weaker c.tell.result (λ t. tested_so c.args.walk.now c.close.new.walk c.tell.new.walk c.level_term.new.held c.args.test.now c.in_ok-level_term.field-0 c.in_ok-close.ensures c.in_ok-level_term.ensures t) c.tell.ensures
