use Rattle.std.proofs.Common.{length, ap, ◌∙◌}
use Rattle.dh_sem.proofs.FirstRun.{long_zeros}
use Rattle.dh_sem.proofs.starting.first_state.Goals as goal

pub returns : goal.returns
returns c = record {
  variables_are = c.in_ok-variables.ensures;
  given_long = ap (λ l. length l) c.in_ok-given.ensures ∙ long_zeros c.args.operations;
  banks_long = c.in_ok-unspent.ensures.0;
  unspent = c.in_ok-unspent.ensures.1;
}
