use Rattle.std.proofs.Common.{rules, sym, ◌∙◌}
use Rattle.dh_parser.proofs.FirstTokens.{first_is, sign_is}
use Rattle.dh_parser.proofs.parsing.operators.take_operator.Goals as goal

pub returns-clause-took : goal.returns-clause-took
returns-clause-took c =
    (c.token-item.result.place, sign_is _ _ _ _ _ (first_is _ _ c.in-len1-up.len_at_least c.token-item.is) (sym c.operator_of.ensures ∙ c.in_ok-op.was) (search rules))
