use Rattle.std.proofs.Common.{rules}
use Rattle.dh_parser.proofs.FirstTokens.{first_is, took_first}
use Rattle.dh_parser.proofs.parsing.reading.Reader.take.Goals as goal

-- src/parsing/reading.rt:186:5
pub returns-in-len1-up-clause-took : goal.returns-in-len1-up-clause-took
returns-in-len1-up-clause-took c =
    took_first _ _ _ c.token-item.result (first_is _ _ c.in-len1-up.len_at_least c.token-item.is) (search rules)
