-- The three laws, as they are proved in `CutOnce`.
use Rattle.dh_lexer.proofs.CutOnce.{one_list, one_breach, not_both}
use Rattle.dh_lexer.proofs.lexing.tokens_are_one.Goals as goal

pub returns : goal.returns
returns c = record { tokens = one_list; breach = one_breach; either = not_both }
