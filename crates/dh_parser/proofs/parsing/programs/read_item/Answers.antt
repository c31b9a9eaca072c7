use Rattle.std.proofs.Common.{refl}
use Rattle.dh_parser.proofs.Going.{ok_then, err_then, given}
use Rattle.dh_parser.proofs.FirstTokens.{first_is}
use Rattle.dh_parser.proofs.ItemLoops.{item_at}
use Rattle.dh_parser.proofs.parsing.programs.read_item.Goals as goal

pub returns-in_err-function-in-Def-clause-answer : goal.returns-in_err-function-in-Def-clause-answer
returns-in_err-function-in-Def-clause-answer c =
    rw (item_at _ _ c.token-item.result _ (first_is _ _ c.in-len1-up.len_at_least c.token-item.is) c.in-Def.is, given c.from_residual-in_err-function-in-Def.ensures)
    (err_then _ c.in_err-function-in-Def.ensures.answer)

pub returns-in_ok-decl-in-Decl-clause-answer : goal.returns-in_ok-decl-in-Decl-clause-answer
returns-in_ok-decl-in-Decl-clause-answer c =
    rw (item_at _ _ c.token-item.result _ (first_is _ _ c.in-len1-up.len_at_least c.token-item.is) c.in-Decl.is)
    (ok_then _ (c.in_ok-decl-in-Decl.ensures.answer c.token-item.result.place) λ put s. record { holds = ((s, c.in_ok-decl-in-Decl.ensures.commands), refl) })

pub returns-in_ok-function-in-Def-clause-answer : goal.returns-in_ok-function-in-Def-clause-answer
returns-in_ok-function-in-Def-clause-answer c =
    rw (item_at _ _ c.token-item.result _ (first_is _ _ c.in-len1-up.len_at_least c.token-item.is) c.in-Def.is)
    (ok_then _ c.in_ok-function-in-Def.ensures.answer λ put s. record { holds = (s, refl) })
