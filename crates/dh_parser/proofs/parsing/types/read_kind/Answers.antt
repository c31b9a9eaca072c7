use Rattle.std.proofs.Common.{rules}
use Rattle.dh_parser.proofs.FirstTokens.{first_is, kind_at}
use Rattle.dh_parser.proofs.Going.{ok_as}
use Rattle.dh_parser.proofs.parsing.types.read_kind.Goals as goal

pub returns-in_err-read_width-in-Bit-clause-answer :
    goal.returns-in_err-read_width-in-Bit-clause-answer
returns-in_err-read_width-in-Bit-clause-answer c =
    let e = kind_at _ _ c.token-item.result _ (first_is _ _ c.in-len1-up.len_at_least c.token-item.is) c.in-Bit.is in
    let h = c.in_err-read_width-in-Bit.ensures.signed c.token-item.result.place in
    rw e (search rules)

pub returns-in_err-read_width-in-Ubit-clause-answer :
    goal.returns-in_err-read_width-in-Ubit-clause-answer
returns-in_err-read_width-in-Ubit-clause-answer c =
    let e = kind_at _ _ c.token-item.result _ (first_is _ _ c.in-len1-up.len_at_least c.token-item.is) c.in-Ubit.is in
    let h = c.in_err-read_width-in-Ubit.ensures.answer c.token-item.result.place in
    rw e (search rules)

pub returns-in_ok-read_width-in-Bit-clause-answer :
    goal.returns-in_ok-read_width-in-Bit-clause-answer
returns-in_ok-read_width-in-Bit-clause-answer c =
    let e = kind_at _ _ c.token-item.result _ (first_is _ _ c.in-len1-up.len_at_least c.token-item.is) c.in-Bit.is in
    let h = c.in_ok-read_width-in-Bit.ensures.signed c.token-item.result.place in
    rw e (search rules)

pub returns-in_ok-read_width-in-Ubit-clause-answer :
    goal.returns-in_ok-read_width-in-Ubit-clause-answer
returns-in_ok-read_width-in-Ubit-clause-answer c =
    let e = kind_at _ _ c.token-item.result _ (first_is _ _ c.in-len1-up.len_at_least c.token-item.is) c.in-Ubit.is in
    rw e (ok_as (c.in_ok-read_width-in-Ubit.ensures.answer c.token-item.result.place) (λ a h. h))
