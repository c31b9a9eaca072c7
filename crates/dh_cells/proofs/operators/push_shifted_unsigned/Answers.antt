use Rattle.std.proofs.lemmas.Result.{IfOk-weaker}
use Rattle.dh_cells.proofs.ShiftsMade.{right_gone}
use Rattle.dh_cells.proofs.operators.push_shifted_unsigned.Goals as goal

pub returns-then-is_constant_from : goal.returns-then-is_constant_from
returns-then-is_constant_from c =
    IfOk-weaker c.push_constant.result _ _
    (λ wire h. right_gone _ _ wire c.args.bits c.args.a c.args.b c.requires.left (c.is_constant_from.ensures.shows c.if-is_constant_from.true) h)
    c.push_constant.ensures
